-- Worked examples of RAM commands.
use Rattle.std.specs.Prelude.{ℕ, false, List, [], ◌∷◌}
use Rattle.block_codec.specs.Words.{bytes_of}
use Rattle.worked_flashes.specs.Images.{arm_type, hash_of_four, plain_image, trial_type, window_with}
use Rattle.worked_flashes.specs.Flashes.{otp_with}
use Rattle.image_def.specs.declared.started.Started.{Started}
use Rattle.pico_board.specs.Content.{Content}
use Rattle.picoboot_cmd.specs.declared.cmd.Cmd.{Cmd}
use Rattle.picoboot_cmd.specs.declared.kinds.TheConstants.{REBOOT}
use Rattle.picoboot_cmd.specs.Examples.{command}

-- a reboot with these flags, p0 and p1
abbrev pub reboot_into : ℕ → ℕ → ℕ → Cmd
reboot_into flags p0 p1 =
    command REBOOT 16 0 (bytes_of (flags ∷ 0 ∷ p0 ∷ p1 ∷ []))

-- the 28 bytes of an Arm image without an ENTRY_POINT, whose PC is 0x20000021
abbrev pub image_bytes : List ℕ
image_bytes = window_with 0x20000021 (arm_type ∷ []) 0

-- the 28 bytes of an Arm trial image without an ENTRY_POINT, whose PC is 0x20000021
abbrev pub trial_bytes : List ℕ
trial_bytes = window_with 0x20000021 (trial_type ∷ []) 0

-- the 72 bytes of an Arm image whose PC is 0x20000049 and whose HASH_VALUE, of the block's first
-- four words, is this
abbrev pub hashed_bytes : List ℕ → List ℕ
hashed_bytes digest = window_with 0x20000049 (arm_type ∷ hash_of_four digest) 0

-- the records of the two images where they are seen from this address on
abbrev pub image_in_ram : ℕ → Started
image_in_ram base = plain_image (record { start = base; len = 28 }) 0x20000021 false

abbrev pub hashed_in_ram : ℕ → Started
hashed_in_ram base = plain_image (record { start = base; len = 72 }) 0x20000049 false

-- a content without a flash, whose row 0x048 has this value, and whose other rows are 0
abbrev pub with_rows : ℕ → Content
with_rows flags = record { flash = []; otp = otp_with flags 0 0 0 }
