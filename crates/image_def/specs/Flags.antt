-- The flags of an IMAGE_TYPE item: the third and the fourth byte of its header (RP2350 Datasheet,
-- chapter 5, "Image definition items").
use Rattle.std.specs.Prelude.{ℕ, ◌+◌, ◌*◌, ◌/◌, ◌%◌, ◌^◌, Bool, ◌==◌}
use Rattle.block_codec.specs.declared.items.Item.{Item}

-- the sixteen flag bits, low byte first
abbrev pub flags_of : Item → ℕ
flags_of item = item.low + 256 * item.high

-- bits 0 to 3: 1 is executable, 2 is data
abbrev pub image_kind : ℕ → ℕ
image_kind flags = flags % 2 ^ 4

-- bits 4 to 5: 1 is non-secure, 2 is secure
abbrev pub security_of : ℕ → ℕ
security_of flags = flags / 2 ^ 4 % 2 ^ 2

-- bits 8 to 10: 0 is Arm, 1 is RISC-V
abbrev pub processor_of : ℕ → ℕ
processor_of flags = flags / 2 ^ 8 % 2 ^ 3

-- bits 12 to 14: 0 is the RP2040, 1 is the RP2350
abbrev pub chip_of : ℕ → ℕ
chip_of flags = flags / 2 ^ 12 % 2 ^ 3

-- bit 15: the image is to be tried before it is bought
abbrev pub is_trial : ℕ → Bool
is_trial flags = flags / 2 ^ 15 % 2 == 1
