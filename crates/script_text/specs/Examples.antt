-- What the worked examples name.
use Rattle.std.specs.Prelude.{ℕ, Bool, List, [], ◌∷◌, ◌++◌, replicate, Result}
use Rattle.byteorder.specs.Endian.{little_bytes}
use Rattle.picoboot_cmd.specs.Commands as commands
use Rattle.picoboot_cmd.specs.Examples.{command}
use Rattle.info_reply.specs.declared.kinds.TheConstants.{INFO}
use Rattle.uf2_place.specs.declared.block.TheConstants.{SECOND, END}
use Rattle.script_words.specs.Splitting.{words_in}
use Rattle.script_text.specs.declared.script.TextFault.{TextFault}
use Rattle.script_text.specs.Comments.{command_text, uf2_text}
use Rattle.script_text.specs.Reading.{Before, Step, line_step}

-- the comment of a command with token 1
abbrev pub note : ℕ → ℕ → List ℕ → List ℕ
note id arg_size args = command_text (commands.written_command (command id arg_size 0 args))

-- the comment of an info command
abbrev pub info_note : ℕ → ℕ → List ℕ
info_note kind argument =
    note INFO 16 (kind ∷ 0 ∷ 0 ∷ 0 ∷ (little_bytes 4 argument ++ replicate 8 0))

-- the comment of a reboot
abbrev pub reboot_note : ℕ → List ℕ
reboot_note flags =
    note 0x0a 16 (little_bytes 4 flags
    ++ (little_bytes 4 0 ++ (little_bytes 4 0x20000000 ++ little_bytes 4 0x1c)))

-- the comment of a UF2 block with a page of zeros
abbrev pub block_note : ℕ → ℕ → ℕ → ℕ → ℕ → List ℕ
block_note magic payload address number count = uf2_text (
    little_bytes 4 magic
    ++ (little_bytes 4 SECOND
    ++ (little_bytes 4 0x2000
    ++ (little_bytes 4 address
    ++ (little_bytes 4 payload
    ++ (little_bytes 4 number
    ++ (little_bytes 4 count
    ++ (little_bytes 4 0xe48bff59 ++ (replicate 476 0 ++ little_bytes 4 END))))))))
    )

-- so many records with so many bytes came before; no `end` line or one
abbrev pub before : ℕ → ℕ → Bool → Before
before count size ended = record { next = 1; ended = ended; count = count; size = size }

-- what a line adds, without an image
abbrev pub step : Before → List ℕ → Result Step TextFault
step s line = line_step [] s (words_in line)
