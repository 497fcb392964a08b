-- What the worked examples name.
use Rattle.std.specs.Prelude.{ℕ, List, ◌∷◌, ◌++◌, Result, replicate}
use Rattle.byteorder.specs.Endian.{little_bytes}
use Rattle.picoboot_cmd.specs.Commands.{written_command}
use Rattle.picoboot_cmd.specs.Examples.{command}
use Rattle.boot_script.specs.Events.{EventView, Command}
use Rattle.script_words.specs.declared.fault.LineFault.{LineFault}
use Rattle.script_words.specs.Splitting.{words_in}
use Rattle.script_words.specs.Values.{LineView, ValueView, Number, Plain}
use Rattle.script_words.specs.Finding.{line_in}
use Rattle.script_words.specs.Naming.{line_of}
use Rattle.script_words.specs.Spelling.{line_text}

-- what a line says
abbrev pub read : List ℕ → Result LineView LineFault
read text = line_in (words_in text)

-- the line of an event where the next token is 1
abbrev pub listed : EventView → List ℕ
listed e = line_text (line_of 1 e)

-- a command with token 1, these argument words and this payload
abbrev pub sent : (id arg_size transfer : ℕ) → (first second third fourth : ℕ) → List ℕ → EventView
sent id arg_size transfer first second third fourth payload =
    Command (written_command (command id arg_size transfer
    (little_bytes 4 first ++ (little_bytes 4 second ++ (little_bytes 4 third ++ little_bytes 4 fourth))))) payload

-- a UF2 block of the family rp2350-arm-s at the flash's start, the first one of two, with these
-- flags, this payload size and this byte behind its page (UF2 specification, section File format)
abbrev pub block_bytes : (flags payload : ℕ) → List ℕ → ℕ → List ℕ
block_bytes flags payload page behind =
    little_bytes 4 0x0a324655
    ++ (little_bytes 4 0x9e5d5157
    ++ (little_bytes 4 flags
    ++ (little_bytes 4 0x10000000
    ++ (little_bytes 4 payload
    ++ (little_bytes 4 0
    ++ (little_bytes 4 2
    ++ (little_bytes 4 0xe48bff59
    ++ (page ++ (behind ∷ (replicate 219 0 ++ little_bytes 4 0x0ab16f30))))))))))

-- what its line says, where these values stand in the place of its page
abbrev pub block_says : List ValueView → List ValueView
block_says page =
    Number 0 ∷ Plain ∷ Number 2 ∷ Plain ∷ Number 0x10000000 ∷ Number 0xe48bff59 ∷ page
