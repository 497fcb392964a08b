-- The script of a host that copies a UF2 file to the board's drive.
use Rattle.std.specs.Prelude.{ℕ, zero, suc, ◌/◌, false, List, [], ◌∷◌, ◌++◌, length, map, take, drop, codes, decimal}
use Rattle.pico_board.specs.declared.boot.BootKind.TheVariants.{Bootsel}
use Rattle.boot_script.specs.Events.{EventView, PowerOn, Reset, Uf2}
use Rattle.cli_course.specs.Outcomes.{Work, Answers, line, one_file}
use Rattle.script_text.specs.Reading.{script_of}

-- the first n blocks of 512 bytes
abbrev pub blocks_in : ℕ → List ℕ → List (List ℕ)
blocks_in zero bytes = []
blocks_in (suc n) bytes = take 512 bytes ∷ blocks_in n (drop 512 bytes)

-- power comes back, the board is reset to BOOTSEL, and the blocks are copied in file order
abbrev pub copy_events : List (List ℕ) → List EventView
copy_events blocks = PowerOn ∷ Reset Bootsel ∷ map (λ block. Uf2 block) blocks

-- the line of so many blocks
abbrev pub copy_line : ℕ → List ℕ
copy_line n = codes "copy blocks=" ++ line (decimal n)

-- the line of the number of a file's blocks, and the script that copies them
abbrev pub copy_work : List ℕ → List ℕ → Work
copy_work out bytes =
    let blocks = blocks_in (length bytes / 512) bytes in Answers false (copy_line (length blocks))
    (one_file out (script_of (copy_events blocks)))
