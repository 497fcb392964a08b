-- The words of the processors, as a user types them. This project's own.
use Rattle.std.specs.Prelude.{ℕ, List, Option, Some, None, if◌then◌else◌, codes, bytes_eq}
use Rattle.pico_board.specs.declared.boot.Cpu.{Cpu}
use Rattle.pico_board.specs.declared.boot.Cpu.TheVariants.{Arm, Riscv}

-- the processor that a word names
abbrev pub cpu_of : List ℕ → Option Cpu
cpu_of word =
    if bytes_eq word (codes "arm") then Some Arm
    else if bytes_eq word (codes "riscv") then Some Riscv
    else None
