-- A host's script that is played again.
use Rattle.std.specs.Prelude.{◌≡◌, ⊤, ℕ, ◌+◌, ◌<◌, ◌≤◌, List, [], ◌∷◌, Result, Ok, Err}
use Rattle.std.specs.List.{AllByRecursion}
use Rattle.picoboot_cmd.specs.declared.cmd.Cmd.{Cmd}
use Rattle.picoboot_cmd.specs.declared.cmd.CmdFault.{CmdFault}
use Rattle.picoboot_cmd.specs.declared.kinds.TheConstants.{OTP_WRITE}
use Rattle.picoboot_cmd.specs.Arguments.{first_row, row_count}
use Rattle.picoboot_cmd.specs.Commands.{command_in}
use Rattle.boot_script.specs.Events.{EventView}

-- the event is no UF2 block
abbrev pub IsNoBlock : EventView → Type 0
IsNoBlock (EventView.Uf2 block) = ⊥
IsNoBlock event = ⊤

-- the command is a write of OTP rows, and the row is one of those that it names
abbrev pub IsRowNamed : Result Cmd CmdFault → ℕ → Type 0
IsRowNamed (Ok cmd) row =
    (cmd.id ≡ OTP_WRITE) × (first_row cmd ≤ row) × (row < first_row cmd + row_count cmd)
IsRowNamed (Err fault) row = ⊥

abbrev pub NamesRow : EventView → ℕ → Type 0
NamesRow (EventView.Command command payload) row = IsRowNamed (command_in command) row
NamesRow event row = ⊥

-- no two OTP writes among the events name one row
abbrev pub NamesRowsOnce : List EventView → Type 0
NamesRowsOnce [] = ⊤
NamesRowsOnce (event ∷ events) =
    ((row : ℕ) → NamesRow event row
    → AllByRecursion (λ (other : EventView). NamesRow other row → ⊥) events)
    × NamesRowsOnce events
