-- Records that one line gives behind different tokens.
use Rattle.std.specs.Prelude.{ℕ, ◌≡◌, ◌+◌, List, ◌∷◌, ◌++◌, length}
use Rattle.picoboot_cmd.specs.declared.cmd.Cmd.{Cmd}
use Rattle.picoboot_cmd.specs.Commands.{written_command}
use Rattle.boot_script.specs.Events.{EventView, Command}
use Rattle.script_text.specs.Listing.{listed_event, listed_from}

-- the command with another token
abbrev pub with_number : Cmd → ℕ → Cmd
with_number cmd token = record {
  token = token;
  id = cmd.id;
  arg_size = cmd.arg_size;
  transfer = cmd.transfer;
  args = cmd.args;
}

-- the events are one command with one payload, but that each has the token that comes next
pub record DifferInToken (next other : ℕ) (e f : EventView) : Type 0 where
  pub cmd : Cmd
  pub payload : List ℕ
  pub first : e ≡ Command (written_command (with_number cmd next)) payload
  pub second : f ≡ Command (written_command (with_number cmd other)) payload

-- the event is no command
abbrev pub IsNoCommand : EventView → Type 0
IsNoCommand (Command command payload) = ⊥
IsNoCommand e = Unit {0}

-- the lines of events, the first of which has this number, that are no commands, of a command, and
-- of others behind it; only the command's own depend on the token that comes next
pub record HasParts (n : ℕ) (es fs : List EventView) (command payload : List ℕ) : Type 0 where
  pub front : List ℕ
  pub rest : List ℕ
  pub lines : (next : ℕ) → listed_from n next (es ++ (Command command payload ∷ fs))
      ≡ front ++ (listed_event (n + length es) next (Command command payload) ++ rest)
