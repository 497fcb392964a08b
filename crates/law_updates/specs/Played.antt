-- A script that is played on a board.
use Rattle.std.specs.Prelude.{List, length}
use Rattle.std.specs.List.{AllByRecursion}
use Rattle.pico_board.specs.declared.boot.Cpu.{Cpu}
use Rattle.pico_board.specs.Content.{Content, IsContent}
use Rattle.boot_script.specs.Events.{EventView}
use Rattle.boot_machine.specs.Plays.{IsOfBytes, powerless}
use Rattle.boot_tape.specs.Moving.{IsMoveIn}
use Rattle.boot_tape.specs.Traces.{moves_in}

-- the content is that of a board, the patterns of the script's cuts are of bytes, and each step
-- that it does or cuts lies in that board
pub record IsOnBoard (c : Content) (cpu : Cpu) (events : List EventView) : Type 0 where
  pub content : IsContent c
  pub bytes : AllByRecursion IsOfBytes events
  pub inside : AllByRecursion (IsMoveIn (length c.flash)) (moves_in (powerless c cpu) events)
