-- The power of a board in memory: the cut that is armed, and whether it falls due.
use Rattle.std.specs.Prelude.{◌==◌, Bool, if◌then◌else◌, Option, None, Some}
use Rattle.pico_board.specs.declared.supply.Supply.{Supply}
use Rattle.pico_board.specs.Cuts.{Cut, cut_with}

-- the armed cut
abbrev pub armed_of : Supply → Option Cut
armed_of s = if s.is_armed then Some (cut_with s.left s.within s.pattern.items) else None

-- whether a cut that falls due in the next step falls within it, where one falls due
abbrev pub due_of : Option Cut → Option Bool
due_of None = None
due_of (Some cut) = if cut.left == 0 then Some cut.within else None
