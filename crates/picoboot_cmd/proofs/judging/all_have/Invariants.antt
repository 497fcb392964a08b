-- The sectors from here on all have the right exactly where all of them have.
use Rattle.std.proofs.Common.{◌≡◌, ◌-◌, Some}
use Rattle.picoboot_cmd.specs.Sectors.{all_allowed}
use Rattle.picoboot_cmd.proofs.judging.all_have.Given as goal

abbrev pub invariant-loop-sector : goal.invariant-loop-sector
invariant-loop-sector l =
    all_allowed (Some l.table) l.right l.sector (l.end - l.sector)
    ≡ all_allowed (Some l.table) l.right l.first (l.end - l.first)
