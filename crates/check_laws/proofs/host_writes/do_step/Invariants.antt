use Rattle.std.proofs.Common.{◌≡◌, drop}
use Rattle.std.specs.List.{list_any}
use Rattle.boot_tape.specs.Moving.{does_step, moves_from}
use Rattle.check_laws.proofs.host_writes.do_step.Given as goal

abbrev pub invariant-loop-moved : goal.invariant-loop-moved
invariant-loop-moved l =
    list_any does_step (moves_from (drop l.moved-index l.moves)) ≡ list_any does_step (moves_from l.moves)
