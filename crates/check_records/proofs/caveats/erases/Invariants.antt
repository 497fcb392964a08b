use Rattle.std.proofs.Common.{◌≡◌, take}
use Rattle.std.specs.Prelude.{count_by}
use Rattle.boot_sweep.specs.Moving.{moved_step}
use Rattle.boot_tape.specs.Moving.{moves_from}
use Rattle.check_records.specs.Caveats.{is_erase}
use Rattle.check_records.proofs.caveats.erases.Given as goal

abbrev pub invariant-loop-moved : goal.invariant-loop-moved
invariant-loop-moved l =
    l.count ≡ count_by (λ m. is_erase (moved_step m)) (moves_from (take l.moved-index l.moves))
