use Rattle.std.proofs.Common.{◌≡◌, take}
use Rattle.std.specs.Prelude.{count_by}
use Rattle.boot_sweep.specs.Moving.{moved_step}
use Rattle.boot_tape.specs.Moving.{moves_from}
use Rattle.check_records.specs.Caveats.{is_program}
use Rattle.check_records.proofs.caveats.programs.Given as goal

abbrev pub invariant-loop-moved : goal.invariant-loop-moved
invariant-loop-moved l =
    l.count ≡ count_by (λ m. is_program (moved_step m)) (moves_from (take l.moved-index l.moves))
