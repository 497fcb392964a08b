use Rattle.std.proofs.Common.{◌≡◌, ℕ, Bool, Some, drop}
use Rattle.std.specs.Prelude.{◌||◌, slice_get}
use Rattle.std.specs.List.{list_any}
use Rattle.boot_tape.specs.Moving.{done_steps, moves_from}
use Rattle.check_data.specs.Loose.{is_program_of}
use Rattle.check_data.proofs.loose.mark_moves.Given as goal

-- what is marked so far, and the rest, are all that is to be marked
abbrev pub invariant-loop-moved : goal.invariant-loop-moved
invariant-loop-moved l = (p : ℕ) (b : Bool) → slice_get l.fn.pages p ≡ Some b → (x : Bool)
    × (slice_get l.pages p ≡ Some x)
    × ((x || list_any (is_program_of p) (done_steps (moves_from (drop l.moved-index l.moves))))
    ≡ (b || list_any (is_program_of p) (done_steps (moves_from l.moves))))
