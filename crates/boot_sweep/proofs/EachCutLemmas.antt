-- What is known of a slot stays known while its steps are done, torn or cut.
use Rattle.std.proofs.Common.{ℕ, true, false, List, Option}
use Rattle.pico_board.specs.declared.Step.{Step}
use Rattle.pico_board.specs.Content.{Content}
use Rattle.pico_board.specs.Cuts.{torn_by}
use Rattle.pico_board.specs.Steps.{after}
use Rattle.boot_sweep.specs.declared.slots.Slot.{Slot}
use Rattle.boot_sweep.specs.declared.slots.Last.{Last}
use Rattle.boot_sweep.specs.EachCut.{Compared, Remembers}
use Rattle.boot_sweep.specs.Moving.{MoveView, Done, Torn, after_move, moved_step}
use Rattle.boot_sweep.specs.Verdicts.{LiesIn}
use Rattle.boot_sweep.proofs.KnownLemmas.{known-done, known-torn}

module _ (by : Compared) (is_first : Content → Type 0) (slot : Option Slot) (last : Option Last) (d : Content) where
  pub remembers-torn : (pattern : List ℕ) (step : Step) → LiesIn slot step → Remembers by is_first slot last d
      → Remembers by is_first slot last (torn_by pattern d step)
  remembers-torn pattern step inside known =
      (known.0, known.1, known-torn known.0 by.cpu by.former by.finished pattern slot last d step inside known.2)

  pub remembers-done : (step : Step) → LiesIn slot step → Remembers by is_first slot last d
      → Remembers by is_first slot last (after d step)
  remembers-done step inside known =
      (known.0, known.1, known-done known.0 by.cpu by.former by.finished slot last d step inside known.2)

  pub remembers-moved : (moved : MoveView) → LiesIn slot (moved_step moved) → Remembers by is_first slot last d
      → Remembers by is_first slot last (after_move d moved)
  remembers-moved (Done step) inside known = remembers-done step inside known
  remembers-moved (Torn step true pattern) inside known = remembers-torn pattern step inside known
  remembers-moved (Torn step false pattern) inside known = known
