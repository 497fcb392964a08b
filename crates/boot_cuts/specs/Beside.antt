-- Decisions that a slot has no part in.
use Rattle.std.specs.Prelude.{⊤, List, Option, Some, None}
use Rattle.std.specs.List.{AllByRecursion}
use Rattle.pico_board.specs.declared.window.Window.{Window}
use Rattle.pico_board.specs.Content.{AreApart}
use Rattle.boot_rules.specs.declared.decision.Decision.{Decision}
use Rattle.boot_sweep.specs.declared.slots.Slot.{Slot}
use Rattle.boot_sweep.specs.Verdicts.{LiesIn}
use Rattle.boot_sweep.specs.declared.moves.Move.{Move}
use Rattle.boot_tape.specs.Moving.{MoveView, Done, Torn, moves_from}
use Rattle.boot_rules.specs.declared.decision.Decision.TheVariants.{Start, Bootsel}

-- the decision starts an image in a window that shares no byte with this one, or none
abbrev pub StartsApart : Window → Decision → Type 0
StartsApart w (Start choice) = AreApart w choice.image.window
StartsApart w (Bootsel fall) = ⊤

-- a step that completes lies in the slot, where there is one; then no step is cut
abbrev pub IsMoveBeside : Option Slot → MoveView → Type 0
IsMoveBeside slot (Done step) = LiesIn slot step
IsMoveBeside None (Torn step within pattern) = ⊤
IsMoveBeside (Some slot) (Torn step within pattern) = ⊥

abbrev pub AreMovesBeside : Option Slot → List Move → Type 0
AreMovesBeside slot moves = AllByRecursion (IsMoveBeside slot) (moves_from moves)
