-- The cuts of what is done to a board, and what a judge knows of them and finds.
use Rattle.std.specs.Prelude.{◌≡◌, ℕ, List, [], ◌∷◌, Option}
use Rattle.std.specs.List.{AllByRecursion}
use Rattle.pico_board.specs.declared.boot.Cpu.{Cpu}
use Rattle.pico_board.specs.Content.{Content}
use Rattle.pico_board.specs.Cuts.{torn_by}
use Rattle.pico_board.specs.Steps.{after}
use Rattle.boot_rules.specs.declared.decision.Decision.{Decision}
use Rattle.boot_sweep.specs.declared.slots.Slot.{Slot}
use Rattle.boot_sweep.specs.declared.slots.Last.{Last}
use Rattle.boot_sweep.specs.Moving.{MoveView, Done, Torn, IsMoveIn, after_move, moved_step}
use Rattle.boot_sweep.specs.Verdicts.{Knows, LiesIn}

-- what a judge compares a decision with: the one before all steps, and the one after them
pub record Compared : Type 0 where
  pub cpu : Cpu
  pub former : Decision
  pub finished : Decision

abbrev pub compared_with : Cpu → Decision → Decision → Compared
compared_with cpu former finished = record { cpu = cpu; former = former; finished = finished }

-- What is known on the content d. Where the steps lie in a slot, d differs there alone from a
-- content that may be the first one, and the decision before was made on such a content.
abbrev pub Remembers : Compared → (Content → Type 0) → Option Slot → Option Last → Content → Type 0
Remembers by is_first slot last d =
    (c : Content) × is_first c × Knows c by.cpu by.former by.finished slot last d

-- each of the moves is possible on a flash of n bytes
abbrev pub AreAllIn : ℕ → List MoveView → Type 0
AreAllIn n moves = AllByRecursion (IsMoveIn n) moves

-- the step of each of the moves lies in the slot, where there is one
abbrev pub LieIn : Option Slot → List MoveView → Type 0
LieIn slot moves = AllByRecursion (λ moved. LiesIn slot (moved_step moved)) moves

-- The answers of the cuts before and within each step that completes were taken, step by step. The
-- first of the moves is done to the content c. What is found led from `old` to `new`.
abbrev pub AreTaken : {A F : Type 0} → (F → A → A → F → Type 0) → (Content → A) → List ℕ → F
    → Content → List MoveView → F → Type 0
AreTaken {A} {F} takes answer pattern old c [] new = new ≡ old
AreTaken {A} {F} takes answer pattern old c (Done step ∷ moves) new =
    (next : F) × takes old (answer c) (answer (torn_by pattern c step)) next
    × AreTaken takes answer pattern next (after c step) moves new
AreTaken {A} {F} takes answer pattern old c (Torn step within own ∷ moves) new =
    AreTaken takes answer pattern old (after_move c (Torn step within own)) moves new
