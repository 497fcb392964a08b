-- The equality that the types derive is that of the specs.
use Rattle.std.proofs.Common.{◌≡◌, Bool, Option, Some, None, refl, arith, rules}
use Rattle.std.specs.Prelude.{◌&&◌}
use Rattle.std.specs.Option.{option_eq}
use Rattle.std.proofs.lemmas.Grind.{common_steps}
use mathlib.Core.Bool.{beq}
use Rattle.pico_board.specs.declared.window.Window.{Window}
use Rattle.pico_board.specs.contracts.window.WindowPartialEq.TheImpl as windows
use Rattle.image_def.specs.declared.started.Started.{Started}
use Rattle.image_def.specs.contracts.started.StartedPartialEq.TheImpl as images
use Rattle.slot_choice.specs.declared.unit.Member.{Member}
use Rattle.slot_choice.specs.contracts.unit.MemberPartialEq.TheImpl as members
use Rattle.slot_choice.specs.declared.choice.Choice.{Choice}
use Rattle.slot_choice.specs.contracts.choice.ChoicePartialEq.TheImpl as choices
use Rattle.boot_rules.specs.declared.decision.Fall.{Fall}
use Rattle.boot_rules.specs.contracts.decision.FallPartialEq.TheImpl as falls
use Rattle.boot_rules.specs.declared.decision.Decision.{Decision}
use Rattle.boot_rules.specs.declared.decision.Decision.TheVariants.{Start, Bootsel}
use Rattle.boot_rules.specs.contracts.decision.DecisionPartialEq.TheImpl as decisions
use Rattle.boot_sweep.specs.Comparing.{is_same_choice, is_same_decision, is_same_fall, is_same_member, is_same_other, is_same_started, is_same_truth}

derived-started : (s t : Started) → (images.ghosts).eq s t ≡ is_same_started s t
derived-started s t = grind (arith, common_steps)

derived-member : (m n : Member) → (members.ghosts).eq m n ≡ is_same_member m n
derived-member m n = search rules

derived-other : (o p : Option Window) → option_eq (windows.ghosts).eq o p ≡ is_same_other o p
derived-other None None = refl
derived-other None (Some w) = refl
derived-other (Some v) None = refl
derived-other (Some v) (Some w) = refl

derived-truth : (a b : Bool) → beq a b ≡ is_same_truth a b
derived-truth a b = search rules

both : (a b c d : Bool) → a ≡ c → b ≡ d → (a && b) ≡ (c && d)
both a b c d e f = cc

derived-choice : (a b : Choice) → (choices.ghosts).eq a b ≡ is_same_choice a b
derived-choice a b =
    both _ _ _ _ (derived-started a.image b.image) (both _ _ _ _ (derived-member a.member b.member)
    (both _ _ _ _ (derived-other a.other b.other) (derived-truth a.updated b.updated)))

derived-fall : (e f : Fall) → (falls.ghosts).eq e f ≡ is_same_fall e f
derived-fall e f = search rules

pub derived-decision : (d e : Decision) → (decisions.ghosts).eq d e ≡ is_same_decision d e
derived-decision (Start a) (Start b) = derived-choice a b
derived-decision (Start a) (Bootsel f) = refl
derived-decision (Bootsel e) (Start b) = refl
derived-decision (Bootsel e) (Bootsel f) = derived-fall e f
