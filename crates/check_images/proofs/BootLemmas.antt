-- What a normal boot does to a board on which no cut is armed.
use Rattle.std.proofs.Common.{◌≡◌, ◌∙◌, Bool, true, List, Option, Some, None, length, refl, sym, ap, subst}
use Rattle.std.specs.Prelude.{All, IfSome, IsTrue}
use Rattle.pico_board.specs.declared.Step.{Step}
use Rattle.pico_board.specs.declared.boot.Cpu.{Cpu}
use Rattle.pico_board.specs.declared.boot.BootKind.TheVariants.{Normal}
use Rattle.pico_board.specs.declared.mem_board.MemBoard.{MemBoard}
use Rattle.pico_board.specs.declared.window.Window.{Window}
use Rattle.pico_board.specs.Board.{AreCutAsArmed, DoesAll}
use Rattle.pico_board.specs.Content.{Content, IsContent}
use Rattle.pico_board.specs.Cuts.{CutOutcome}
use Rattle.pico_board.specs.MemBoard.{history_of, state_of}
use Rattle.pico_board.specs.Steps.{after_all}
use Rattle.pico_board.proofs.CuttingLemmas.{length-after_all}
use Rattle.pico_board.proofs.CutListLemmas.{told_all-none}
use Rattle.part_table.specs.Windows.{IsPlacedIn}
use Rattle.slot_choice.specs.declared.choice.Choice.{Choice}
use Rattle.trial_buy.specs.Windows.{IsPlacedChoice}
use Rattle.boot_rules.specs.declared.decision.Decision.TheVariants.{Start, Bootsel}
use Rattle.boot_rules.specs.declared.decision.Fall.{Fall}
use Rattle.boot_rules.specs.Choosing.{decision_in}
use Rattle.boot_rules.specs.Chosen.{Chosen}
use Rattle.boot_rules.specs.Picking.{IsInside}
use Rattle.boot_rules.proofs.PlaceLemmas.{placed-inside}
use Rattle.boot_rules.proofs.StartLemmas.{start-other, start-placed}
use Rattle.boot_rules.proofs.DecisionLemmas.{chosen-once}
use Rattle.boot_machine.specs.Boots.{decided_steps}
use Rattle.check_images.specs.Boots.{after_boot}
use Rattle.boot_session.specs.Standing.{IsUnarmed}

if-some : {X : Type 0} (P : X → Type 0) (o : Option X) → ((x : X) → o ≡ Some x → P x) → IfSome o P
if-some P None h = tt
if-some P (Some x) h = h x refl

-- the windows of a choice are placed
pub placed-choice : (c : Content) (cpu : Cpu) (choice : Choice) → IsContent c → Chosen c cpu Normal (Start choice)
    → IsPlacedChoice c choice
placed-choice c cpu choice right start = record {
  started = start-placed c cpu Normal choice right start;
  other = if-some (IsPlacedIn c) choice.other (λ w at. (start-other c cpu Normal choice right start w at).0);
}

-- so the other one stands inside
pub other-inside : (c : Content) (cpu : Cpu) (choice : Choice) → IsContent c → Chosen c cpu Normal (Start choice)
    → (w : Window) → choice.other ≡ Some w → IsInside (length c.flash) w
other-inside c cpu choice right start w at =
    placed-inside (length c.flash) w right.flash_length.whole (start-other c cpu Normal choice right start w at).0

-- all steps complete
pub record IsSettled (old new : MemBoard) (steps : List Step) : Type 0 where
  pub content : (state_of new).content ≡ after_all (state_of old).content steps
  pub ready : IsUnarmed (state_of new)

pub settled : (old new : MemBoard) (steps : List Step) (ok : Bool) → IsUnarmed (state_of old)
    → DoesAll state_of history_of old steps ok new → IsSettled old new steps
settled old new steps ok ready does =
    let c = (state_of old).content in
    let told = subst (λ a. AreCutAsArmed a c steps ok (state_of new)) ready.unarmed does.told in
    let none = told_all-none steps c in
    let whole : true ≡ ok = sym (ap (λ (o : CutOutcome). o.answer) none) ∙ told.answer in record {
      content = told.content ∙ ap (λ (o : CutOutcome). o.content) none;
      ready = record {
        power = subst IsTrue (whole ∙ sym does.power) refl;
        unarmed = told.armed ∙ ap (λ (o : CutOutcome). Some o.armed) none;
      };
    }

-- after a boot the other window stands inside too
pub booted-inside : (z : Content) (cpu : Cpu) (y : Content) (choice : Choice) → IsContent z
    → Chosen z cpu Normal (Start choice) → y ≡ after_boot z cpu → (w : Window) → choice.other ≡ Some w
    → IsInside (length y.flash) w
booted-inside z cpu y choice right start left w at =
    subst (λ n. IsInside n w)
    (sym (ap (λ (x : Content). length x.flash) left
    ∙ length-after_all z (decided_steps z cpu (decision_in z cpu Normal))))
    (other-inside z cpu choice right start w at)

-- a boot that falls starts nothing, and one starts one choice
fall-start : {P : Type 0} (fall : Fall) (choice : Choice) → Bootsel fall ≡ Start choice → P
fall-start fall choice e = cc

pub fall-none : (z : Content) (cpu : Cpu) (fall : Fall) → Chosen z cpu Normal (Bootsel fall) → (choice : Choice)
    → Chosen z cpu Normal (Start choice) → choice.other ≡ None
fall-none z cpu fall falls choice starts =
    fall-start fall choice (chosen-once z cpu Normal (Bootsel fall) (Start choice) falls starts)

same-start : (a b : Choice) → Start a ≡ Start b → a ≡ b
same-start a b e = cc

pub start-none : (z : Content) (cpu : Cpu) (choice : Choice) → Chosen z cpu Normal (Start choice)
    → choice.other ≡ None → (other : Choice) → Chosen z cpu Normal (Start other) → other.other ≡ None
start-none z cpu choice starts none other also =
    ap (λ (x : Choice). x.other) (same-start other choice (chosen-once z cpu Normal (Start other) (Start choice) also starts))
    ∙ none

-- and so do members
pub members-after : (z : Content) (cpu : Cpu) (y : Content) → y ≡ after_boot z cpu → (ws : List Window)
    → All (IsInside (length z.flash)) ws → All (IsInside (length y.flash)) ws
members-after z cpu y left ws inside =
    subst (λ n. All (IsInside n) ws)
    (sym (ap (λ (x : Content). length x.flash) left
    ∙ length-after_all z (decided_steps z cpu (decision_in z cpu Normal)))) inside
