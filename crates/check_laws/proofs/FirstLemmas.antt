-- The content when a host's first event comes is one of a board; the laws that a line tells.
use Rattle.std.proofs.Common.{◌≡◌, ◌⊎◌, ℕ, zero, suc, Bool, true, false, cond, List, [], ◌++◌, length, Option, Some, None, refl, sym, ◌∙◌, subst}
use Rattle.std.specs.List.{AllByRecursion}
use Rattle.std.proofs.lemmas.List.Elements.{recursion_from_All}
use Rattle.pico_board.specs.declared.Step.{Step}
use Rattle.pico_board.specs.declared.boot.Cpu.{Cpu}
use Rattle.pico_board.specs.declared.boot.BootKind.TheVariants.{Normal}
use Rattle.pico_board.specs.declared.window.Window.{Window}
use Rattle.pico_board.specs.Content.{Content, IsContent}
use Rattle.pico_board.specs.Sessions.{Unfinished}
use Rattle.pico_board.specs.Steps.{CutOf, IsStepIn, after_all}
use Rattle.pico_board.proofs.CuttingLemmas.{IsContent-after_all}
use Rattle.otp_roll.specs.Rows.{AreRollbackRows}
use Rattle.otp_roll.proofs.RisingLemmas.{raises-inside}
use Rattle.slot_choice.specs.declared.choice.Choice.{Choice}
use Rattle.trial_buy.specs.Starting.{image_raises, other_erase, raises_of, settling, start_steps}
use Rattle.trial_buy.proofs.EraseLemmas.{not-updated}
use Rattle.trial_buy.proofs.ImageLemmas.{valid-rows}
use Rattle.boot_rules.specs.AccidentalImages.{HasNoAccidentalImage}
use Rattle.boot_rules.specs.declared.decision.Decision.{Decision}
use Rattle.boot_rules.specs.declared.decision.Decision.TheVariants.{Start, Bootsel}
use Rattle.boot_rules.specs.Choosing.{boot_units_in, decision_in, order_of}
use Rattle.boot_rules.specs.Chosen.{Chosen, is_updated}
use Rattle.boot_rules.proofs.DecisionLemmas.{decision-chosen}
use Rattle.boot_rules.proofs.StartLemmas.{chosen-start}
use Rattle.boot_machine.specs.Boots.{decided_steps}
use Rattle.boot_script.specs.Events.{EventView}
use Rattle.boot_session.specs.CutSessions.{StartsFinished, StartsThere}
use Rattle.boot_session.proofs.ConfinedLaws.{normal-valid}
use Rattle.slot_choice.specs.declared.unit.Member.{Member}
use Rattle.slot_choice.specs.declared.unit.SlotUnit.{SlotUnit}
use Rattle.check_laws.specs.declared.found.SessionFound.{SessionFound}
use Rattle.check_laws.specs.declared.found.SessionFound.TheVariants as found
use Rattle.check_laws.specs.Hosts.{first_content}
use Rattle.check_laws.specs.SessionLaws.{IsSessionLaw, host_steps}
use Rattle.check_laws.proofs.LawLemmas.{confined-cut, confined-told, gated-told, held-cut, one-session-law, staged-told}

none-updated : (us : List SlotUnit) (place : ℕ) (m : Member) → is_updated (order_of Normal us) place m ≡ false
none-updated us zero m = refl
none-updated us (suc place) m = refl

-- a normal boot raises rows alone, so that it leaves a content
normal-in : (c : Content) (cpu : Cpu) (choice : Choice) → Chosen c cpu Normal (Start choice)
    → AllByRecursion (IsStepIn (length c.flash)) (start_steps c cpu choice)
normal-in c cpu choice chosen = go choice.image.trial
  where
    In : List Step → Type 0
    In steps = AllByRecursion (IsStepIn (length c.flash)) steps

    none : other_erase c cpu choice ≡ []
    none =
        let s = chosen-start c cpu Normal choice chosen in
        not-updated c cpu choice (s.updated ∙ none-updated (boot_units_in c cpu) s.place choice.member)

    rows : AreRollbackRows choice.image.rows.items
    rows = valid-rows c choice.image.window cpu false choice.image (normal-valid c cpu choice chosen)

    raises : (o : Option ℕ) → In (raises_of c.otp choice.image.rows.items o)
    raises None = tt
    raises (Some version) =
        raises-inside (length c.flash) c.otp choice.image.rows.items version
        (recursion_from_All _ choice.image.rows.items rows.in_range)

    go : (b : Bool) → In (cond b [] (settling c cpu choice))
    go true = tt
    go false = subst (λ steps. In (steps ++ image_raises c.otp choice.image)) (sym none) (raises choice.image.rollback)

pub first-content : (c : Content) (cpu : Cpu) → IsContent c → IsContent (first_content c cpu)
first-content c cpu right = go (decision_in c cpu Normal) (decision-chosen c cpu Normal)
  where
    go : (d : Decision) → Chosen c cpu Normal d → IsContent (after_all c (decided_steps c cpu d))
    go (Start choice) chosen = IsContent-after_all c (start_steps c cpu choice) right (normal-in c cpu choice chosen)
    go (Bootsel fall) chosen = right

pub one-session-of : (c : Content) (cpu : Cpu) (events : List EventView) (a b : SessionFound) → IsContent c
    → IsSessionLaw c cpu events a → IsSessionLaw c cpu events b → a ≡ b
one-session-of c cpu events a b right = one-session-law c cpu events a b (first-content c cpu right)

pub confined-law : (c : Content) (cpu : Cpu) (events : List EventView) (w : Window) (d : Content) → IsContent c
    → IsSessionLaw c cpu events (found.Confined w) → CutOf (first_content c cpu) (host_steps c cpu events) d
    → Chosen d cpu Normal (decision_in (first_content c cpu) cpu Normal) ⊎ StartsThere d w cpu
confined-law c cpu events w d right told cut =
    confined-cut (first_content c cpu) cpu (host_steps c cpu events) w d (first-content c cpu right)
    (confined-told c cpu events w told) cut

abbrev pub IsLucky : Content → Cpu → List EventView → Window → Content → Type 0
IsLucky c cpu events w d =
    Unfinished (first_content c cpu) (host_steps c cpu events) w d
    → HasNoAccidentalImage (first_content c cpu) (after_all (first_content c cpu) (host_steps c cpu events)) d w cpu

pub gated-law : (c : Content) (cpu : Cpu) (events : List EventView) (w : Window) (d : Content) → IsContent c
    → IsSessionLaw c cpu events (found.Gated w) → CutOf (first_content c cpu) (host_steps c cpu events) d
    → IsLucky c cpu events w d
    → Chosen d cpu Normal (decision_in (first_content c cpu) cpu Normal)
    ⊎ StartsFinished (after_all (first_content c cpu) (host_steps c cpu events)) d cpu
gated-law c cpu events w d right told cut lucky =
    let law = gated-told c cpu events w told in
    held-cut (first_content c cpu) cpu (host_steps c cpu events) w d (first-content c cpu right) law.0 law.1 cut lucky

pub staged-law : (c : Content) (cpu : Cpu) (events : List EventView) (w : Window) (d : Content) → IsContent c
    → IsSessionLaw c cpu events (found.Staged w) → CutOf (first_content c cpu) (host_steps c cpu events) d
    → IsLucky c cpu events w d
    → Chosen d cpu Normal (decision_in (first_content c cpu) cpu Normal)
    ⊎ StartsFinished (after_all (first_content c cpu) (host_steps c cpu events)) d cpu
staged-law c cpu events w d right told cut lucky =
    let law = staged-told c cpu events w told in
    held-cut (first_content c cpu) cpu (host_steps c cpu events) w d (first-content c cpu right) law.0 law.1.gated cut
    lucky
