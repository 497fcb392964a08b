-- What normal boots leave is what raises leave, of rows that images may list.
use Rattle.std.proofs.Common.{◌≡◌, inl, inr, ℕ, zero, suc, false, ◌≤◌, List, [], ◌∷◌, ◌++◌, Option, Some, None, refl, sym, ap, ◌∙◌, subst, arith}
use Rattle.std.specs.Prelude.{Contains}
use Rattle.std.specs.List.{AllByRecursion}
use Rattle.std.proofs.lemmas.Bool.{cases_lt}
use Rattle.std.proofs.lemmas.List.Elements.{All-contains, Contains-append_right}
use Rattle.pico_board.specs.declared.Step.{Step}
use Rattle.pico_board.specs.declared.step.Step.TheVariants.{Erase, Program, Raise}
use Rattle.pico_board.specs.declared.boot.Cpu.{Cpu}
use Rattle.pico_board.specs.declared.boot.BootKind.TheVariants.{Normal}
use Rattle.pico_board.specs.Content.{Content}
use Rattle.pico_board.specs.Steps.{IsRaise, after_all}
use Rattle.pico_board.proofs.StepLemmas.{after_all-append}
use Rattle.otp_roll.specs.Rows.{AreRollbackRows, IsOutside}
use Rattle.otp_roll.specs.declared.rows.TheConstants.{FIRST_ROW, LAST_ROW}
use Rattle.otp_roll.proofs.RisingLemmas.{raises-listed}
use Rattle.trial_buy.specs.Starting.{raises_of}
use Rattle.trial_buy.proofs.ImageLemmas.{valid-rows}
use Rattle.boot_rules.specs.declared.decision.Decision.{Decision}
use Rattle.boot_rules.specs.declared.decision.Decision.TheVariants.{Start, Bootsel}
use Rattle.boot_rules.specs.Choosing.{decision_in}
use Rattle.boot_rules.specs.Chosen.{Chosen}
use Rattle.boot_rules.proofs.DecisionLemmas.{decision-chosen}
use Rattle.boot_script.specs.Events.{EventView}
use Rattle.boot_machine.specs.Boots.{booted, decided_steps}
use Rattle.boot_session.proofs.ConfinedLaws.{normal-valid}
use Rattle.law_boot_cuts.proofs.LeftRowLemmas.{image-raises}
use Rattle.law_boot_cuts.proofs.RaisesCutLemmas.{normal-steps}
use Rattle.law_updates.specs.Raised.{AreLeftByBoots, IsRaiseOf, IsRaisedBy, IsUntouched, MayRise}
use Rattle.law_updates.proofs.RaisedLemmas.{both-raise, left-raises}

-- a normal boot raises rows alone
pub boot-raises : (c : Content) (cpu : Cpu) → AllByRecursion IsRaise (booted c cpu Normal None).steps
boot-raises c cpu = go (decision_in c cpu Normal) (decision-chosen c cpu Normal)
  where
    go : (d : Decision) → Chosen c cpu Normal d → AllByRecursion IsRaise (decided_steps c cpu d)
    go (Bootsel fall) chosen = tt
    go (Start choice) chosen =
        subst (λ (steps : List Step). AllByRecursion IsRaise steps) (sym (normal-steps c cpu choice chosen))
        (image-raises c.otp choice.image.rows.items choice.image.rollback)

no-step : {P : Type 0} (step : Step) → Contains [] step → P
no-step step (i, lt, is) = absurd (omega (arith, lt))

-- and none before the first one that an image may list
pub boot-listed : (c : Content) (cpu : Cpu) (row : ℕ) → IsRaisedBy c cpu row → FIRST_ROW ≤ row
boot-listed c cpu row (bits, among) = go (decision_in c cpu Normal) (decision-chosen c cpu Normal) among
  where
    low : (rows : List ℕ) → AreRollbackRows rows → (r : ℕ) → Contains rows r → (IsOutside row r → ⊥) → FIRST_ROW ≤ row
    low rows listed r among inside =
        let from = (All-contains (λ r. (FIRST_ROW ≤ r) × (r ≤ LAST_ROW)) rows r listed.in_range among).0 in
        elim (cases_lt row r) [
          | inl below ↦ absurd (inside (inl below))
          | inr above ↦ omega (arith, from, above)
        ]

    raised : (rows : List ℕ) (rollback : Option ℕ) → AreRollbackRows rows
        → Contains (raises_of c.otp rows rollback) (Raise row bits) → FIRST_ROW ≤ row
    raised rows None listed here = no-step (Raise row bits) here
    raised rows (Some version) listed here =
        let one = raises-listed c.otp rows version row bits here in low rows listed one.0 one.1 one.2

    go : (d : Decision) → Chosen c cpu Normal d → Contains (decided_steps c cpu d) (Raise row bits) → FIRST_ROW ≤ row
    go (Bootsel fall) chosen here = no-step (Raise row bits) here
    go (Start choice) chosen here =
        raised choice.image.rows.items choice.image.rollback
        (valid-rows c choice.image.window cpu false choice.image (normal-valid c cpu choice chosen))
        (subst (λ (steps : List Step). Contains steps (Raise row bits)) (normal-steps c cpu choice chosen) here)

each-raise : (Row : ℕ → Type 0) (steps : List Step) → AllByRecursion IsRaise steps
    → ((row bits : ℕ) → Contains steps (Raise row bits) → Row row) → AllByRecursion (IsRaiseOf Row) steps
each-raise Row [] all each = tt
each-raise Row (Erase s ∷ steps) all each = absurd all.0
each-raise Row (Program p d ∷ steps) all each = absurd all.0
each-raise Row (Raise r b ∷ steps) all each = (
  each r b (0, omega arith, refl),
  each-raise Row steps all.1
      (λ row bits among. each row bits (Contains-append_right (Raise r b ∷ []) steps (Raise row bits) among)),
)

-- what boots leave of rows that the events leave alone
pub boots-raise : (c : Content) (cpu : Cpu) (events : List EventView) (m : ℕ) (x y : Content)
    → AreLeftByBoots (IsUntouched c cpu events) m x cpu y
    → (raises : List Step) × AllByRecursion (IsRaiseOf (MayRise c cpu events)) raises × (y ≡ after_all x raises)
boots-raise c cpu events zero x y left = ([], tt, left)
boots-raise c cpu events (suc m) x y (w, before, rows, left) =
    let former = boots-raise c cpu events m x w before in
    let all = each-raise (MayRise c cpu events) (booted w cpu Normal None).steps (boot-raises w cpu)
    (λ row bits among. record {
      listed = boot-listed w cpu row (bits, among);
      untouched = rows row (bits, among);
    }) in
    let last = left-raises (MayRise c cpu events) w (booted w cpu Normal None).steps y all left in (
      former.0 ++ last.0,
      both-raise (MayRise c cpu events) former.0 last.0 former.1 last.1,
      last.2 ∙ (ap (λ u. after_all u last.0) former.2 ∙ sym (after_all-append x former.0 last.0)),
    )
