-- The reasons of a boot, by the function and in the words of the rules.
use Rattle.std.proofs.Common.{◌≡◌, ◌⊎◌, ℕ, ◌-◌, Bool, true, false, not, List, [], ◌∷◌, length, Option, Some, None, Result, refl, sym, ap, ◌∙◌, subst, inl, inr, if◌then◌else◌}
use Rattle.std.specs.Result.{result_ok}
use Rattle.arrayvec.specs.ArrayVec.{ArrayVec}
use Rattle.pico_board.specs.declared.boot.Cpu.{Cpu}
use Rattle.pico_board.specs.declared.boot.BootKind.{BootKind}
use Rattle.pico_board.specs.declared.boot.BootKind.TheVariants.{Normal, Update, Bootsel as AskBootsel}
use Rattle.pico_board.specs.Content.{Content}
use Rattle.otp_roll.specs.Flags.{flash_off, rollback_required, slot_size}
use Rattle.part_table.specs.declared.table.Table.{Table}
use Rattle.boot_rules.specs.declared.decision.Decision.{Decision}
use Rattle.boot_rules.specs.declared.decision.Decision.TheVariants.{Bootsel}
use Rattle.boot_rules.specs.declared.decision.Fall.TheVariants.{FlashOff}
use Rattle.boot_rules.specs.Choosing.{Order, boot_units_in, decision_in, decision_of, images_in, order_of, ordered_choice}
use Rattle.boot_rules.specs.Chosen.{Chosen}
use Rattle.boot_rules.proofs.DecisionLemmas.{chosen-decision, decision-chosen}
use Rattle.boot_rules.specs.declared.slots.SlotFault.{SlotFault}
use Rattle.boot_reasons.specs.declared.slots.TableInForce.{TableInForce}
use Rattle.boot_reasons.specs.declared.looks.UnitReport.{UnitReport}
use Rattle.boot_reasons.specs.declared.reasons.Reasons.{Reasons}
use Rattle.slot_choice.specs.declared.choice.Choice.{Choice}
use Rattle.boot_rules.specs.Tables.{slot_answer_in}
use Rattle.boot_reasons.specs.Slots.{table_in_force}
use Rattle.boot_reasons.specs.Looks.{first_choice, reports_of}
use Rattle.boot_reasons.specs.Reasons.{does_report, reported_decision, reports_in, order_in, order_where, reasons_in, results_in, table_in_force_in, unreached_in}
use Rattle.boot_reasons.specs.Rules.{AreUnitsReported, FallsBefore, IsExplained}
use Rattle.boot_rules.proofs.SlotLemmas.{answer-right, answer-only}
use Rattle.boot_reasons.proofs.TableReasonLemmas.{told-from, told-only, told-right}
use Rattle.boot_reasons.proofs.LookLemmas.{choice-of-units, looks-right, looks-only}

-- a boot looks at units exactly where it does not fall before
pub looks-reach : (c : Content) (kind : BootKind) → does_report kind (flash_off c.otp) ≡ true → FallsBefore c kind → ⊥
looks-reach c AskBootsel e falls = cc
looks-reach c Normal e (inl never) = cc
looks-reach c Normal e (inr off) = absurd (apart (flash_off c.otp) off e)
  where
    apart : (b : Bool) → b ≡ true → not b ≡ true → ⊥
    apart true p q = cc
    apart false p q = cc
looks-reach c (Update base) e (inl never) = cc
looks-reach c (Update base) e (inr off) = absurd (apart (flash_off c.otp) off e)
  where
    apart : (b : Bool) → b ≡ true → not b ≡ true → ⊥
    apart true p q = cc
    apart false p q = cc

off-of : (b : Bool) → not b ≡ false → b ≡ true
off-of true e = refl
off-of false e = cc

pub falls-before : (c : Content) (kind : BootKind) → does_report kind (flash_off c.otp) ≡ false → FallsBefore c kind
falls-before c AskBootsel e = inl refl
falls-before c Normal e = inr (off-of (flash_off c.otp) e)
falls-before c (Update base) e = inr (off-of (flash_off c.otp) e)

-- the reports, by whether a boot looks at units
abbrev pub looks_where : Content → Cpu → BootKind → Bool → List UnitReport
looks_where c cpu kind does =
    reports_of (results_in c cpu) (order_where does kind c cpu).units (order_where does kind c cpu).updated

abbrev unreached_where : Content → Cpu → BootKind → Bool → ℕ
unreached_where c cpu kind does =
    length (order_where does kind c cpu).units - length (looks_where c cpu kind does)

-- what the units tell is right by the rules
units-right : (c : Content) (cpu : Cpu) (kind : BootKind)
    → AreUnitsReported c cpu kind (reports_in c cpu kind) (unreached_in c cpu kind)
units-right c cpu kind = go (does_report kind (flash_off c.otp)) refl
  where
    go : (does : Bool) → does_report kind (flash_off c.otp) ≡ does
        → AreUnitsReported c cpu kind (looks_where c cpu kind does) (unreached_where c cpu kind does)
    go true e = inr (
      looks-reach c kind e,
      looks-right c cpu (order_of kind (boot_units_in c cpu)).units (order_of kind (boot_units_in c cpu)).updated,
    )
    go false e = inl (falls-before c kind e, refl, refl)

pub units-only : (c : Content) (cpu : Cpu) (kind : BootKind) (ls : List UnitReport) (n : ℕ)
    → AreUnitsReported c cpu kind ls n
    → (ls ≡ reports_in c cpu kind) × (n ≡ unreached_in c cpu kind)
units-only c cpu kind ls n is = go (does_report kind (flash_off c.otp)) refl is
  where
    go : (does : Bool) → does_report kind (flash_off c.otp) ≡ does → AreUnitsReported c cpu kind ls n
        → (ls ≡ looks_where c cpu kind does) × (n ≡ unreached_where c cpu kind does)
    go true e (inl told) = absurd (looks-reach c kind e told.0)
    go true e (inr told) =
        looks-only c cpu (order_of kind (boot_units_in c cpu)).units (order_of kind (boot_units_in c cpu)).updated ls n
        told.1
    go false e (inl told) = (told.1, told.2)
    go false e (inr told) = absurd (told.0 (falls-before c kind e))

-- the decision is that of the first report with an image that is taken
pub decision-is : (c : Content) (cpu : Cpu) (kind : BootKind)
    → reported_decision kind (flash_off c.otp) (first_choice (reports_in c cpu kind)) ≡ decision_in c cpu kind
unfolding decision_in
decision-is c cpu AskBootsel = refl
decision-is c cpu Normal = by (flash_off c.otp) refl
  where
    by : (off : Bool) → flash_off c.otp ≡ off
        → (if off then Bootsel FlashOff else decision_of (first_choice (looks_where c cpu Normal (not off))))
        ≡ (if off then Bootsel FlashOff
        else decision_of (ordered_choice (images_in c cpu) (order_of Normal (boot_units_in c cpu)).units
        (order_of Normal (boot_units_in c cpu)).updated))
    by true e = refl
    by false e = ap decision_of (choice-of-units c cpu (order_of Normal (boot_units_in c cpu)).units
        (order_of Normal (boot_units_in c cpu)).updated)
decision-is c cpu (Update base) = by (flash_off c.otp) refl
  where
    by : (off : Bool) → flash_off c.otp ≡ off
        → (if off then Bootsel FlashOff else decision_of (first_choice (looks_where c cpu (Update base) (not off))))
        ≡ (if off then Bootsel FlashOff
        else decision_of (ordered_choice (images_in c cpu) (order_of (Update base) (boot_units_in c cpu)).units
        (order_of (Update base) (boot_units_in c cpu)).updated))
    by true e = refl
    by false e = ap decision_of (choice-of-units c cpu (order_of (Update base) (boot_units_in c cpu)).units
        (order_of (Update base) (boot_units_in c cpu)).updated)

-- the reasons of the function are right by the rules
pub reasons-right : (c : Content) (cpu : Cpu) (kind : BootKind) → IsExplained c cpu kind (reasons_in c cpu kind)
unfolding reasons_in
reasons-right c cpu kind = record {
  decision = subst (λ (d : Decision). Chosen c cpu kind d) (sym (decision-is c cpu kind)) (decision-chosen c cpu kind);
  required = refl;
  off = refl;
  size = refl;
  first = answer-right c 0;
  second = answer-right c 1;
  table = told-right c;
  units = units-right c cpu kind;
}

same-reasons : (a b : Reasons) → a.decision ≡ b.decision → a.required ≡ b.required → a.off ≡ b.off → a.size ≡ b.size
    → a.first ≡ b.first → a.second ≡ b.second → a.table ≡ b.table → a.looks ≡ b.looks → a.unreached ≡ b.unreached
    → a ≡ b
same-reasons a b e1 e2 e3 e4 e5 e6 e7 e8 e9 = joined _ _ _ _ _ _ _ _ _ _ _ _ _ _ _ _ _ _ e1 e2 e3 e4 e5 e6 e7 e8 e9
  where
    joined : (d d' : Decision) (q q' o o' : Bool) (s s' : ℕ) (f f' g g' : Result Table SlotFault)
        (t t' : Option TableInForce) (l l' : ArrayVec UnitReport) (n n' : ℕ)
        → d ≡ d' → q ≡ q' → o ≡ o' → s ≡ s' → f ≡ f' → g ≡ g' → t ≡ t' → l ≡ l' → n ≡ n'
        → (let x : Reasons = record {
          decision = d;
          required = q;
          off = o;
          size = s;
          first = f;
          second = g;
          table = t;
          looks = l;
          unreached = n;
        } in
        let y : Reasons = record {
          decision = d';
          required = q';
          off = o';
          size = s';
          first = f';
          second = g';
          table = t';
          looks = l';
          unreached = n';
        } in x ≡ y)
    joined d d' q q' o o' s s' f f' g g' t t' l l' n n' e1 e2 e3 e4 e5 e6 e7 e8 e9 = cc

same-looks : (a : ArrayVec UnitReport) (ls : List UnitReport) → a.items ≡ ls → a ≡ record { items = ls }
same-looks a ls e = ap (λ xs. record { items = xs }) e

-- no others than those of the function are right by the rules
pub reasons-only : (c : Content) (cpu : Cpu) (kind : BootKind) (r : Reasons) → IsExplained c cpu kind r
    → r ≡ reasons_in c cpu kind
unfolding reasons_in
reasons-only c cpu kind r is =
    let units = units-only c cpu kind r.looks.items r.unreached is.units in
    same-reasons r (reasons_in c cpu kind)
    (chosen-decision c cpu kind r.decision is.decision ∙ sym (decision-is c cpu kind)) is.required is.off is.size
    (answer-only c 0 r.first is.first) (answer-only c 1 r.second is.second) (told-only c r.table is.table)
    (same-looks r.looks (reports_in c cpu kind) units.0) units.1

-- the reasons by what the parts of the code answer
pub reasons-from : (c : Content) (cpu : Cpu) (kind : BootKind) (choice : Option Choice) (d : Decision) (q o : Bool)
    (s : ℕ) (f g : Result Table SlotFault) (t : Option TableInForce) (l : ArrayVec UnitReport) (n : ℕ)
    → choice ≡ first_choice l.items → d ≡ reported_decision kind o choice → q ≡ rollback_required c.otp
    → o ≡ flash_off c.otp → s ≡ slot_size c.otp (length c.flash) → f ≡ slot_answer_in c 0 → g ≡ slot_answer_in c 1
    → t ≡ table_in_force (result_ok f) (result_ok g) → l.items ≡ reports_in c cpu kind → n ≡ unreached_in c cpu kind
    → (let r : Reasons = record {
      decision = d;
      required = q;
      off = o;
      size = s;
      first = f;
      second = g;
      table = t;
      looks = l;
      unreached = n;
    } in r ≡ reasons_in c cpu kind)
unfolding reasons_in
reasons-from c cpu kind choice d q o s f g t l n e0 e1 e2 e3 e4 e5 e6 e7 e8 e9 =
    let r : Reasons = record {
      decision = d;
      required = q;
      off = o;
      size = s;
      first = f;
      second = g;
      table = t;
      looks = l;
      unreached = n;
    } in same-reasons r (reasons_in c cpu kind)
    (e1 ∙ (ap (reported_decision kind o) (e0 ∙ ap first_choice e8)
    ∙ ap (λ x. reported_decision kind x (first_choice (reports_in c cpu kind))) e3)) e2 e3 e4 e5 e6
    (told-from c f g t e5 e6 e7) (same-looks l (reports_in c cpu kind) e8) e9
