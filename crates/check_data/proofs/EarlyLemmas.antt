-- An image starts before its loose bytes are there exactly where the function says so.
use Rattle.std.proofs.Common.{◌≡◌, Bool, true, false, List, refl, sym, subst}
use Rattle.std.specs.Prelude.{◌↔◌, ◌||◌, ◌==◌, not, slice_index}
use Rattle.std.proofs.lemmas.Bool.{and_from, and_parts, eq-eqb, eqb-true}
use Rattle.pico_board.specs.declared.boot.Cpu.{Cpu}
use Rattle.pico_board.specs.declared.boot.BootKind.TheVariants.{Normal}
use Rattle.pico_board.specs.Content.{Content}
use Rattle.boot_rules.specs.Chosen.{Chosen}
use Rattle.boot_rules.specs.Choosing.{decision_in}
use Rattle.boot_rules.proofs.DecisionLemmas.{chosen-decision, decision-chosen}
use Rattle.boot_sweep.specs.Comparing.{is_same_decision}
use Rattle.boot_sweep.specs.Moving.{MoveView}
use Rattle.boot_sweep.proofs.ResultLemmas.{decision-same, same-decision}
use Rattle.check_data.specs.Early.{LacksLoose, StartsEarly, has_other_loose, starts_early}
use Rattle.check_data.specs.Loose.{loose_bytes}
use Rattle.check_data.proofs.ListLemmas.{false-true, passes, passing}
use Rattle.check_data.proofs.LooseLemmas.{loose-exactly}

negated : (b : Bool) → (b ≡ true → ⊥) → not b ≡ true
negated true never = absurd (never refl)
negated false never = refl

unnegated : (b : Bool) → not b ≡ true → b ≡ false
unnegated true e = cc
unnegated false e = refl

unless-true : (a b : Bool) → (a ≡ true → b ≡ true) → (not a || b) ≡ true
unless-true true b holds = holds refl
unless-true false b holds = refl

then-true : (a b : Bool) → (not a || b) ≡ true → a ≡ true → b ≡ true
then-true true b e is = e
then-true false b e is = cc

module _ (z : Content) (cpu : Cpu) (moves : List MoveView) (x d : Content) where
  lacks-is : has_other_loose x d (loose_bytes z cpu moves) ≡ true → LacksLoose z cpu moves x d
  lacks-is e =
      let r = passing (λ at. not (slice_index d.flash at == slice_index x.flash at))
      (loose_bytes z cpu moves) e in record {
        place = r.0;
        loose = (loose-exactly z cpu moves r.0).0 r.1;
        other =
            λ same. false-true _ (unnegated _ r.2) (eq-eqb (slice_index d.flash r.0) (slice_index x.flash r.0) same);
      }

  is-lacks : LacksLoose z cpu moves x d → has_other_loose x d (loose_bytes z cpu moves) ≡ true
  is-lacks l =
      passes (λ at. not (slice_index d.flash at == slice_index x.flash at)) (loose_bytes z cpu moves) l.place
      ((loose-exactly z cpu moves l.place).1 l.loose)
      (negated _ (λ same. l.other (eqb-true (slice_index d.flash l.place) (slice_index x.flash l.place) same)))

module _ (c z : Content) (moves : List MoveView) (cpu : Cpu) (d : Content) where
  -- the decisions on two contents are one
  as-on : (x : Content) → is_same_decision (decision_in d cpu Normal) (decision_in x cpu Normal) ≡ true
      → Chosen x cpu Normal (decision_in d cpu Normal)
  as-on x e =
      subst (λ f. Chosen x cpu Normal f) (sym (same-decision (decision_in d cpu Normal) (decision_in x cpu Normal) e))
      (decision-chosen x cpu Normal)

  on-as : (x : Content) → Chosen x cpu Normal (decision_in d cpu Normal)
      → is_same_decision (decision_in d cpu Normal) (decision_in x cpu Normal) ≡ true
  on-as x is =
      decision-same (decision_in d cpu Normal) (decision_in x cpu Normal)
      (chosen-decision x cpu Normal (decision_in d cpu Normal) is)

  early-is : starts_early c z cpu (loose_bytes z cpu moves) d ≡ true → StartsEarly c z moves cpu d
  early-is e =
      let p = and_parts _ _ e in
      let q = and_parts _ _ p.1 in record {
        decision = decision_in d cpu Normal;
        here = decision-chosen d cpu Normal;
        last = as-on z p.0;
        lacks = lacks-is z cpu moves z d q.0;
        also = λ first. lacks-is z cpu moves c d (then-true _ _ q.1 (on-as c first));
      }

  is-early : StartsEarly c z moves cpu d → starts_early c z cpu (loose_bytes z cpu moves) d ≡ true
  is-early h =
      let here = chosen-decision d cpu Normal h.decision h.here in
      and_from _ _ (on-as z (subst (λ f. Chosen z cpu Normal f) here h.last))
      (and_from _ _ (is-lacks z cpu moves z d h.lacks)
      (unless-true _ _ (λ same. is-lacks z cpu moves c d
      (h.also (subst (λ f. Chosen c cpu Normal f) (sym here) (as-on c same))))))

  pub early-exactly : (starts_early c z cpu (loose_bytes z cpu moves) d ≡ true) ↔ StartsEarly c z moves cpu d
  early-exactly = (early-is, is-early)
