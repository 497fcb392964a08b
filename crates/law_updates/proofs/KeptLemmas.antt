-- What a loss of power leaves in the writes of a boot or of a buy that raise no row of another unit's triple.
use Rattle.std.proofs.Common.{◌≡◌, ◌⊎◌, ◌∙◌, ℕ, ◌+◌, ◌≤◌, Bool, true, false, List, [], ◌∷◌, ◌++◌, length, slice_get, Option, Some, None, refl, sym, ap, subst, arith, inl, inr}
use Rattle.std.specs.Prelude.{Contains, IsTrue}
use Rattle.std.specs.Option.{option_or}
use Rattle.std.proofs.lemmas.Bool.{cases_eq, cases_lt}
use Rattle.std.proofs.lemmas.Option.{get_or_from_slice_get, same_Some, slice_get_within}
use Rattle.pico_board.specs.declared.Step.{Step}
use Rattle.pico_board.specs.declared.step.Step.TheVariants.{Raise}
use Rattle.std.proofs.lemmas.List.Elements.{Contains-append_left}
use Rattle.pico_board.specs.declared.boot.BootKind.{BootKind}
use Rattle.pico_board.specs.declared.boot.BootKind.TheVariants.{Normal}
use Rattle.pico_board.specs.declared.boot.Cpu.{Cpu}
use Rattle.pico_board.specs.declared.window.Window.{Window}
use Rattle.pico_board.specs.Content.{AreApart, Content, IsContent, window_bytes}
use Rattle.pico_board.specs.Steps.{IsCutAt, MayLeave, after_all}
use Rattle.image_def.specs.declared.started.Started.{Started}
use Rattle.image_check.specs.Addressing.{in_flash}
use Rattle.image_check.specs.Valid.{Valid}
use Rattle.image_check.proofs.LawLemmas.{trial-more}
use Rattle.otp_roll.specs.Flags.{slot_size}
use Rattle.otp_roll.specs.Rows.{AreRollbackRows, AreRowsApart, IsOutside}
use Rattle.otp_roll.proofs.RisingLemmas.{flash-left, raises-listed}
use Rattle.part_table.specs.Windows.{IsPlacedIn}
use Rattle.slot_choice.specs.declared.choice.Choice.{Choice}
use Rattle.slot_choice.specs.declared.unit.SlotUnit.{SlotUnit}
use Rattle.slot_choice.specs.Units.{IsMember}
use Rattle.slot_choice.proofs.PlaceLemmas.{units-apart}
use Rattle.trial_buy.specs.Starting.{image_raises, raises_of, settling, start_steps}
use Rattle.trial_buy.proofs.EraseLemmas.{not-updated}
use Rattle.trial_buy.proofs.ImageLemmas.{valid-rows}
use Rattle.boot_rules.specs.declared.decision.Decision.{Decision}
use Rattle.boot_rules.specs.declared.decision.Decision.TheVariants.{Start}
use Rattle.boot_rules.specs.declared.tables.Found.{Found}
use Rattle.boot_rules.specs.Choosing.{Order, boot_units_in, decision_in, images_in, order_of, other_of, unit_choice}
use Rattle.boot_rules.specs.Chosen.{Chosen, Counts, IsBest, IsStart, is_updated}
use Rattle.boot_rules.specs.Starts.{IsOfUnit}
use Rattle.boot_rules.specs.Tables.{slot_window, table_in, table_of_content}
use Rattle.boot_rules.proofs.ChoiceLemmas.{start-choice}
use Rattle.boot_rules.proofs.DecisionLemmas.{chosen-exactly, found-valid, valid-found}
use Rattle.boot_rules.proofs.PlaceLemmas.{table-sound}
use Rattle.boot_rules.proofs.SameUnitLemmas.{table-same, units-same}
use Rattle.boot_rules.proofs.StartLemmas.{is-member, of-unit, start, start-placed, start-trial, start-valid}
use Rattle.boot_session.specs.CutSessions.{StartsFinished}
use Rattle.law_boot_cuts.specs.Crashes.{AreOwnSteps, KeepsOtherRows, KeepsOtherTriples, LeavesNoAccidentalImage}
use Rattle.law_boot_cuts.proofs.LeftRowLemmas.{image-raises}
use Rattle.law_boot_cuts.proofs.OwnDecisionLemmas.{decision-stays}
use Rattle.law_boot_cuts.proofs.PartLemmas.{counts-left, part-decision, part-rows}
use Rattle.law_boot_cuts.proofs.OwnLeftLemmas.{IsLeft, raised_rows, slot_size-stays}
use Rattle.law_boot_cuts.proofs.RaisesCutLemmas.{plain-steps, raises-kept}
use Rattle.check_laws.specs.Triples.{AreTriplesApart}

not-apart : (w : Window) → 4096 ≤ w.len → AreApart w w → ⊥
not-apart w some (inl before) = omega arith
not-apart w some (inr behind) = omega arith

not-both : {P : Type 0} (b : Bool) → b ≡ true → b ≡ false → P
not-both b e f = cc

listed-unit : (us : List SlotUnit) (i : ℕ) (v : SlotUnit) → slice_get us i ≡ Some v → Contains us v
listed-unit us i v at = (i, slice_get_within us i v at, get_or_from_slice_get us i v v at)

outside-apart : (row r q : ℕ) → AreRowsApart r q → (IsOutside row q → ⊥) → IsOutside row r
outside-apart row r q apart is = elim (cases_lt row r) [
  | inl below ↦ inl below
  | inr from ↦
      elim (cases_lt row (r + 3)) [
        | inl within ↦ absurd (is (elim apart [
          | inl first ↦ inl (omega (arith, first, within))
          | inr last ↦ inr (omega (arith, last, from))
        ]))
        | inr behind ↦ inr behind
      ]
]

first-some : {X : Type 0} (o : Option X) (x : X) → option_or o None ≡ Some x → o ≡ Some x
first-some None x e = cc
first-some (Some y) x e = e

-- a start that is not updated is what a normal boot takes of its unit
module _ (x : Content) (cpu : Cpu) (choice : Choice) (plain : choice.updated ≡ false) (o : Order)
    (s : IsStart x cpu o choice) where
  abbrev alone : Order
  alone = record { units = s.unit ∷ []; updated = None }

  plainly : is_updated o s.place choice.member ≡ false
  plainly = sym s.updated ∙ plain

  any-trial : (w : Window) (t : Started) → Valid x w cpu false t → (b : Bool) → Valid x w cpu b t
  any-trial w t v true = trial-more in_flash w cpu x.otp (window_bytes x w) t v
  any-trial w t v false = v

  counted : (t : Started) → Counts x cpu alone 0 s.unit (other_of choice.member) t
      → Counts x cpu o s.place s.unit (other_of choice.member) t
  counted t k = record {
    window = k.window;
    tried = s.counts.tried;
    stands = k.stands;
    valid = any-trial k.window t k.valid (is_updated o s.place (other_of choice.member));
  }

  best : IsTrue (is_updated o s.place choice.member) ⊎ IsBest x cpu o s.place s.unit choice.member choice.image
      → IsBest x cpu alone 0 s.unit choice.member choice.image
  best (inl it) = not-both (is_updated o s.place choice.member) it plainly
  best (inr q) = record { no_update = λ t it k. cc; better = λ t k. q.better t (counted t k) }

  is-alone : IsStart x cpu alone choice
  is-alone = record {
    place = 0;
    unit = s.unit;
    counts = record {
      window = s.counts.window;
      tried = refl;
      stands = s.counts.stands;
      valid = subst (λ b. Valid x s.counts.window cpu b choice.image) plainly s.counts.valid;
    };
    first = λ i v m t lt k. absurd (omega (arith, lt));
    best = inr (best s.best);
    other = s.other;
    updated = plain;
  }

  taken-alone : unit_choice (images_in x cpu) s.unit None ≡ Some choice
  taken-alone =
      first-some (unit_choice (images_in x cpu) s.unit None) choice
      (start-choice x cpu (images_in x cpu) (found-valid x cpu) (valid-found x cpu) (s.unit ∷ []) None choice is-alone)

module _ (c : Content) (cpu : Cpu) (kind : BootKind) (choice : Choice) (right : IsContent c)
    (h : Chosen c cpu kind (Start choice)) (u : SlotUnit) (of : IsOfUnit c cpu choice u) where
  abbrev W : Window
  W = choice.image.window

  placed : IsPlacedIn c W
  placed = start-placed c cpu kind choice right h

  in-u : IsMember u W
  in-u = is-member choice.member u W of.stands

  -- no other boot unit has the window of the image
  one-unit : (i : ℕ) (v : SlotUnit) → slice_get (boot_units_in c cpu) i ≡ Some v → IsMember v W → v ≡ u
  one-unit i v at member = elim (cases_eq i of.place) [
    | inl here ↦ same_Some v u (sym at ∙ ap (slice_get (boot_units_in c cpu)) here ∙ of.tried)
    | inr other ↦ absurd (not-apart W placed.some
        (units-apart (table_of_content c) (length c.flash) (slot_size c.otp (length c.flash)) cpu
        (table-sound c (table_in c) refl) i of.place v u other at of.tried W W member in-u))
  ]

  triples-kept : (steps : List Step) → AreTriplesApart c cpu choice.image steps → KeepsOtherTriples c cpu choice u steps
  triples-kept steps apart = record {
    apart = λ i v m w s r q row bits at differ stands valid among listed raised not.
        apart v m w s r q (listed-unit (boot_units_in c cpu) i v at) (λ member. differ (one-unit i v at member)) stands
        valid among listed (row, bits, raised, not);
  }

  -- the first of the writes of an updated start, or of a buy
  pub own-kept : (found : Found) → table_in c ≡ Some found → (steps done rest : List Step)
      → AreOwnSteps c cpu choice steps → steps ≡ done ++ rest → AreTriplesApart c cpu choice.image done → (k : ℕ)
      (step : Step) (d : Content) → IsCutAt c done k step d
      → LeavesNoAccidentalImage c (after_all c done) d cpu choice step → (e : Decision) → Chosen c cpu Normal e
      → Chosen d cpu Normal e ⊎ StartsFinished (after_all c done) d cpu
  own-kept found is steps done rest are begins apart k step d at lucky e former =
      elim (part-decision c cpu kind choice right h u of found is steps are done rest begins
      (part-rows c cpu kind choice right h u steps done rest are begins (triples-kept done apart)) k step d at lucky e
      former) [
        | inl same ↦ inl same
        | inr alike ↦ inr (record {
          choice = alike.choice;
          here = alike.here;
          after = alike.after;
          same = alike.same;
        })
      ]

  -- a start that is not updated raises rows alone
  module _ (plain : choice.updated ≡ false) where
    no-trial : choice.image.trial ≡ false
    no-trial = go choice.image.trial refl
      where
        go : (b : Bool) → choice.image.trial ≡ b → b ≡ false
        go true e = not-both choice.updated (start-trial c cpu kind choice h e) plain
        go false e = refl

    pub plain-list : start_steps c cpu choice ≡ image_raises c.otp choice.image
    plain-list =
        plain-steps choice.image.trial (settling c cpu choice) no-trial
        ∙ ap (λ before. before ++ image_raises c.otp choice.image) (not-updated c cpu choice plain)

    listed : AreRollbackRows choice.image.rows.items
    listed = valid-rows c W cpu true choice.image (start-valid c cpu kind choice h)

    none-among : {P : Type 0} (step : Step) → Contains [] step → P
    none-among step (k, lt, is) = absurd (omega (arith, lt))

    image-listed : (o : Option ℕ) (row bits : ℕ) → Contains (raises_of c.otp choice.image.rows.items o) (Raise row bits)
        → (q : ℕ) × Contains choice.image.rows.items q × ¬ (IsOutside row q)
    image-listed None row bits among = none-among (Raise row bits) among
    image-listed (Some v) row bits among = raises-listed c.otp choice.image.rows.items v row bits among

    rows-kept : (done rest : List Step) → image_raises c.otp choice.image ≡ done ++ rest
        → AreTriplesApart c cpu choice.image done → KeepsOtherRows c cpu u done
    rows-kept done rest begins apart = record {
      apart = λ i v m w s r row bits at differ stands valid among raised.
          (let q = image-listed choice.image.rollback row bits
          (subst (λ xs. Contains xs (Raise row bits)) (sym begins)
          (Contains-append_left done rest (Raise row bits) raised)) in
          outside-apart row r q.0
          (apart v m w s r q.0 (listed-unit (boot_units_in c cpu) i v at) (λ member. differ (one-unit i v at member))
          stands valid among q.1 (row, bits, raised, q.2))
          q.2);
    }

    module _ (d : Content) (left : MayLeave c (image_raises c.otp choice.image) d) where
      flash : d.flash ≡ c.flash
      flash = flash-left c (image_raises c.otp choice.image) d
          (image-raises c.otp choice.image.rows.items choice.image.rollback) left

      bytes : (v : Window) → window_bytes d v ≡ window_bytes c v
      bytes v = ap (λ f. window_bytes (record { flash = f; otp = d.otp }) v) flash

      is-left : IsLeft c choice d
      is-left =
          record { long = ap (λ f. length f) flash; bytes = λ v a b. bytes v; rows = raised_rows c refl right left }

      slots : slot_size d.otp (length c.flash) ≡ slot_size c.otp (length c.flash)
      slots = slot_size-stays c d choice.image right listed (raised_rows c refl right left) (length c.flash)

      table : table_in d ≡ table_in c
      table = table-same c d is-left.long slots (bytes (slot_window (slot_size c.otp (length c.flash)) 0))
          (bytes (slot_window (slot_size c.otp (length c.flash)) 1))

      starts : Chosen d cpu kind (Start choice)
      starts = raises-kept c cpu kind choice d right h left

      unit-then : (start d cpu kind choice starts).unit ≡ u
      unit-then =
          let after = of-unit d cpu kind choice starts in
          let v = (start d cpu kind choice starts).unit in
          one-unit after.place v
          (ap (λ vs. slice_get vs after.place) (sym (units-same c d cpu table is-left.long slots)) ∙ after.tried)
          (is-member choice.member v W after.stands)

      unit-now : (start c cpu kind choice h).unit ≡ u
      unit-now =
          let now = of-unit c cpu kind choice h in
          let v = (start c cpu kind choice h).unit in
          one-unit now.place v now.tried (is-member choice.member v W now.stands)

      taken-same : unit_choice (images_in d cpu) u None ≡ unit_choice (images_in c cpu) u None
      taken-same =
          subst (λ v. unit_choice (images_in d cpu) v None ≡ Some choice) unit-then
          (taken-alone d cpu choice plain (order_of kind (boot_units_in d cpu)) (start d cpu kind choice starts))
          ∙ sym (subst (λ v. unit_choice (images_in c cpu) v None ≡ Some choice) unit-now
          (taken-alone c cpu choice plain (order_of kind (boot_units_in c cpu)) (start c cpu kind choice h)))

      pub plain-kept : (done rest : List Step) → image_raises c.otp choice.image ≡ done ++ rest → MayLeave c done d
          → AreTriplesApart c cpu choice.image done → (e : Decision) → Chosen c cpu Normal e → Chosen d cpu Normal e
      plain-kept done rest begins some apart e former =
          let same : decision_in d cpu Normal ≡ decision_in c cpu Normal =
          decision-stays c cpu choice right placed u of listed d is-left
          (counts-left c cpu choice right placed u of listed done (rows-kept done rest begins apart) d some) table taken-same
          in
          (chosen-exactly d cpu Normal e).1 ((chosen-exactly c cpu Normal e).0 former ∙ sym same)
