-- What a normal boot decides where power is lost in the first steps of a start's or a buy's writes, and these come to
-- the content that they leave.
use Rattle.std.proofs.Common.{◌≡◌, ◌≢◌, ◌⊎◌, ℕ, zero, suc, ◌+◌, ◌/◌, ◌<◌, true, List, [], ◌∷◌, ◌++◌, length, slice_index, Option, Some, None, refl, sym, ap, ◌∙◌, subst, arith, inl, inr, append-nil}
use Rattle.std.specs.Prelude.{Contains, count_ones}
use Rattle.std.specs.List.{AllByRecursion}
use Rattle.std.proofs.lemmas.List.{append_cancel_left}
use Rattle.std.proofs.lemmas.List.Elements.{Contains-append_left, Contains-append_right, recursion_from_All}
use Rattle.std.proofs.lemmas.List.Sums.{sum_by-cons}
use Rattle.pico_board.specs.declared.Step.{Step}
use Rattle.pico_board.specs.declared.Step.TheVariants.{Erase, Raise}
use Rattle.pico_board.specs.declared.boot.Cpu.{Cpu}
use Rattle.pico_board.specs.declared.boot.BootKind.{BootKind}
use Rattle.pico_board.specs.declared.boot.BootKind.TheVariants.{Normal}
use Rattle.pico_board.specs.declared.window.Window.{Window}
use Rattle.pico_board.specs.Content.{Content, IsContent}
use Rattle.pico_board.specs.Sessions.{Confined, IsConfined}
use Rattle.pico_board.specs.Steps.{CutOf, IsCutAt, IsStepIn, MayLeave, after, after_all}
use Rattle.pico_board.proofs.ConfinementLemmas.{confined-CutOf, confined-after_all}
use Rattle.pico_board.proofs.CuttingLemmas.{CutOf-from, CutOf-prefix}
use Rattle.pico_board.proofs.StepLemmas.{CutOf-append_left, after_all-append}
use Rattle.otp_roll.specs.Rows.{AreRollbackRows, IsOutside, count, majority}
use Rattle.otp_roll.proofs.RisingLemmas.{elsewhere-from, raises-inside, row-left}
use Rattle.part_table.specs.Windows.{IsPlacedIn}
use Rattle.slot_choice.specs.declared.unit.SlotUnit.{SlotUnit}
use Rattle.slot_choice.specs.declared.choice.Choice.{Choice}
use Rattle.trial_buy.specs.Starting.{image_raises, other_erase, raises_of}
use Rattle.boot_rules.specs.declared.decision.Decision.{Decision}
use Rattle.boot_rules.specs.declared.decision.Decision.TheVariants.{Start}
use Rattle.boot_rules.specs.declared.tables.Found.{Found}
use Rattle.boot_rules.specs.Choosing.{decision_in}
use Rattle.boot_rules.specs.Chosen.{Chosen}
use Rattle.boot_rules.specs.Picking.{taken}
use Rattle.boot_rules.specs.Starts.{IsOfUnit}
use Rattle.boot_rules.specs.Tables.{table_in}
use Rattle.boot_rules.proofs.DecisionLemmas.{chosen-exactly}
use Rattle.law_boot_cuts.specs.Crashes.{AreOwnSteps, KeepsOtherRows, KeepsOtherTriples, LeavesNoAccidentalImage, settled_choice}
use Rattle.boot_session.specs.CutSessions.{StartsFinished}
use Rattle.law_boot_cuts.proofs.OwnDecisionLemmas.{KeepsCounts, decision-ends, decision-stays}
use Rattle.law_boot_cuts.proofs.OwnLaws.{ComesTo, IsOwnList, end-cut, end-taken, inside, left-list, listed, no-cut, not, others, outside-apart, own-list, own-table, placed, raised-listed, version}
use Rattle.law_boot_cuts.proofs.OwnLeftLemmas.{IsLeft, raises-content}
use Rattle.law_boot_cuts.proofs.OwnPickLemmas.{TakesTheEnd, rewrite-taken}
use Rattle.law_boot_cuts.proofs.OwnStepLemmas.{all-there, confined-range, erase-cases, first-confined}

all-first : {X : Type 0} (P : X → Type 0) (xs ys : List X) → AllByRecursion P (xs ++ ys) → AllByRecursion P xs
all-first P [] ys all = tt
all-first P (x ∷ xs) ys all = (all.0, all-first P xs ys all.1)

all-both : {X : Type 0} (P : X → Type 0) (xs ys : List X) → AllByRecursion P xs → AllByRecursion P ys
    → AllByRecursion P (xs ++ ys)
all-both P [] ys one two = two
all-both P (x ∷ xs) ys one two = (one.0, all-both P xs ys one.1 two)

nothing-first : {X : Type 0} (xs ys : List X) → [] ≡ xs ++ ys → xs ≡ []
nothing-first [] ys e = refl
nothing-first (x ∷ xs) ys e = cc

-- a list of one element is cut before it or behind it
one-first : {X : Type 0} (x : X) (xs ys : List X) → x ∷ [] ≡ xs ++ ys → (xs ≡ []) ⊎ (xs ≡ x ∷ [])
one-first x [] ys e = inl refl
one-first x (y ∷ xs) ys e =
    let same : y ≡ x = cc in
    let rest : [] ≡ xs ++ ys = cc in
    inr (ap (λ z. z ∷ xs) same ∙ ap (λ zs. x ∷ zs) (nothing-first xs ys rest))

-- the first part of a list ends in the first part of another division of it, or behind that
first-parts : {X : Type 0} (xs ys vs bs : List X) → xs ++ ys ≡ vs ++ bs
    → ((more : List X) × (vs ≡ xs ++ more)) ⊎ ((more : List X) × (xs ≡ vs ++ more) × (bs ≡ more ++ ys))
first-parts [] ys vs bs e = inl (vs, refl)
first-parts (x ∷ xs) ys [] bs e = inr (x ∷ xs, refl, sym e)
first-parts (x ∷ xs) ys (v ∷ vs) bs e =
    let same : x ≡ v = cc in
    let rest : xs ++ ys ≡ vs ++ bs = cc in
    elim (first-parts xs ys vs bs rest) [
      | inl before ↦ inl (before.0, ap (λ z. z ∷ vs) (sym same) ∙ ap (λ zs. x ∷ zs) before.1)
      | inr behind ↦ inr (behind.0, ap (λ z. z ∷ xs) same ∙ ap (λ zs. v ∷ zs) behind.1, behind.2)
    ]

-- a cut in the first steps is one in all
cut-more : (c : Content) (xs ys : List Step) (k : ℕ) (step : Step) (d : Content) → IsCutAt c xs k step d
    → IsCutAt c (xs ++ ys) k step d
cut-more c [] ys k step d at = let none = at.stands in cc
cut-more c (x ∷ xs) ys zero step d at = record { stands = at.stands; torn = at.torn }
cut-more c (x ∷ xs) ys (suc k) step d at =
    let more = cut-more (after c x) xs ys k step d (record { stands = at.stands; torn = at.torn }) in
    record { stands = more.stands; torn = more.torn }

-- what the first steps may leave all may leave
left-more : (c : Content) (xs ys : List Step) (d : Content) → IsContent c → AllByRecursion (IsStepIn (length c.flash)) xs
    → MayLeave c xs d → MayLeave c (xs ++ ys) d
left-more c xs [] d right range (inl done) = inl (done ∙ ap (after_all c) (sym (append-nil xs)))
left-more c xs (y ∷ ys) d right range (inl done) =
    inr (subst (λ x. CutOf c (xs ++ y ∷ ys) x) (sym done) (CutOf-prefix c xs y ys right range))
left-more c xs ys d right range (inr cut) = inr (CutOf-append_left c xs ys d cut)

-- rows whose triples the steps raise nothing in have the count that they had
module _ (c : Content) (done : List Step) (d : Content) (left : MayLeave c done d) (rows : List ℕ)
    (apart : (r row bits : ℕ) → Contains rows r → Contains done (Raise row bits) → IsOutside row r) where
  outside-first : (row r j : ℕ) → j < 3 → IsOutside row r → r + j ≢ row
  outside-first row r j few (inl below) = omega arith
  outside-first row r j few (inr above) = omega arith

  row-same : (r j : ℕ) → j < 3 → Contains rows r → slice_index d.otp (r + j) ≡ slice_index c.otp (r + j)
  row-same r j few among =
      row-left c done d (r + j)
      (elsewhere-from (r + j) done (λ row bits raised. outside-first row r j few (apart r row bits among raised))) left

  majority-same : (r : ℕ) → Contains rows r → majority d.otp r ≡ majority c.otp r
  majority-same r among =
      let zeroth : slice_index d.otp r ≡ slice_index c.otp r =
      (let e : r + 0 ≡ r = omega arith in
      subst (λ i. slice_index d.otp i ≡ slice_index c.otp i) e (row-same r 0 (omega arith) among)) in
      let first = row-same r 1 (omega arith) among in
      let second = row-same r 2 (omega arith) among in
      rw (zeroth, first, second) refl

  counts-from : (ys : List ℕ) → ((r : ℕ) → Contains ys r → Contains rows r) → count d.otp ys ≡ count c.otp ys
  counts-from [] sub = refl
  counts-from (r ∷ ys) sub =
      let here = ap (λ m. count_ones m) (majority-same r (sub r (0, omega arith, refl))) in
      let later = counts-from ys (λ q among. sub q (Contains-append_right (r ∷ []) ys q among)) in
      sum_by-cons (λ q. count_ones (majority d.otp q)) r ys ∙ ap (λ n. n + count d.otp ys) here
      ∙ ap (λ n. count_ones (majority c.otp r) + n) later
      ∙ sym (sum_by-cons (λ q. count_ones (majority c.otp q)) r ys)

  count-same : count d.otp rows ≡ count c.otp rows
  count-same = counts-from rows (λ r among. among)

pub counts-left : (c : Content) (cpu : Cpu) (choice : Choice) (right : IsContent c)
    (in_flash : IsPlacedIn c choice.image.window) (u : SlotUnit) (of : IsOfUnit c cpu choice u)
    (rows : AreRollbackRows choice.image.rows.items) (done : List Step) → KeepsOtherRows c cpu u done → (d : Content)
    → MayLeave c done d → KeepsCounts c cpu choice right in_flash u of rows d
counts-left c cpu choice right in_flash u of rows done keeps d left = record {
  same = λ i v m w s at differ stands valid.
      count-same c done d left s.rows.items
      (λ r row bits among raised. keeps.apart i v m w s r row bits at differ stands valid among raised);
}

module _ (c : Content) (cpu : Cpu) (kind : BootKind) (choice : Choice) (right : IsContent c)
    (h : Chosen c cpu kind (Start choice)) where
  abbrev W : Window
  W = choice.image.window

  abbrev E : List Step
  E = other_erase c cpu choice

  abbrev R : List Step
  R = image_raises c.otp choice.image

  abbrev In : List Step → Type 0
  In xs = AllByRecursion (IsStepIn (length c.flash)) xs

  raises-in : (n : ℕ) (o : Option ℕ) → AllByRecursion (IsStepIn n) (raises_of c.otp choice.image.rows.items o)
  raises-in n None = tt
  raises-in n (Some v) =
      raises-inside n c.otp choice.image.rows.items v
      (recursion_from_All _ choice.image.rows.items (listed c cpu kind choice right h).in_range)

  erase-in : choice.updated ≡ true → In E
  erase-in updated = elim (erase-cases c cpu choice updated) [
    | inl k ↦ subst In (sym k.none) tt
    | inr e ↦
        (let is = (others c cpu kind choice right h e.window e.other).0 in
        let low = is.inside in
        let whole = right.flash_length.whole in
        subst In (sym e.steps)
        (confined-range (length c.flash) e.window (omega (arith, low, whole)) (Erase (e.window.start / 4096) ∷ [])
        (first-confined _ e.window is)))
  ]

  own-range : (steps : List Step) → IsOwnList c cpu choice steps → In steps
  own-range steps own =
      subst In (sym own.whole)
      (all-both (IsStepIn (length c.flash)) own.before (E ++ R)
      (confined-range (length c.flash) W (inside c cpu kind choice right h) own.before own.confined)
      (all-both (IsStepIn (length c.flash)) E R (erase-in own.updated) (raises-in (length c.flash) choice.image.rollback)))

  -- the steps that are done raise rows of the image's triples alone
  pub part-rows : (u : SlotUnit) (steps done rest : List Step) → AreOwnSteps c cpu choice steps → steps ≡ done ++ rest
      → KeepsOtherTriples c cpu choice u done → KeepsOtherRows c cpu u done
  part-rows u steps done rest are begins keeps = record {
    apart = λ i v m w s r row bits at ne stands valid among raised.
        (let q = raised-listed c cpu kind choice right h steps are row bits
        (subst (λ xs. Contains xs (Raise row bits)) (sym begins)
        (Contains-append_left done rest (Raise row bits) raised)) in
        outside-apart c cpu kind choice right h row r q.0
        (keeps.apart i v m w s r q.0 row bits at ne stands valid among q.1 raised q.2) q.2);
  }

  module _ (u : SlotUnit) (of : IsOfUnit c cpu choice u) (found : Found) (is : table_in c ≡ Some found)
      (steps : List Step) (are : AreOwnSteps c cpu choice steps) (done rest : List Step) (begins : steps ≡ done ++ rest)
      (keeps : KeepsOtherRows c cpu u done) where
    abbrev e : Content
    e = after_all c done

    abbrev Kept : Content → Type 0
    Kept x = KeepsCounts c cpu choice right (placed c cpu kind choice right h) u of (listed c cpu kind choice right h) x

    counts : (x : Content) → MayLeave c done x → Kept x
    counts x left =
        counts-left c cpu choice right (placed c cpu kind choice right h) u of (listed c cpu kind choice right h) done keeps
        x left

    module _ (own : IsOwnList c cpu choice steps) (k : ℕ) (step : Step) (d : Content) (at : IsCutAt c done k step d)
        (lucky : LeavesNoAccidentalImage c e d cpu choice step) (f : Decision) (former : Chosen c cpu Normal f) where
      range : In done
      range = all-first (IsStepIn (length c.flash)) done rest (subst In begins (own-range steps own))

      whole-left : (x : Content) → MayLeave c done x → MayLeave c steps x
      whole-left x left = subst (λ xs. MayLeave c xs x) (sym begins) (left-more c done rest x right range left)

      d-left : MayLeave c done d
      d-left = inr (CutOf-from c done d (k, step, at))

      e-left : MayLeave c done e
      e-left = inl refl

      left-in : (x : Content) → MayLeave c done x → IsLeft c choice x
      left-in x left = left-list c cpu kind choice right h steps own x (whole-left x left)

      table : (x : Content) → MayLeave c done x → table_in x ≡ table_in c
      table x left = own-table c cpu kind choice right h found is steps are x (whole-left x left) ∙ sym is

      abbrev Ends : Type 0
      Ends = Chosen d cpu Normal f ⊎ StartsFinished e d cpu

      moved : decision_in d cpu Normal ≡ decision_in c cpu Normal → Ends
      moved same =
          inl ((chosen-exactly d cpu Normal f).1 ((chosen-exactly c cpu Normal f).0 former ∙ sym same))

      stays : taken d cpu u ≡ taken c cpu u → Ends
      stays same =
          moved (decision-stays c cpu choice right (placed c cpu kind choice right h) u of (listed c cpu kind choice right h)
          d (left-in d d-left) (counts d d-left) (table d d-left) same)

      ends : TakesTheEnd c cpu choice right (placed c cpu kind choice right h) (others c cpu kind choice right h) own.updated
          own.before own.confined u of (listed c cpu kind choice right h) (version c cpu kind choice right h)
          (not c cpu kind choice right h) own.mid d e → Ends
      ends t =
          elim (decision-ends c cpu choice right (placed c cpu kind choice right h) u of (listed c cpu kind choice right h)
          d e t.start (left-in d d-left) (counts d d-left) (left-in e e-left) (counts e e-left) (table d d-left)
          (table e e-left) t.here t.after) [
            | inl same ↦ moved same
            | inr both ↦ inr (record {
              choice = t.start;
              here = (chosen-exactly d cpu Normal (Start t.start)).1 (sym both.0);
              after = (chosen-exactly e cpu Normal (Start t.start)).1 (sym both.1);
              same = t.same;
            })
          ]

      -- power is lost in the rewrite of the sector of the trial bit
      in-first : (more : List Step) → own.before ≡ done ++ more → Ends
      in-first more before = elim own.first [
        | inl none ↦
            no-cut c cpu kind choice right h u of done k step (nothing-first done more (sym none ∙ before)) at.stands
        | inr unheld ↦
            (let confined : Confined done W =
            all-first (IsConfined W) done more (subst (λ xs. Confined xs W) before own.confined) in
            let there : IsConfined W step = all-there (IsConfined W) done k step confined at.stands in
            elim (rewrite-taken c cpu choice right (placed c cpu kind choice right h) (others c cpu kind choice right h)
            own.updated own.before own.confined u of (listed c cpu kind choice right h)
            (version c cpu kind choice right h) (not c cpu kind choice right h) own.mid unheld d e
            (confined-CutOf c W done d confined (CutOf-from c done d (k, step, at))) (confined-after_all c W done confined)
            (lucky W (inl refl) there).image) [
              | inl same ↦ stays same
              | inr t ↦ ends t
            ])
      ]

      -- the sector is rewritten whole, and the other image's is erased, if it has to be
      behind : (raised : List Step) → done ≡ own.before ++ (E ++ raised) → R ≡ raised ++ rest → Ends
      behind raised done_is raises =
          elim (end-cut c cpu kind choice right h u of steps own e come k step d
          (subst (λ xs. IsCutAt c xs k step d) (sym begins) (cut-more c done rest k step d at)) lucky) [
            | inl same ↦ stays same
            | inr settled ↦ ends (record {
              start = settled_choice choice;
              here = settled.0;
              after = end-taken c cpu kind choice right h u of steps own e come;
              same = settled.1;
            })
          ]
        where
          x1 : Content
          x1 = after_all (after_all c own.before) E

          x1-content : IsContent x1
          x1-content =
              raises-content c cpu choice right (placed c cpu kind choice right h) (others c cpu kind choice right h)
              own.updated own.before own.confined

          some-in : AllByRecursion (IsStepIn (length x1.flash)) raised
          some-in =
              all-first (IsStepIn (length x1.flash)) raised rest
              (subst (λ xs. AllByRecursion (IsStepIn (length x1.flash)) xs) raises
              (raises-in (length x1.flash) choice.image.rollback))

          e-is : e ≡ after_all x1 raised
          e-is =
              ap (after_all c) done_is
              ∙ (after_all-append c own.before (E ++ raised) ∙ after_all-append (after_all c own.before) E raised)

          come : ComesTo c cpu kind choice right h u of steps own e
          come = subst (λ xs. MayLeave x1 xs e) (sym raises) (left-more x1 raised rest e x1-content some-in (inl e-is))

      -- the erase of the other image is one step, which is done or not
      in-erase : (more tail : List Step) → done ≡ own.before ++ more → E ++ R ≡ more ++ rest → E ≡ more ++ tail → Ends
      in-erase more tail done_is last erase = elim (erase-cases c cpu choice own.updated) [
        | inl k ↦ idle (nothing-first more tail (sym k.none ∙ erase))
        | inr e ↦ elim (one-first (Erase (e.window.start / 4096)) more tail (sym e.steps ∙ erase)) [
          | inl none ↦ idle none
          | inr all ↦
              (let same : more ≡ E = all ∙ sym e.steps in
              behind [] (done_is ∙ ap (λ xs. own.before ++ xs) (same ∙ sym (append-nil E)))
              (append_cancel_left E R rest (last ∙ ap (λ xs. xs ++ rest) same)))
        ]
      ]
        where
          idle : more ≡ [] → Ends
          idle none =
              in-first []
              (sym (append-nil own.before) ∙ sym (ap (λ xs. own.before ++ xs) none) ∙ sym done_is ∙ sym (append-nil done))

      pub list-part : Ends
      list-part = elim (first-parts done rest own.before (E ++ R) (sym begins ∙ own.whole)) [
        | inl first ↦ in-first first.0 first.1
        | inr later ↦ elim (first-parts later.0 rest E R (sym later.2)) [
          | inl erase ↦ in-erase later.0 erase.0 later.1 later.2 erase.1
          | inr last ↦
              behind last.0 (later.1 ∙ ap (λ xs. own.before ++ xs) last.1) last.2
        ]
      ]

    pub part-decision : (k : ℕ) (step : Step) (d : Content) → IsCutAt c done k step d
        → LeavesNoAccidentalImage c (after_all c done) d cpu choice step → (f : Decision) → Chosen c cpu Normal f
        → Chosen d cpu Normal f ⊎ StartsFinished (after_all c done) d cpu
    part-decision k step d at lucky f former = elim (own-list c cpu kind choice right h steps are) [
      | inl own ↦ list-part own k step d at lucky f former
      | inr none ↦
          no-cut c cpu kind choice right h u of done k step (nothing-first done rest (sym none ∙ begins)) at.stands
    ]
