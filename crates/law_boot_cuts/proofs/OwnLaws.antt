-- A start's and a buy's writes as lists of three parts, and the laws on them.
use Rattle.std.proofs.Common.{◌≡◌, ◌⊎◌, ℕ, ◌+◌, ◌*◌, ◌/◌, ◌<◌, ◌≤◌, Bool, true, false, List, [], ◌∷◌, ◌++◌, length, slice_get, Option, Some, None, refl, sym, ap, ◌∙◌, subst, arith, inl, inr, option_map}
use Rattle.std.specs.Prelude.{Contains, IfSome, if◌then◌else◌}
use Rattle.std.proofs.lemmas.Bool.{cases_lt}
use Rattle.std.proofs.lemmas.List.Elements.{All-contains, All-from_recursion, Contains-append_cases}
use Rattle.std.specs.List.{AllByRecursion}
use Rattle.pico_board.specs.declared.Step.{Step}
use Rattle.pico_board.specs.declared.Step.TheVariants.{Erase, Raise}
use Rattle.pico_board.specs.declared.boot.Cpu.{Cpu}
use Rattle.pico_board.specs.declared.boot.BootKind.{BootKind}
use Rattle.pico_board.specs.declared.boot.BootKind.TheVariants.{Normal}
use Rattle.pico_board.specs.declared.window.Window.{Window}
use Rattle.pico_board.specs.Content.{AreApart, Content, IsContent, window_bytes}
use Rattle.pico_board.specs.Sessions.{Confined, IsConfined}
use Rattle.pico_board.specs.Steps.{IsCutAt, IsRaise, MayLeave, after_all}
use Rattle.pico_board.proofs.CuttingLemmas.{CutOf-from}
use Rattle.pico_board.proofs.StepLemmas.{after_all-append}
use Rattle.image_def.specs.declared.started.Started.{Started}
use Rattle.otp_roll.specs.Flags.{slot_size}
use Rattle.otp_roll.specs.Rows.{AreRollbackRows, AreRowsApart, IsOutside, IsRollbackVersion}
use Rattle.otp_roll.proofs.RisingLemmas.{raises-listed}
use Rattle.part_table.proofs.TableLemmas.{apart_sym}
use Rattle.part_table.specs.Windows.{IsPlacedWindow, IsPlacedIn}
use Rattle.image_check.specs.Addressing.{in_flash}
use Rattle.image_check.specs.Changes.{ClearsTrialBit, bought}
use Rattle.image_check.specs.NotBelow.{NotBelow}
use Rattle.image_check.specs.SameImage.{SameImage}
use Rattle.image_check.specs.Valid.{IsValidImage, Valid}
use Rattle.image_check.proofs.ClearedLemmas.{cleared-valid}
use Rattle.image_check.proofs.LawLemmas.{one-image, trial-less, trial-more, trial-none}
use Rattle.slot_choice.specs.declared.unit.SlotUnit.{SlotUnit}
use Rattle.slot_choice.specs.declared.choice.Choice.{Choice}
use Rattle.slot_choice.specs.Units.{IsMember, units}
use Rattle.slot_choice.proofs.PlaceLemmas.{apart_from_slots, boot_members_placed}
use Rattle.trial_buy.specs.Buying.{buy_steps, clearing, trial_place}
use Rattle.trial_buy.specs.Starting.{image_raises, is_other_better, other_erase, raises_of, settling, start_steps}
use Rattle.trial_buy.proofs.ImageLemmas.{trial-inside, trial-within, valid-rows, valid-version}
use Rattle.trial_buy.proofs.RewriteLemmas.{cleared-content}
use Rattle.boot_rules.specs.declared.decision.Decision.{Decision}
use Rattle.boot_rules.specs.declared.decision.Decision.TheVariants.{Start}
use Rattle.boot_rules.specs.declared.tables.Found.{Found}
use Rattle.boot_rules.specs.Choosing.{decision_in, images_in, other_of}
use Rattle.boot_rules.specs.Chosen.{Chosen}
use Rattle.boot_rules.specs.Picking.{pick, taken}
use Rattle.boot_rules.specs.Starts.{IsOfUnit}
use Rattle.boot_rules.specs.Tables.{slot_window, table_in}
use Rattle.boot_rules.proofs.DecisionLemmas.{chosen-exactly, chosen-not_below, valid-found}
use Rattle.boot_rules.proofs.PlaceLemmas.{slot-size}
use Rattle.boot_rules.proofs.StartLemmas.{is-member, of-unit, start, start-other, start-placed, start-trial, start-valid}
use Rattle.boot_rules.proofs.TableLemmas.{found-in}
use Rattle.law_boot_cuts.specs.Crashes.{AreOwnSteps, LeavesNoAccidentalImage, IsUnitWindow, KeepsOtherRows, KeepsOtherTriples, PicksBought, StartsBought, settled_choice}
use Rattle.boot_rules.proofs.SameUnitLemmas.{table-same}
use Rattle.law_boot_cuts.proofs.LeftRowLemmas.{image-raises}
use Rattle.law_boot_cuts.proofs.OwnDecisionLemmas.{decision-kept, decision-settled}
use Rattle.law_boot_cuts.proofs.OwnLeftLemmas.{IsLeft, own-left, slot_size-stays}
use Rattle.law_boot_cuts.proofs.OwnPickLemmas.{TakesSettled, cut-first, cut-taken, done-taken, none-found, raised-taken}
use Rattle.law_boot_cuts.proofs.OwnStepLemmas.{all-there, clearing-confined, erase-cases, first-confined}
use Rattle.law_boot_cuts.proofs.OwnWindowLemmas.{clears-window}
use Rattle.law_boot_cuts.proofs.PairLemmas.{IsBeaten, absent, beaten}
use Rattle.law_boot_cuts.proofs.RaisesCutLemmas.{plain-steps}

-- the steps before the erase, what they leave in the image's window, and what that held before
pub record IsOwnList (c : Content) (cpu : Cpu) (choice : Choice) (steps : List Step) : Type 0 where
  pub updated : choice.updated ≡ true
  pub before : List Step
  pub whole : steps ≡ before ++ (other_erase c cpu choice ++ image_raises c.otp choice.image)
  pub confined : Confined before choice.image.window
  pub mid : Valid (after_all c before) choice.image.window cpu false (bought choice.image)
  pub was : (t : Started) → is_other_better choice.member choice.image.version t.version ≡ true
      → IsBeaten choice.member (images_in c cpu choice.image.window false) t
  pub first : (before ≡ []) ⊎ (images_in c cpu choice.image.window false ≡ None)

-- an image that is no trial is the same without its trial bit
bought-same : (s : Started) → s.trial ≡ false → bought s ≡ s
bought-same s e =
    ap (λ t. let r : Started = record {
      window = s.window;
      block = s.block;
      image_at = s.image_at;
      pc = s.pc;
      sp = s.sp;
      limit = s.limit;
      version = s.version;
      rollback = s.rollback;
      rows = s.rows;
      trial = t;
    } in r) (sym e)

module _ (c : Content) (cpu : Cpu) (kind : BootKind) (choice : Choice) (right : IsContent c)
    (h : Chosen c cpu kind (Start choice)) where
  abbrev W : Window
  W = choice.image.window

  held : Valid c W cpu true choice.image
  held = start-valid c cpu kind choice h

  pub placed : IsPlacedIn c W
  placed = start-placed c cpu kind choice right h

  pub others : (w : Window) → choice.other ≡ Some w → IsPlacedIn c w × AreApart W w
  others = start-other c cpu kind choice right h

  pub listed : AreRollbackRows choice.image.rows.items
  listed = valid-rows c W cpu true choice.image held

  pub version : IfSome choice.image.rollback (λ v. IsRollbackVersion v choice.image.rows.items)
  version = valid-version c W cpu true choice.image held

  pub not : NotBelow c.otp choice.image
  not = chosen-not_below c cpu kind choice h

  pub inside : W.start + W.len ≤ length c.flash
  inside = let i = placed.inside in let whole = right.flash_length.whole in omega (arith, i, whole)

  -- the writes of an updated start of an image that is no trial
  start-list : choice.updated ≡ true → choice.image.trial ≡ false → IsOwnList c cpu choice (start_steps c cpu choice)
  start-list updated plain =
      let there : Valid c W cpu false choice.image =
      trial-less in_flash W cpu c.otp (window_bytes c W) choice.image plain held in
      record {
        updated = updated;
        before = [];
        whole = plain-steps choice.image.trial (settling c cpu choice) plain;
        confined = tt;
        mid = subst (λ (s : Started). Valid c W cpu false s) (sym (bought-same choice.image plain)) there;
        was = λ t better. beaten choice.image (valid-found c cpu W false choice.image there) better;
        first = inl refl;
      }

  -- the writes of the buy of a trial image
  place-inside : trial_place choice.image < length c.flash
  place-inside = trial-inside c W cpu true choice.image held refl placed

  at-inside : choice.image.image_at + 3 < W.len
  at-inside = trial-within c W cpu true choice.image held placed inside

  clears : ClearsTrialBit (window_bytes c W)
      (window_bytes (after_all c (clearing c.flash (trial_place choice.image))) W) choice.image.image_at
  clears =
      subst (λ (d : Content). ClearsTrialBit (window_bytes c W) (window_bytes d W) choice.image.image_at)
      (sym (cleared-content c right (trial_place choice.image) place-inside))
      (clears-window c c.otp W choice.image.image_at inside at-inside)

  clear-valid : Valid (after_all c (clearing c.flash (trial_place choice.image))) W cpu false (bought choice.image)
  clear-valid =
      subst (λ otp. IsValidImage in_flash W cpu false otp
      (window_bytes (after_all c (clearing c.flash (trial_place choice.image))) W) (bought choice.image))
      (sym (ap (λ (d : Content). d.otp) (cleared-content c right (trial_place choice.image) place-inside)))
      (cleared-valid in_flash W cpu true false c.otp (window_bytes c W) _ choice.image held clears)

  trial-unheld : choice.image.trial ≡ true → images_in c cpu W false ≡ None
  trial-unheld trial = none-found c cpu W never
    where
      differ : (t : Bool) → t ≡ true → t ≡ false → ⊥
      differ t e f = cc

      never : (s : Started) → Valid c W cpu false s → ⊥
      never s v =
          let same : s ≡ choice.image =
          one-image in_flash W cpu true c.otp (window_bytes c W) s choice.image
          (trial-more in_flash W cpu c.otp (window_bytes c W) s v) held in
          differ choice.image.trial trial
          (ap (λ (x : Started). x.trial) (sym same) ∙ trial-none in_flash W cpu c.otp (window_bytes c W) s v)

  buy-list : choice.image.trial ≡ true → IsOwnList c cpu choice (buy_steps c cpu choice)
  buy-list trial = record {
    updated = start-trial c cpu kind choice h trial;
    before = clearing c.flash (trial_place choice.image);
    whole = refl;
    confined = clearing-confined c.flash (trial_place choice.image) (length c.flash / 4096) W placed (omega arith)
        (let lt = at-inside in omega (arith, lt));
    mid = clear-valid;
    was = λ t better. absent (trial-unheld trial);
    first = inr (trial-unheld trial);
  }

  no-step : (steps : List Step) → choice.image.trial ≡ true
      → (let r : List Step = if choice.image.trial then [] else steps in r) ≡ []
  no-step steps e = go choice.image.trial e
    where
      go : (t : Bool) → t ≡ true → (let r : List Step = if t then [] else steps in r) ≡ []
      go true f = refl
      go false f = cc

  -- the steps are such a list, or there are none
  pub own-list : (steps : List Step) → AreOwnSteps c cpu choice steps → IsOwnList c cpu choice steps ⊎ (steps ≡ [])
  own-list steps (inr (trial, is)) = inl (subst (IsOwnList c cpu choice) (sym is) (buy-list trial))
  own-list steps (inl (updated, is)) = go choice.image.trial refl
    where
      go : (t : Bool) → choice.image.trial ≡ t → IsOwnList c cpu choice steps ⊎ (steps ≡ [])
      go true e = inr (is ∙ no-step (settling c cpu choice) e)
      go false e = inl (subst (IsOwnList c cpu choice) (sym is) (start-list updated e))

  -- each erase and program lies in one of the two windows
  abbrev IsOwnStep : Step → Type 0
  IsOwnStep step = IsRaise step ⊎ ((v : Window) × IsUnitWindow choice v × IsConfined v step)

  in-window : (v : Window) → IsUnitWindow choice v → (xs : List Step) → Confined xs v → AllByRecursion IsOwnStep xs
  in-window v is [] all = tt
  in-window v is (x ∷ xs) all = (inr (v, is, all.0), in-window v is xs all.1)

  all-raises : (xs : List Step) → AllByRecursion IsRaise xs → AllByRecursion IsOwnStep xs
  all-raises [] all = tt
  all-raises (x ∷ xs) all = (inl all.0, all-raises xs all.1)

  all-both : (xs ys : List Step) → AllByRecursion IsOwnStep xs → AllByRecursion IsOwnStep ys
      → AllByRecursion IsOwnStep (xs ++ ys)
  all-both [] ys one two = two
  all-both (x ∷ xs) ys one two = (one.0, all-both xs ys one.1 two)

  erase-own : choice.updated ≡ true → AllByRecursion IsOwnStep (other_erase c cpu choice)
  erase-own updated = elim (erase-cases c cpu choice updated) [
    | inl k ↦ subst (λ xs. AllByRecursion IsOwnStep xs) (sym k.none) tt
    | inr e ↦
        subst (λ xs. AllByRecursion IsOwnStep xs) (sym e.steps)
        (in-window e.window (inr e.other) (Erase (e.window.start / 4096) ∷ [])
        (first-confined _ e.window (others e.window e.other).0))
  ]

  pub own-windows : (steps : List Step) → AreOwnSteps c cpu choice steps → (k : ℕ) (step : Step)
      → slice_get steps k ≡ Some step → IsRaise step ⊎ ((v : Window) × IsUnitWindow choice v × IsConfined v step)
  own-windows steps are k step at = all-there IsOwnStep steps k step (elim (own-list steps are) [
    | inl own ↦
        subst (λ xs. AllByRecursion IsOwnStep xs) (sym own.whole)
        (all-both own.before _ (in-window W (inl refl) own.before own.confined)
        (all-both (other_erase c cpu choice) _ (erase-own own.updated)
        (all-raises _ (image-raises c.otp choice.image.rows.items choice.image.rollback))))
    | inr none ↦ subst (λ xs. AllByRecursion IsOwnStep xs) (sym none) tt
  ]) at

  -- each raise is of a row in the triple of a row that the image lists
  not-raised : (v : Window) (xs : List Step) → Confined xs v → (row bits : ℕ) → Contains xs (Raise row bits) → ⊥
  not-raised v xs all row bits among =
      All-contains (IsConfined v) xs (Raise row bits) (All-from_recursion (IsConfined v) xs all) among

  none-among : (row bits : ℕ) → Contains [] (Raise row bits) → ⊥
  none-among row bits (k, lt, is) = omega arith

  erase-raised : choice.updated ≡ true → (row bits : ℕ) → Contains (other_erase c cpu choice) (Raise row bits) → ⊥
  erase-raised updated row bits among = elim (erase-cases c cpu choice updated) [
    | inl k ↦ none-among row bits (subst (λ xs. Contains xs (Raise row bits)) k.none among)
    | inr e ↦
        not-raised e.window (Erase (e.window.start / 4096) ∷ []) (first-confined _ e.window (others e.window e.other).0)
        row bits (subst (λ xs. Contains xs (Raise row bits)) e.steps among)
  ]

  image-listed : (o : Option ℕ) (row bits : ℕ)
      → Contains (raises_of c.otp choice.image.rows.items o) (Raise row bits)
      → (q : ℕ) × Contains choice.image.rows.items q × ¬ (IsOutside row q)
  image-listed None row bits among = absurd (none-among row bits among)
  image-listed (Some v) row bits among = raises-listed c.otp choice.image.rows.items v row bits among

  pub raised-listed : (steps : List Step) → AreOwnSteps c cpu choice steps → (row bits : ℕ)
      → Contains steps (Raise row bits) → (q : ℕ) × Contains choice.image.rows.items q × ¬ (IsOutside row q)
  raised-listed steps are row bits among = elim (own-list steps are) [
    | inl own ↦
        elim (Contains-append_cases own.before (other_erase c cpu choice ++ image_raises c.otp choice.image)
        (Raise row bits) (subst (λ xs. Contains xs (Raise row bits)) own.whole among)) [
          | inl one ↦ absurd (not-raised W own.before own.confined row bits one)
          | inr rest ↦
              elim (Contains-append_cases (other_erase c cpu choice) (image_raises c.otp choice.image) (Raise row bits)
              rest) [
                | inl two ↦ absurd (erase-raised own.updated row bits two)
                | inr three ↦ image-listed choice.image.rollback row bits three
              ]
        ]
    | inr none ↦ absurd (none-among row bits (subst (λ xs. Contains xs (Raise row bits)) none among))
  ]

  pub outside-apart : (row r q : ℕ) → AreRowsApart r q → ¬ (IsOutside row q) → IsOutside row r
  outside-apart row r q apart is = elim (cases_lt row r) [
    | inl below ↦ inl below
    | inr from ↦
        elim (cases_lt row (r + 3)) [
          | inl within ↦ absurd (is (elim apart [
            | inl first ↦ inl (omega (arith, first, within))
            | inr last ↦ inr (omega (arith, last, from))
          ]))
          | inr behind ↦ inr behind
        ]
  ]

  pub triples-rows : (u : SlotUnit) (steps : List Step) → AreOwnSteps c cpu choice steps
      → KeepsOtherTriples c cpu choice u steps → KeepsOtherRows c cpu u steps
  triples-rows u steps are keeps = record {
    apart = λ i v m w s r row bits at ne stands valid among raised.
        (let q = raised-listed steps are row bits raised in
        outside-apart row r q.0 (keeps.apart i v m w s r q.0 row bits at ne stands valid among q.1 raised q.2) q.2);
  }

  -- what own steps leave
  pub left-list : (steps : List Step) → IsOwnList c cpu choice steps → (d : Content) → MayLeave c steps d
      → IsLeft c choice d
  left-list steps own d left =
      own-left c cpu choice right placed others own.updated own.before own.confined d
      (subst (λ xs. MayLeave c xs d) own.whole left)

  none-left : (d : Content) → MayLeave c [] d → d ≡ c
  none-left d (inl done) = done
  none-left d (inr cut) = absurd cut

  -- a table stays
  module _ (found : Found) (is : table_in c ≡ Some found) where
    abbrev n : ℕ
    n = length c.flash

    abbrev size : ℕ
    size = slot_size c.otp (length c.flash)

    member-apart : (w : Window) → (u : SlotUnit) × IsOfUnit c cpu choice u × IsMember u w
        → AreApart w (slot_window size 0) × AreApart w (slot_window size 1)
    member-apart w (u, of, member) =
        let table_is = ap (option_map (λ (f : Found). f.table)) is in
        let behind : IsPlacedWindow w (n / 4096) (2 * size / 4096) =
        boot_members_placed found.table (n / 4096) (2 * size / 4096) n size cpu (found-in c found is).1 of.place u
        (sym (ap (λ t. slice_get (units t n size cpu) of.place) table_is) ∙ of.tried) w member in
        let slot = slot-size c.otp n right.flash_length.least in
        let whole = slot.whole in
        let both : 4096 * (2 * size / 4096) ≡ 2 * size = omega (arith, whole) in
        let apart = apart_from_slots size (2 * size / 4096) (n / 4096) w both behind in
        let never : 0 ≡ 0 * size = omega arith in
        let once : size ≡ 1 * size = omega arith in (
          apart_sym (slot_window size 0) w
              (subst (λ k. AreApart (record { start = k; len = size }) w) never apart.0),
          apart_sym (slot_window size 1) w
              (subst (λ k. AreApart (record { start = k; len = size }) w) once apart.1),
        )

    abbrev unit : SlotUnit
    unit = (start c cpu kind choice h).unit

    of : IsOfUnit c cpu choice unit
    of = of-unit c cpu kind choice h

    left-table : (d : Content) → IsLeft c choice d → table_in d ≡ Some found
    left-table d left =
        let mine = member-apart W (unit, of, is-member choice.member unit W of.stands) in
        table-same c d left.long (slot_size-stays c d choice.image right listed left.rows n)
        (left.bytes (slot_window size 0) mine.0 (λ w e. (theirs w e).0))
        (left.bytes (slot_window size 1) mine.1 (λ w e. (theirs w e).1)) ∙ is
      where
        theirs : (w : Window) → choice.other ≡ Some w
            → AreApart w (slot_window size 0) × AreApart w (slot_window size 1)
        theirs w e = member-apart w (unit, of, is-member (other_of choice.member) unit w (sym of.other ∙ e))

    pub own-table : (steps : List Step) → AreOwnSteps c cpu choice steps → (d : Content) → MayLeave c steps d
        → table_in d ≡ Some found
    own-table steps are d left = elim (own-list steps are) [
      | inl own ↦ left-table d (left-list steps own d left)
      | inr none ↦ (let same = none-left d (subst (λ xs. MayLeave c xs d) none left) in ap table_in same ∙ is)
    ]

  module _ (u : SlotUnit) (of : IsOfUnit c cpu choice u) where
    pub no-cut : {P : Type 0} (xs : List Step) (k : ℕ) (step : Step) → xs ≡ [] → slice_get xs k ≡ Some step → P
    no-cut xs k step e at = none (sym (ap (λ ys. slice_get ys k) e) ∙ at)
      where
        none : {P : Type 0} → None ≡ Some step → P
        none f = cc

    -- what is taken of the unit after all steps
    list-done : (steps : List Step) → IsOwnList c cpu choice steps
        → taken (after_all c steps) cpu u ≡ Some (settled_choice choice)
    list-done steps own =
        ap (λ xs. taken (after_all c xs) cpu u) own.whole
        ∙ done-taken c cpu choice right placed others own.updated own.before own.confined u of listed version not
        own.mid

    -- what is taken of the unit of what a cut leaves
    abbrev Taken : Content → Content → Type 0
    Taken d z = (taken d cpu u ≡ taken c cpu u)
        ⊎ ((taken d cpu u ≡ Some (settled_choice choice)) × SameImage d z (bought choice.image) cpu)

    -- the steps come to z: those before the raises are done, and these in part or whole
    abbrev pub ComesTo : (steps : List Step) → IsOwnList c cpu choice steps → Content → Type 0
    ComesTo steps own z =
        MayLeave (after_all (after_all c own.before) (other_erase c cpu choice)) (image_raises c.otp choice.image) z

    all-come : (steps : List Step) (own : IsOwnList c cpu choice steps) → ComesTo steps own (after_all c steps)
    all-come steps own =
        inl (ap (after_all c) own.whole
        ∙ (after_all-append c own.before (other_erase c cpu choice ++ image_raises c.otp choice.image)
        ∙ after_all-append (after_all c own.before) (other_erase c cpu choice) (image_raises c.otp choice.image)))

    pub end-taken : (steps : List Step) (own : IsOwnList c cpu choice steps) (z : Content) → ComesTo steps own z
        → taken z cpu u ≡ Some (settled_choice choice)
    end-taken steps own z end =
        raised-taken c cpu choice right placed others own.updated own.before own.confined u of listed version not own.mid
        z end

    pub end-cut : (steps : List Step) (own : IsOwnList c cpu choice steps) (z : Content) → ComesTo steps own z → (k : ℕ)
        (step : Step) (d : Content) → IsCutAt c steps k step d → LeavesNoAccidentalImage c z d cpu choice step → Taken d z
    end-cut steps own z end k step d at no_accident =
        plainly (cut-taken c cpu choice right placed others own.updated own.before own.confined u of listed version not
        own.mid z end own.was first k step d (subst (λ xs. IsCutAt c xs k step d) own.whole at) no_accident)
      where
        Settled : Content → Type 0
        Settled x =
            TakesSettled c cpu choice right placed others own.updated own.before own.confined u of listed version not
            own.mid z end x

        first : (j : ℕ) (step : Step) (x : Content) → IsCutAt c own.before j step x
            → LeavesNoAccidentalImage c z x cpu choice step → (taken x cpu u ≡ taken c cpu u) ⊎ Settled x
        first j step x at no_accident = elim own.first [
          | inl none ↦ no-cut own.before j step none at.stands
          | inr unheld ↦
              cut-first c cpu choice right placed others own.updated own.before own.confined u of listed version not
              own.mid z end own.was unheld j step x at no_accident
        ]

        plainly : (taken d cpu u ≡ taken c cpu u) ⊎ Settled d → Taken d z
        plainly (inl same) = inl same
        plainly (inr s) = inr (s.here, s.same)

    list-cut : (steps : List Step) → IsOwnList c cpu choice steps → (k : ℕ) (step : Step) (d : Content)
        → IsCutAt c steps k step d
        → LeavesNoAccidentalImage c (after_all c steps) d cpu choice step → Taken d (after_all c steps)
    list-cut steps own k step d at no_accident =
        end-cut steps own (after_all c steps) (all-come steps own) k step d at no_accident

    abbrev picked : Option Choice → Option Started
    picked o = option_map (λ (x : Choice). x.image) o

    pub own-pick : (steps : List Step) → AreOwnSteps c cpu choice steps → (k : ℕ) (step : Step) (d : Content)
        → IsCutAt c steps k step d → LeavesNoAccidentalImage c (after_all c steps) d cpu choice step
        → (pick d u cpu ≡ pick c u cpu) ⊎ PicksBought (after_all c steps) d u cpu choice
    own-pick steps are k step d at no_accident = elim (own-list steps are) [
      | inl own ↦
          elim (list-cut steps own k step d at no_accident) [
            | inl same ↦ inl (ap picked same)
            | inr settled ↦ inr (record {
              here = ap picked settled.0;
              after = ap picked (list-done steps own);
              same = settled.1;
            })
          ]
      | inr none ↦ no-cut steps k step none at.stands
    ]

    pub own-decision : (steps : List Step) → AreOwnSteps c cpu choice steps → (k : ℕ) (step : Step) (d : Content)
        → IsCutAt c steps k step d → LeavesNoAccidentalImage c (after_all c steps) d cpu choice step
        → table_in d ≡ table_in c
        → table_in (after_all c steps) ≡ table_in c → KeepsOtherRows c cpu u steps → (e : Decision)
        → Chosen c cpu Normal e → Chosen d cpu Normal e ⊎ StartsBought (after_all c steps) d cpu choice
    own-decision steps are k step d at no_accident table done keeps e chosen = elim (own-list steps are) [
      | inl own ↦
          (let kept = subst (KeepsOtherRows c cpu u) own.whole keeps in
          let left = left-list steps own d (inr (CutOf-from c steps d (k, step, at))) in
          let last = left-list steps own (after_all c steps) (inl refl) in
          elim (list-cut steps own k step d at no_accident) [
            | inl same ↦
                inl (moved (decision-kept c cpu choice right placed u of listed own.before kept d left table same))
            | inr settled ↦
                elim (decision-settled c cpu choice right placed u of listed own.before kept d (after_all c steps)
                (settled_choice choice) left last table done settled.0 (list-done steps own)) [
                  | inl same ↦ inl (moved same)
                  | inr both ↦ inr (record {
                    here = (chosen-exactly d cpu Normal (Start (settled_choice choice))).1 (sym both.0);
                    after = (chosen-exactly (after_all c steps) cpu Normal (Start (settled_choice choice))).1
                        (sym both.1);
                    same = settled.1;
                  })
                ]
          ])
      | inr none ↦ no-cut steps k step none at.stands
    ]
      where
        moved : decision_in d cpu Normal ≡ decision_in c cpu Normal → Chosen d cpu Normal e
        moved same = (chosen-exactly d cpu Normal e).1 ((chosen-exactly c cpu Normal e).0 chosen ∙ sym same)

    -- where there is a table, it stays, so nothing is asked of it
    pub own-decision-table : (found : Found) → table_in c ≡ Some found → (steps : List Step)
        → AreOwnSteps c cpu choice steps
        → (k : ℕ) (step : Step) (d : Content) → IsCutAt c steps k step d
        → LeavesNoAccidentalImage c (after_all c steps) d cpu choice step → KeepsOtherRows c cpu u steps
        → (e : Decision)
        → Chosen c cpu Normal e → Chosen d cpu Normal e ⊎ StartsBought (after_all c steps) d cpu choice
    own-decision-table found is steps are k step d at no_accident keeps e chosen =
        own-decision steps are k step d at no_accident
        (own-table found is steps are d (inr (CutOf-from c steps d (k, step, at))) ∙ sym is)
        (own-table found is steps are (after_all c steps) (inl refl) ∙ sym is) keeps e chosen

    -- what is picked after a whole start or buy
    pub start-pick : choice.updated ≡ true → choice.image.trial ≡ false
        → pick (after_all c (start_steps c cpu choice)) u cpu ≡ Some choice.image
    start-pick updated plain =
        ap picked (list-done (start_steps c cpu choice) (start-list updated plain))
        ∙ ap Some (bought-same choice.image plain)

    pub buy-pick : choice.image.trial ≡ true
        → pick (after_all c (buy_steps c cpu choice)) u cpu ≡ Some (bought choice.image)
    buy-pick trial = ap picked (list-done (buy_steps c cpu choice) (buy-list trial))
