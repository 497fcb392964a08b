-- What a normal boot decides where power is lost in a gated session on one member of a pair.
use Rattle.std.proofs.Common.{◌≡◌, ◌≢◌, ◌⊎◌, inl, inr, ℕ, zero, suc, ◌+◌, ◌*◌, ◌/◌, ◌<◌, Bool, true, false, List, [], ◌∷◌, length, slice_get, slice_index, Option, Some, None, refl, sym, ap, ◌∙◌, subst, arith}
use Rattle.std.specs.Prelude.{◌||◌, not, nat_lt, if◌then◌else◌, option_map}
use Rattle.std.specs.Str.{bytes_eq}
use Rattle.std.specs.Result.{result_ok}
use Rattle.std.proofs.lemmas.Bool.{cases_eq}
use Rattle.std.proofs.lemmas.Option.{same_Some}
use Rattle.std.proofs.lemmas.Slice.Eq.{bytes_eq-Decides}
use Rattle.pico_board.specs.declared.Step.{Step}
use Rattle.pico_board.specs.declared.boot.Cpu.{Cpu}
use Rattle.pico_board.specs.declared.boot.BootKind.TheVariants.{Normal}
use Rattle.pico_board.specs.declared.window.Window.{Window}
use Rattle.pico_board.specs.Content.{AreApart, Content, IsContent, window_bytes}
use Rattle.pico_board.specs.Sessions.{Confined, Gated, SameButWindow, Unfinished}
use Rattle.pico_board.specs.Steps.{CutOf, after_all}
use Rattle.pico_board.proofs.ConfinementLemmas.{SameButWindow-refl, confined-CutOf, confined-after_all}
use Rattle.pico_board.proofs.RangeLemmas.{get_or-window_bytes}
use Rattle.block_codec.specs.Erased.{IsErasedFrom}
use Rattle.block_loop.proofs.SameLoopLemmas.{loop_of-blank}
use Rattle.image_def.specs.declared.started.Started.{Started}
use Rattle.otp_roll.specs.Flags.{slot_size}
use Rattle.image_check.specs.Addressing.{in_flash}
use Rattle.image_check.specs.SameImage.{SameImage}
use Rattle.image_check.proofs.LawLemmas.{erased-none, one-image}
use Rattle.part_table.specs.declared.table.Table.{Table}
use Rattle.part_table.proofs.TableLemmas.{apart_sym}
use Rattle.slot_choice.specs.declared.unit.Member.{Member}
use Rattle.slot_choice.specs.declared.unit.Member.TheVariants.{A, B}
use Rattle.slot_choice.specs.declared.unit.SlotUnit.{SlotUnit}
use Rattle.slot_choice.specs.Versions.{is_below}
use Rattle.slot_choice.specs.Units.{member_window, slot_pair, tableless_unit, units, whole_flash}
use Rattle.boot_rules.specs.declared.decision.Decision.{Decision}
use Rattle.boot_rules.specs.declared.decision.Decision.TheVariants.{Start}
use Rattle.boot_rules.specs.declared.tables.Found.{Found}
use Rattle.boot_rules.specs.Choosing.{decision_in, images_in, other_of}
use Rattle.boot_rules.specs.Chosen.{Chosen, IsBootMember}
use Rattle.boot_rules.specs.Tables.{answer_in_loop, found_of, slot_window, table_in}
use Rattle.boot_rules.proofs.TableLemmas.{slot_table}
use Rattle.boot_rules.proofs.DataLemmas.{same-bytes, same-length, same-slot}
use Rattle.boot_rules.proofs.DecisionLemmas.{chosen-exactly, found-valid, valid-found}
use Rattle.boot_rules.specs.AccidentalImages.{HasNoImage, IsKnownImage, HasNoAccidentalImage}
use Rattle.boot_rules.proofs.AccidentalImageLemmas.{same-there}
use Rattle.boot_session.specs.CutSessions.{CutSession, StartsOutside, StartsFinished, StartsThere}
use Rattle.boot_session.proofs.ConfinedLaws.{empty-decision, next-decision, same-image-decision, table-stays}
use Rattle.boot_session.proofs.NeighbourLemmas.{placed}

same-content : (f o g p : List ℕ) → f ≡ g → o ≡ p
    → (let c : Content = record { flash = f; otp = o } in
    let d : Content = record { flash = g; otp = p } in c ≡ d)
same-content f o g p e h = cc

-- two contents are the same or not
pub decide-content : (c d : Content) → (c ≡ d) ⊎ (c ≢ d)
decide-content c d = go (bytes_eq c.flash d.flash) (bytes_eq c.otp d.otp) refl refl
  where
    not : (xs ys : List ℕ) → bytes_eq xs ys ≡ false → xs ≢ ys
    not xs ys differ e =
        let equal = (bytes_eq-Decides xs ys).1 e in let h : true ≡ false = sym equal ∙ differ in cc

    go : (flash otp : Bool) → bytes_eq c.flash d.flash ≡ flash → bytes_eq c.otp d.otp ≡ otp → (c ≡ d) ⊎ (c ≢ d)
    go true true e f =
        inl (same-content _ _ _ _ ((bytes_eq-Decides c.flash d.flash).0 e) ((bytes_eq-Decides c.otp d.otp).0 f))
    go false otp e f = inr (λ is. not c.flash d.flash e (ap (λ (x : Content). x.flash) is))
    go true false e f = inr (λ is. not c.otp d.otp f (ap (λ (x : Content). x.otp) is))

-- the first bytes of a range are all 0xff, or one of them is another
pub decide-blank : (bytes : List ℕ) (start count : ℕ)
    → ((i : ℕ) → i < count → slice_index bytes (start + i) ≡ 255)
    ⊎ ((i : ℕ) × (i < count) × (slice_index bytes (start + i) ≢ 255))
decide-blank bytes start zero = inl (λ i lt. absurd (omega (arith, lt)))
decide-blank bytes start (suc count) =
    go (decide-blank bytes start count) (cases_eq (slice_index bytes (start + count)) 255)
  where
    last : (i : ℕ) → ((i : ℕ) → i < count → slice_index bytes (start + i) ≡ 255)
        → slice_index bytes (start + count) ≡ 255 → i < suc count → (i ≡ count) ⊎ (i ≢ count)
        → slice_index bytes (start + i) ≡ 255
    last i all here lt (inl e) = ap (λ k. slice_index bytes (start + k)) e ∙ here
    last i all here lt (inr differ) = all i (below i differ lt)
      where
        below : (i : ℕ) → i ≢ count → i < suc count → i < count
        below i differ lt = elim (cases_eq i count) [ inl e ↦ absurd (differ e) | inr n ↦ omega (arith, lt, n) ]

    go : ((i : ℕ) → i < count → slice_index bytes (start + i) ≡ 255)
        ⊎ ((i : ℕ) × (i < count) × (slice_index bytes (start + i) ≢ 255))
        → (slice_index bytes (start + count) ≡ 255) ⊎ (slice_index bytes (start + count) ≢ 255)
        → ((i : ℕ) → i < suc count → slice_index bytes (start + i) ≡ 255)
        ⊎ ((i : ℕ) × (i < suc count) × (slice_index bytes (start + i) ≢ 255))
    go (inr some) here = inr (some.0, omega (arith, some.1), some.2)
    go (inl all) (inr differ) = inr (count, omega arith, differ)
    go (inl all) (inl here) = inl (λ i lt. last i all here lt (cases_eq i count))

-- a slot whose first sector is erased has no table
slot-blank : (sectors first : ℕ) (bytes : List ℕ) → IsErasedFrom bytes 0 4096 → slot_table sectors first bytes ≡ None
slot-blank sectors first bytes erased = ap (λ r. result_ok (answer_in_loop sectors first r))
    (loop_of-blank bytes erased)

abbrev none_found : Option Found
none_found = None

none-both : (one two : Option Table) → found_of one two ≡ None → (one ≡ None) × (two ≡ None)
none-both None None e = (refl, refl)
none-both None (Some t) e = cc
none-both (Some t) None e = cc
none-both (Some t) (Some u) e = go (t.singleton || not (is_below t.version u.version)) e
  where
    go : {P : Type 0} (first : Bool)
        → (if first then Some (record { slot = 0; table = t }) else Some (record { slot = 1; table = u }))
        ≡ none_found → P
    go true h = cc
    go false h = cc

table-none : (c : Content) → table_in c ≡ None
    → (let z = slot_size c.otp (length c.flash) in
    let m = 2 * z / 4096 in
    (slot_table (length c.flash / 4096) m (window_bytes c (slot_window z 0)) ≡ None)
    × (slot_table (length c.flash / 4096) m (window_bytes c (slot_window z 1)) ≡ None))
unfolding table_in
table-none c e = none-both _ _ e

none-table : (d : Content) (n z : ℕ) → length d.flash ≡ n → slot_size d.otp (length d.flash) ≡ z
    → slot_table (n / 4096) (2 * z / 4096) (window_bytes d (slot_window z 0)) ≡ None
    → slot_table (n / 4096) (2 * z / 4096) (window_bytes d (slot_window z 1)) ≡ None → table_in d ≡ None
unfolding table_in
none-table d n z long slot one two =
    ap (λ o. found_of o (slot_table (length d.flash / 4096) (2 * slot_size d.otp (length d.flash) / 4096)
    (window_bytes d (slot_window (slot_size d.otp (length d.flash)) 1)))) (there 0 one)
    ∙ ap (found_of None) (there 1 two)
  where
    there : (k : ℕ) → slot_table (n / 4096) (2 * z / 4096) (window_bytes d (slot_window z k)) ≡ None
        → slot_table (length d.flash / 4096) (2 * slot_size d.otp (length d.flash) / 4096)
        (window_bytes d (slot_window (slot_size d.otp (length d.flash)) k)) ≡ None
    there k none =
        subst (λ y. slot_table (length d.flash / 4096) (2 * y / 4096) (window_bytes d (slot_window y k)) ≡ None)
        (sym slot)
        (subst (λ m. slot_table (m / 4096) (2 * z / 4096) (window_bytes d (slot_window z k)) ≡ None) (sym long) none)

-- a member of the pair without a table is a table slot
same-window : (a b x y : ℕ) → a ≡ x → b ≡ y
    → (let v : Window = record { start = a; len = b } in
    let w : Window = record { start = x; len = y } in v ≡ w)
same-window a b x y p q = cc

slot-member : (large : Bool) (n z : ℕ) (m : Member) (w other : Window)
    → member_window m (if large then slot_pair z else whole_flash n) ≡ Some w
    → member_window (other_of m) (if large then slot_pair z else whole_flash n) ≡ Some other
    → (w ≡ slot_window z 0) ⊎ (w ≡ slot_window z 1)
slot-member true n z A w other stands pair =
    inl (sym (same_Some (slot_pair z).a w stands) ∙ same-window 0 z (0 * z) z (omega arith) refl)
slot-member true n z B w other stands pair =
    let is : record { start = z; len = z } ≡ w = cc in
    inr (sym is ∙ same-window z z (1 * z) z (omega arith) refl)
slot-member false n z A w other stands pair = cc
slot-member false n z B w other stands pair = cc

only : (v : SlotUnit) (k : ℕ) (u : SlotUnit) → slice_get (v ∷ []) k ≡ Some u → v ≡ u
only v zero u e = same_Some v u e
only v (suc k) u e = cc

slots-differ : (z : ℕ) → AreApart (slot_window z 0) (slot_window z 1)
slots-differ z = inl (omega arith)

-- the content d differs from c in the window of a member alone, which as a table slot has no table
module _ (c : Content) (w : Window) (cpu : Cpu) (right : IsContent c) (boot_member : IsBootMember c w cpu) (d : Content)
    (same : SameButWindow w c d) (bare : (sectors first : ℕ) → slot_table sectors first (window_bytes d w) ≡ None) where
  abbrev n : ℕ
  n = length c.flash

  abbrev z : ℕ
  z = slot_size c.otp n

  -- the window of a member without a table
  home-slot : table_in c ≡ None → (w ≡ slot_window z 0) ⊎ (w ≡ slot_window z 1)
  home-slot none =
      let tried : slice_get (units None n z cpu) boot_member.place ≡ Some boot_member.unit =
      sym (ap (λ o. slice_get (units (option_map (λ (f : Found). f.table) o) n z cpu) boot_member.place) none)
      ∙ boot_member.tried in
      let is : tableless_unit n z ≡ boot_member.unit = only
      (tableless_unit n z) boot_member.place boot_member.unit tried in
      slot-member (nat_lt 4096 z) n z boot_member.member w boot_member.other
      (ap (member_window boot_member.member) is ∙ boot_member.stands)
      (ap (member_window (other_of boot_member.member)) is ∙ boot_member.pair)

  no-table : table_in c ≡ None → table_in d ≡ None
  no-table none = go (home-slot none)
    where
      before : (slot_table (n / 4096) (2 * z / 4096) (window_bytes c (slot_window z 0)) ≡ None)
          × (slot_table (n / 4096) (2 * z / 4096) (window_bytes c (slot_window z 1)) ≡ None)
      before = table-none c none

      mine : (k : ℕ) → w ≡ slot_window z k
          → slot_table (n / 4096) (2 * z / 4096) (window_bytes d (slot_window z k)) ≡ None
      mine k is =
          subst (λ v. slot_table (n / 4096) (2 * z / 4096) (window_bytes d v) ≡ None) is
          (bare (n / 4096) (2 * z / 4096))

      theirs : (k : ℕ) → AreApart w (slot_window z k)
          → slot_table (n / 4096) (2 * z / 4096) (window_bytes c (slot_window z k)) ≡ None
          → slot_table (n / 4096) (2 * z / 4096) (window_bytes d (slot_window z k)) ≡ None
      theirs k apart was =
          ap (slot_table (n / 4096) (2 * z / 4096)) (same-bytes c d w same (slot_window z k) apart) ∙ was

      go : (w ≡ slot_window z 0) ⊎ (w ≡ slot_window z 1) → table_in d ≡ None
      go (inl is) =
          none-table d n z (same-length c d w same) (same-slot c d w same) (mine 0 is)
          (theirs 1 (subst (λ v. AreApart v (slot_window z 1)) (sym is) (slots-differ z)) before.1)
      go (inr is) =
          none-table d n z (same-length c d w same) (same-slot c d w same)
          (theirs 0 (subst (λ v. AreApart v (slot_window z 0)) (sym is)
          (apart_sym (slot_window z 0) (slot_window z 1) (slots-differ z))) before.0) (mine 1 is)

  -- the table is the former one
  pub bare-table : table_in d ≡ table_in c
  bare-table = go (table_in c) refl
    where
      go : (o : Option Found) → table_in c ≡ o → table_in d ≡ o
      go None none = no-table none
      go (Some found) is = table-stays c w cpu right boot_member d same found is

module _ (c : Content) (w : Window) (cpu : Cpu) (right : IsContent c) (boot_member : IsBootMember c w cpu) (d : Content)
    (same : SameButWindow w c d) (erased : IsErasedFrom (window_bytes d w) 0 4096) where
  -- while the slot's first sector is erased the table is the former one
  pub blank-table : table_in d ≡ table_in c
  blank-table = bare-table c w cpu right boot_member d same
      (λ sectors first. slot-blank sectors first (window_bytes d w) erased)

  pub blank-image : images_in d cpu w false ≡ None
  blank-image = ap result_ok (erased-none in_flash w cpu false d.otp (window_bytes d w) erased)

no-image : (d : Content) (w : Window) (cpu : Cpu) → HasNoImage d w cpu → images_in d cpu w false ≡ None
no-image d w cpu none = go (images_in d cpu w false) refl
  where
    go : (o : Option Started) → images_in d cpu w false ≡ o → o ≡ None
    go None e = refl
    go (Some s) e = absurd (none s (found-valid d cpu w false s e))

module _ (c : Content) (w : Window) (cpu : Cpu) (right : IsContent c) (boot_member : IsBootMember c w cpu)
    (steps : List Step)
    (d : Content) (confined : Confined steps w) (cut : CutOf c steps d)
    (elsewhere : StartsOutside w (decision_in c cpu Normal)) (done : table_in (after_all c steps) ≡ table_in c) where
  abbrev end : Content
  end = after_all c steps

  abbrev Result' : Type 0
  Result' = (decision_in d cpu Normal ≡ decision_in c cpu Normal) ⊎ StartsFinished end d cpu

  left : SameButWindow w c d
  left = confined-CutOf c w steps d confined cut

  all : SameButWindow w c end
  all = confined-after_all c w steps confined

  -- the whole session's decision is the former one, or a start of the window's image
  finished-decision : (decision_in end cpu Normal ≡ decision_in c cpu Normal) ⊎ StartsThere end w cpu
  finished-decision = next-decision c w cpu right boot_member end all done elsewhere

  finished : d ≡ end → Result'
  finished is = elim finished-decision [
    | inl e ↦ inl (ap (λ x. decision_in x cpu Normal) is ∙ e)
    | inr there ↦ inr (subst (λ x. StartsFinished end x cpu) (sym is) (record {
      choice = there.choice;
      here = there.chosen;
      after = there.chosen;
      same = (same-there end end w cpu refl refl there.choice.image there.valid).same;
    }))
  ]

  blank : ((i : ℕ) → i < 4096 → slice_index d.flash (w.start + i) ≡ 255) → Result'
  blank each =
      inl (empty-decision c w cpu right boot_member d left
      (blank-table c w cpu right boot_member d left erased) elsewhere
      (blank-image c w cpu right boot_member d left erased))
    where
      erased : IsErasedFrom (window_bytes d w) 0 4096
      erased i low lt =
          let some = (placed c w cpu right boot_member).some in
          get_or-window_bytes d w i (omega (arith, some, lt)) ∙ each i lt

  accident_free : HasNoAccidentalImage c end d w cpu → Result'
  accident_free no_accident = go no_accident.image
    where
      go : HasNoImage d w cpu ⊎ ((s : Started) × IsKnownImage c end d w cpu s) → Result'
      go (inl none) = inl (empty-decision c w cpu right boot_member d left no_accident.table elsewhere
          (no-image d w cpu none))
      go (inr (s, known)) = elim known.known [
        | inl former ↦ inl (same-image-decision c w cpu right boot_member d c left
            (SameButWindow-refl w c) no_accident.table refl
            (valid-found d cpu w false s known.valid ∙ sym (valid-found c cpu w false s former.valid)))
        | inr after ↦
            let same : decision_in d cpu Normal ≡ decision_in end cpu Normal =
            same-image-decision c w cpu right boot_member d end left all no_accident.table done
            (valid-found d cpu w false s known.valid ∙ sym (valid-found end cpu w false s after.valid)) in
            elim finished-decision [
              | inl e ↦ inl (same ∙ e)
              | inr there ↦
                  let is = one-image in_flash w cpu false end.otp (window_bytes end w) there.choice.image s there.valid
                  after.valid in
                  inr (record {
                    choice = there.choice;
                    here = (chosen-exactly d cpu Normal (Start there.choice)).1
                        ((chosen-exactly end cpu Normal (Start there.choice)).0 there.chosen ∙ sym same);
                    after = there.chosen;
                    same = subst (λ t. SameImage d end t cpu) (sym is) after.same;
                  })
            ]
      ]

  cut-decision : (Unfinished c steps w d → HasNoAccidentalImage c end d w cpu) → Result'
  cut-decision no_accident = elim (decide-content d c) [
    | inl is ↦ inl (ap (λ x. decision_in x cpu Normal) is)
    | inr moved ↦ elim (decide-content d end) [
      | inl is ↦ finished is
      | inr short ↦ elim (decide-blank d.flash w.start 4096) [
        | inl each ↦ blank each
        | inr touched ↦ accident_free (no_accident (record { moved = moved; short = short; touched = touched }))
      ]
    ]
  ]

-- where power is lost in a gated session
pub gated-decision : (c : Content) (w : Window) (cpu : Cpu) (steps : List Step) (d : Content) (e : Decision)
    → CutSession c w cpu steps d e → Chosen d cpu Normal e ⊎ StartsFinished (after_all c steps) d cpu
gated-decision c w cpu steps d e lost = go lost.gated
  where
    is : e ≡ decision_in c cpu Normal
    is = (chosen-exactly c cpu Normal e).0 lost.former

    go : Gated steps w → Chosen d cpu Normal e ⊎ StartsFinished (after_all c steps) d cpu
    go (inl none) = absurd (subst (λ xs. CutOf c xs d) none lost.cut)
    go (inr (s, others, last, whole)) =
        elim (cut-decision c w cpu lost.right lost.boot_member steps d whole.confined lost.cut
        (subst (StartsOutside w) is lost.elsewhere) lost.table lost.no_accident) [
          | inl same ↦ inl ((chosen-exactly d cpu Normal e).1 (is ∙ sym same))
          | inr finished ↦ inr finished
        ]

pub gated-table : (c : Content) (w : Window) (cpu : Cpu) (steps : List Step) (found : Found) → IsContent c
    → IsBootMember c w cpu → Gated steps w → table_in c ≡ Some found → table_in (after_all c steps) ≡ table_in c
gated-table c w cpu steps found right boot_member (inl none) is = ap (λ xs. table_in (after_all c xs)) none
gated-table c w cpu steps found right boot_member (inr (s, others, last, whole)) is =
    table-stays c w cpu right boot_member (after_all c steps) (confined-after_all c w steps whole.confined) found is
    ∙ sym is

pub never-unfinished : (c : Content) (w : Window) (steps : List Step) (d : Content)
    → ((d ≡ c) ⊎ (d ≡ after_all c steps)) ⊎ ((i : ℕ) → i < 4096 → slice_index d.flash (w.start + i) ≡ 255)
    → Unfinished c steps w d → ⊥
never-unfinished c w steps d (inl (inl is)) left = left.moved is
never-unfinished c w steps d (inl (inr is)) left = left.short is
never-unfinished c w steps d (inr blank) left = left.touched.2 (blank left.touched.0 left.touched.1)
