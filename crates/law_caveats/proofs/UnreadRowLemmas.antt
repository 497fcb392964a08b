-- An OTP with the slot size and the flag that flash boot is off alone: what the rules read of it.
use Rattle.std.proofs.Common.{◌≡◌, ◌⊎◌, ℕ, zero, suc, ◌+◌, ◌*◌, ◌/◌, ◌%◌, ◌<◌, ◌≤◌, ◌==◌, ◌&&◌, not, nat_lt, Bool, true, false, cond, List, [], ◌∷◌, ◌++◌, length, map, slice_get, sum_by, Option, Some, None, Result, Ok, Err, All, option_map, refl, sym, ap, ◌∙◌, subst, inl, inr, arith}
use Rattle.std.specs.Prelude.{count_ones, slice_index}
use Rattle.std.proofs.lemmas.Bool.Decides.{nat_tests}
use Rattle.std.proofs.lemmas.List.Sums.{sum_by-cons}
use Rattle.std.proofs.lemmas.Option.{same_Some}
use Rattle.std.specs.Int.Count.{ones}
use Rattle.std.specs.List.{range_with_len}
use Rattle.std.specs.Option.{option_or}
use Rattle.std.specs.Result.{result_ok}
use Rattle.std.proofs.lemmas.List.Elements.{All-head, All-tail}
use Rattle.pico_board.specs.declared.boot.Cpu.{Cpu}
use Rattle.pico_board.specs.declared.window.Window.{Window}
use Rattle.pico_board.specs.Content.{Content, window_bytes}
use Rattle.block_codec.specs.declared.definition.Def.{Def}
use Rattle.image_def.specs.declared.started.Started.{Started}
use Rattle.image_def.specs.Flags.{is_trial}
use Rattle.image_def.proofs.GuaranteeLemmas.{definition_from_ok}
use Rattle.image_check.specs.declared.examining.Defined.{Defined}
use Rattle.image_check.specs.declared.why.Why.{Why}
use Rattle.image_check.specs.declared.why.Why.TheVariants.{Trial, RollbackRequired, Below}
use Rattle.image_check.specs.Addressing.{in_flash}
use Rattle.image_check.specs.Answers.{and_then, and_unless}
use Rattle.image_check.specs.Image.{defined_in, entered_in, image_at, image_in, started_of}
use Rattle.image_check.specs.Rules.{below_fault, required_fault, rollback_fault, trial_fault}
use Rattle.image_check.proofs.RuleLemmas.{suits-type}
use Rattle.otp_roll.specs.declared.flags.TheConstants.{BOOT_FLAGS, SLOT_SIZE_ROW}
use Rattle.otp_roll.specs.declared.rows.TheConstants.{FIRST_ROW, LAST_ROW}
use Rattle.otp_roll.specs.Flags.{flash_off, rollback_required, slot_size, slot_size_of}
use Rattle.otp_roll.specs.Rows.{AreRollbackRows, count, majority, majority_of}
use Rattle.part_table.specs.declared.table.Table.{Table}
use Rattle.boot_rules.specs.declared.slots.SlotFault.{SlotFault}
use Rattle.boot_rules.specs.declared.tables.Found.{Found}
use Rattle.boot_rules.specs.Choosing.{boot_units_in}
use Rattle.boot_rules.specs.Tables.{found_of, slot_answer, slot_answer_in, slot_window, table_in, table_of_content}
use Rattle.boot_rules.proofs.SlotLemmas.{table-found}
use Rattle.slot_choice.specs.Units.{units}
use Rattle.boot_caveats.specs.ImageRules.{IsRollback, below, required}
use Rattle.boot_caveats.specs.Unread.{unread_content, unread_row, unread_rows}
use Rattle.boot_caveats.proofs.MemberLemmas.{defined-from}
use Rattle.boot_caveats.proofs.UnreadLemmas.{rolled-decides}

-- ---- single rows

listed : (f : ℕ → ℕ) (a n i : ℕ) → i < n → slice_index (map f (range_with_len a n)) i ≡ f (a + i)
listed f a zero i lt = absurd (omega (arith, lt))
listed f a (suc n) zero lt = ap f (let e : a ≡ a + 0 = omega arith in e)
listed f a (suc n) (suc i) lt =
    listed f (a + 1) n i (omega (arith, lt)) ∙ ap f (let e : a + 1 + i ≡ a + suc i = omega arith in e)

beyond : (f : ℕ → ℕ) (a n i : ℕ) → n ≤ i → slice_index (map f (range_with_len a n)) i ≡ 0
beyond f a zero i le = refl
beyond f a (suc n) zero le = absurd (omega (arith, le))
beyond f a (suc n) (suc i) le = beyond f (a + 1) n i (omega (arith, le))

past : (xs : List ℕ) (i : ℕ) → length xs ≤ i → slice_index xs i ≡ 0
past [] i le = refl
past (x ∷ xs) zero le = absurd (omega (arith, le))
past (x ∷ xs) (suc i) le = past xs i (omega (arith, le))

none-of : (otp : List ℕ) (row : ℕ) → slice_index otp row ≡ 0 → unread_row otp row ≡ 0
none-of otp row e = go (row == SLOT_SIZE_ROW) (row == BOOT_FLAGS)
  where
    go : (a b : Bool) → cond a (slice_index otp row) (cond b (2 * (slice_index otp row / 2 % 2)) 0) ≡ 0
    go true b = e
    go false true = ap (λ v. 2 * (v / 2 % 2)) e
    go false false = refl

row-of : (otp : List ℕ) (row : ℕ) → slice_index (unread_rows otp) row ≡ unread_row otp row
unfolding unread_rows
row-of otp row = go (nat_lt row (length otp)) refl
  where
    below-test : (m n : ℕ) → nat_lt m n ≡ true → m < n
    below-test m n h = grind (arith, nat_tests)

    above-test : (m n : ℕ) → nat_lt m n ≡ false → n ≤ m
    above-test m n h = grind (arith, nat_tests)

    go : (b : Bool) → nat_lt row (length otp) ≡ b
        → slice_index (map (unread_row otp) (range_with_len 0 (length otp))) row ≡ unread_row otp row
    go true lt =
        listed (unread_row otp) 0 (length otp) row (below-test row (length otp) lt)
        ∙ ap (unread_row otp) (let e : 0 + row ≡ row = omega arith in e)
    go false le =
        beyond (unread_row otp) 0 (length otp) row (above-test row (length otp) le)
        ∙ sym (none-of otp row (past otp row (above-test row (length otp) le)))

-- ---- what is read of them

half : (x : ℕ) → 2 * (x / 2 % 2) / 2 % 2 ≡ x / 2 % 2
half x = omega arith

pub same-off : (otp : List ℕ) → flash_off (unread_rows otp) ≡ flash_off otp
same-off otp = ap (λ v. v / 2 % 2 == 1) (row-of otp BOOT_FLAGS) ∙ ap (λ v. v == 1) (half (slice_index otp BOOT_FLAGS))

never-required : (otp : List ℕ) → rollback_required (unread_rows otp) ≡ false
never-required otp = ap (λ v. v % 2 == 1) (row-of otp BOOT_FLAGS) ∙ even (slice_index otp BOOT_FLAGS / 2 % 2)
  where
    even : (y : ℕ) → (2 * y % 2 == 1) ≡ false
    even y = ap (λ v. v == 1) (let e : 2 * y % 2 ≡ 0 = omega arith in e)

same-size : (otp : List ℕ) (n : ℕ) → slot_size (unread_rows otp) n ≡ slot_size otp n
same-size otp n = ap (λ v. slot_size_of (v % 16) n) (row-of otp SLOT_SIZE_ROW)

clear-row : (otp : List ℕ) (row : ℕ) → 0x60 ≤ row → slice_index (unread_rows otp) row ≡ 0
clear-row otp row high =
    row-of otp row
    ∙ (ap (λ b. cond b (slice_index otp row) (cond (row == BOOT_FLAGS) (2 * (slice_index otp row / 2 % 2)) 0))
    (other row SLOT_SIZE_ROW (omega (arith, high)))
    ∙ ap (λ b. cond b (2 * (slice_index otp row / 2 % 2)) 0) (other row BOOT_FLAGS (omega (arith, high))))
  where
    other : (m n : ℕ) → n < m → (m == n) ≡ false
    other m n lt = grind (arith, nat_tests)

no-ones : count_ones 0 ≡ 0
unfolding ones
no-ones = refl

no-count : (otp rows : List ℕ) → All (λ r. (FIRST_ROW ≤ r) × (r ≤ LAST_ROW)) rows → count (unread_rows otp) rows ≡ 0
no-count otp [] all = refl
no-count otp (r ∷ rows) all =
    let first = (All-head (λ r. (FIRST_ROW ≤ r) × (r ≤ LAST_ROW)) r rows all).0 in
    sum_by-cons (λ r. count_ones (majority (unread_rows otp) r)) r rows
    ∙ (ap (λ n. n + sum_by (λ r. count_ones (majority (unread_rows otp) r)) rows) (one r first)
    ∙ (no-first (count (unread_rows otp) rows)
    ∙ no-count otp rows (All-tail (λ r. (FIRST_ROW ≤ r) × (r ≤ LAST_ROW)) r rows all)))
  where
    no-first : (n : ℕ) → 0 + n ≡ n
    no-first n = omega arith

    one : (r : ℕ) → FIRST_ROW ≤ r → count_ones (majority (unread_rows otp) r) ≡ 0
    one r le =
        ap (λ a. count_ones (majority_of a (slice_index (unread_rows otp) (r + 1))
        (slice_index (unread_rows otp) (r + 2)))) (clear-row otp r (omega (arith, le)))
        ∙ (ap (λ b. count_ones (majority_of 0 b (slice_index (unread_rows otp) (r + 2))))
        (clear-row otp (r + 1) (omega (arith, le)))
        ∙ (ap (λ d. count_ones (majority_of 0 0 d)) (clear-row otp (r + 2) (omega (arith, le))) ∙ no-ones))

no-rollback : (otp : List ℕ) (def : Def) → AreRollbackRows def.rows.items
    → rollback_fault (unread_rows otp) def ≡ None
no-rollback otp def rows =
    ap (λ b. option_or (required_fault b def.rows.items)
    (below_fault def.rollback (count (unread_rows otp) def.rows.items))) (never-required otp)
    ∙ (ap (below_fault def.rollback) (no-count otp def.rows.items rows.in_range) ∙ none def.rollback)
  where
    none : (o : Option ℕ) → below_fault o 0 ≡ None
    none None = refl
    none (Some version) = ap (λ b. cond b (Some (Below version 0)) None) (never version)
      where
        never : (v : ℕ) → nat_lt v 0 ≡ false
        never v = grind (arith, nat_tests)

-- the units of a boot are the same
same-answer : (c : Content) (number : ℕ) → slot_answer_in (unread_content c) number ≡ slot_answer_in c number
same-answer c number =
    ap (λ size. slot_answer (length c.flash / 4096) (2 * size / 4096) (window_bytes c (slot_window size number)))
    (same-size c.otp (length c.flash))

same-table : (c : Content) → table_in (unread_content c) ≡ table_in c
same-table c =
    table-found (unread_content c)
    ∙ (ap (λ (r : Result Table SlotFault).
    found_of (result_ok r) (result_ok (slot_answer_in (unread_content c) 1))) (same-answer c 0)
    ∙ (ap (λ (r : Result Table SlotFault). found_of (result_ok (slot_answer_in c 0)) (result_ok r)) (same-answer c 1)
    ∙ sym (table-found c)))

pub same-units : (c : Content) (cpu : Cpu) → boot_units_in (unread_content c) cpu ≡ boot_units_in c cpu
same-units c cpu =
    ap (λ (o : Option Found). units (option_map (λ (found : Found). found.table) o) (length c.flash)
    (slot_size (unread_rows c.otp) (length c.flash)) cpu) (same-table c)
    ∙ ap (λ size. units (table_of_content c) (length c.flash) size cpu) (same-size c.otp (length c.flash))

-- ---- images

at-split : {X : Type 0} (before behind : List X) (x : X) → slice_get (before ++ x ∷ behind) (length before) ≡ Some x
at-split [] behind x = refl
at-split (y ∷ before) behind x = at-split before behind x

-- a definition lists rollback rows
defined-rows : (cpu : Cpu) (bytes : List ℕ) (image : Defined) → defined_in cpu bytes ≡ Ok image
    → AreRollbackRows image.def.rows.items
defined-rows cpu bytes image e =
    let d = defined-from cpu bytes image e in
    let last = d.1.defines in
    let at : slice_get d.0 (length last.before) ≡ Some image.block =
    ap (λ xs. slice_get xs (length last.before)) last.whole ∙ at-split last.before last.behind image.block in
    let stands = d.1.closes.chain.stand (length last.before) image.block at in
    (definition_from_ok image.block image.def stands.stands.whole (suits-type cpu image.block last.here)
    d.1.items).rows

-- what the rule on rollback rows answers
rolled-why : (required_is : Bool) (rows : List ℕ) (version : Option ℕ) (n : ℕ) (why : Why)
    → option_or (required_fault required_is rows) (below_fault version n) ≡ Some why → IsRollback why
rolled-why true [] version n why e = subst IsRollback (same_Some RollbackRequired why e) required
rolled-why true (r ∷ rows) version n why e = by version e
  where
    by : (o : Option ℕ) → below_fault o n ≡ Some why → IsRollback why
    by None h = cc
    by (Some v) h = test (nat_lt v n) h
      where
        test : (b : Bool) → cond b (Some (Below v n)) None ≡ Some why → IsRollback why
        test true g = subst IsRollback (same_Some (Below v n) why g) (below v n)
        test false g = cc
rolled-why false rows version n why e = by version e
  where
    by : (o : Option ℕ) → below_fault o n ≡ Some why → IsRollback why
    by None h = cc
    by (Some v) h = test (nat_lt v n) h
      where
        test : (b : Bool) → cond b (Some (Below v n)) None ≡ Some why → IsRollback why
        test true g = subst IsRollback (same_Some (Below v n) why g) (below v n)
        test false g = cc

module _ (c : Content) (w : Window) (cpu : Cpu) (trial : Bool) where
  abbrev entered : Defined → Result Started Why
  entered image =
      and_then (entered_in in_flash cpu (window_bytes c w) image) (λ entry. Ok (started_of w image entry))

  abbrev judged : Option Why → Defined → Result Started Why
  judged fault image = and_unless (trial_fault trial image.def) (and_unless fault (entered image))

  abbrev judged_by : List ℕ → Defined → Result Started Why
  judged_by otp image = judged (rollback_fault otp image.def) image

  -- an image is the same, or it fails the rule that is not applied
  pub unread-image : (image_at (unread_content c) w cpu trial ≡ image_at c w cpu trial)
      ⊎ ((why : Why) × IsRollback why × (image_at c w cpu trial ≡ Err why))
  unfolding image_in
  unread-image = go (defined_in cpu (window_bytes c w)) refl
    where
      by : (image : Defined) → rollback_fault (unread_rows c.otp) image.def ≡ None → (t : Option Why)
          → trial_fault trial image.def ≡ t → (f : Option Why) → rollback_fault c.otp image.def ≡ f
          → (and_unless t (and_unless (rollback_fault (unread_rows c.otp) image.def) (entered image))
          ≡ and_unless t (and_unless f (entered image)))
          ⊎ ((why : Why) × IsRollback why × (and_unless t (and_unless f (entered image)) ≡ Err why))
      by image none (Some why) trials f fails = inl refl
      by image none None trials None fails =
          inl (ap (λ (o : Option Why). and_unless o (entered image)) none)
      by image none None trials (Some why) fails =
          inr (why, rolled-why _ image.def.rows.items image.def.rollback _ why fails, refl)

      go : (r : Result Defined Why) → defined_in cpu (window_bytes c w) ≡ r
          → (and_then r (judged_by (unread_rows c.otp)) ≡ and_then r (judged_by c.otp))
          ⊎ ((why : Why) × IsRollback why × (and_then r (judged_by c.otp) ≡ Err why))
      go (Err why) is = inl refl
      go (Ok image) is =
          by image (no-rollback c.otp image.def (defined-rows cpu (window_bytes c w) image is))
          (trial_fault trial image.def) refl (rollback_fault c.otp image.def) refl

-- a window whose image fails the rule has none, whether a trial image is allowed or not
module _ (c : Content) (w : Window) (cpu : Cpu) where
  trial-alone : (allowed : Bool) (def : Def) (why : Why) → trial_fault allowed def ≡ Some why → IsRollback why → ⊥
  trial-alone allowed def why e rolled = go (is_trial def.flags && not allowed) e
    where
      apart : false ≡ true → ⊥
      apart e = cc

      no-trial : IsRollback Trial → ⊥
      no-trial is = apart ((rolled-decides Trial).1 is)

      go : (b : Bool) → cond b (Some Trial) None ≡ Some why → ⊥
      go true h = no-trial (subst IsRollback (sym (same_Some Trial why h)) rolled)
      go false h = cc

  pub unrolled : (t u : Bool) (s : Started) (why : Why) → image_at c w cpu t ≡ Ok s → image_at c w cpu u ≡ Err why
      → IsRollback why → ⊥
  unfolding image_in
  unrolled t u s why ok err rolled = go (defined_in cpu (window_bytes c w)) ok err
    where
      starts : Defined → Result Started Why
      starts image =
          and_then (entered_in in_flash cpu (window_bytes c w) image) (λ entry. Ok (started_of w image entry))

      by : (image : Defined) (x f y : Option Why) → trial_fault u image.def ≡ y
          → and_unless x (and_unless f (starts image)) ≡ Ok s → and_unless y (and_unless f (starts image)) ≡ Err why → ⊥
      by image (Some z) f y is one two = cc
      by image None (Some z) y is one two = cc
      by image None None (Some z) is one two =
          trial-alone u image.def why (is ∙ ap Some (same-err z why two)) rolled
        where
          same-err : (a b : Why) → (let r : Result Started Why = Err a in r ≡ Err b) → a ≡ b
          same-err a b e = cc
      by image None None None is one two = apart s why (sym one ∙ two)
        where
          apart : (s : Started) (y : Why) → (let r : Result Started Why = Ok s in r ≡ Err y) → ⊥
          apart s y e = cc

      go : (r : Result Defined Why)
          → and_then r (λ image. and_unless (trial_fault t image.def)
          (and_unless (rollback_fault c.otp image.def) (starts image))) ≡ Ok s
          → and_then r (λ image. and_unless (trial_fault u image.def)
          (and_unless (rollback_fault c.otp image.def) (starts image))) ≡ Err why → ⊥
      go (Err y) one two = cc
      go (Ok image) one two =
          by image (trial_fault t image.def) (rollback_fault c.otp image.def) (trial_fault u image.def) refl one two
