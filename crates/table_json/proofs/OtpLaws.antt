-- The OTP of a text is sound.
use Rattle.std.proofs.Common.{◌≡◌, ◌≢◌, ℕ, zero, suc, ◌+◌, ◌*◌, ◌^◌, ◌<◌, ◌≤◌, ◌==◌, ◌&&◌, not, Bool, true, false, cond, nat_le, List, [], ◌∷◌, ◌++◌, length, All, Option, Some, None, Result, Ok, Err, IfOk, option_and_then, refl, sym, ap, subst, ◌∙◌, arith, length-append, inl, inr}
use Rattle.std.specs.Prelude.{◌⊎◌}
use Rattle.std.specs.List.{find, range_with_len}
use Rattle.std.proofs.Math.Pow.{pow-lt}
use Rattle.std.proofs.lemmas.Bool.{cases_lt, eqb-true, leb-true, lt-ltb, ne_eqb}
use Rattle.std.proofs.lemmas.Bool.Decides.{nat_tests}
use Rattle.std.proofs.lemmas.List.Elements.{All-append, All-cons}
use Rattle.serde_json.specs.Data.{Data}
use Rattle.serde_json.specs.Find.{as_bool}
use Rattle.table_json.specs.declared.otps.OtpRow.{OtpRow}
use Rattle.table_json.specs.declared.otps.OtpSpec.{OtpSpec}
use Rattle.table_json.specs.declared.fault.JsonFault.{JsonFault}
use Rattle.table_json.specs.Texts.{IsJsonText}
use Rattle.table_json.specs.declared.otps.TheConstants.{SLOT_EXPONENTS}
use Rattle.table_json.specs.declared.fault.Place.TheVariants.{Top}
use Rattle.table_json.specs.declared.fault.Field.TheVariants.{Rows, RollbackRequired, FlashOff, SlotSize, SecureBoot}
use Rattle.table_json.specs.declared.members.Shape.TheVariants.{OfOtp}
use Rattle.table_json.specs.Members.{object_judged, optional}
use Rattle.table_json.specs.Forms.{if_below, number_in, number_or_text, values_in}
use Rattle.table_json.specs.Otps.{OtpView, exponent_of, if_listed, is_size_of, listed_pairs, otp_from, otp_spec_from, otp_with, pair_form, pair_in, pairs_after, pairs_form, row_with, size_form}
use Rattle.table_json.specs.OtpRules.{IsListedRow, IsSound}
use Rattle.table_json.proofs.SaysLemmas.{if_below_less, ok_back, optional_has, then_ok}

-- what is found among the numbers from a on passes the test, and lies among them
found-among : (p : ℕ → Bool) (a n k : ℕ) → find p (range_with_len a n) ≡ Some k → (k < a + n) × (p k ≡ true)
found-among p a zero k is = cc
found-among p a (suc n) k is = by_test (λ later. found-among p (a + 1) n k later) (p a) refl is
  where
    by_test : (find p (range_with_len (a + 1) n) ≡ Some k → (k < a + 1 + n) × (p k ≡ true)) → (t : Bool)
        → p a ≡ t → cond t (Some a) (find p (range_with_len (a + 1) n)) ≡ Some k → (k < a + suc n) × (p k ≡ true)
    by_test rest true here is = let same : a ≡ k = cc in (omega (arith, same), subst (λ j. p j ≡ true) same here)
    by_test rest false past is = let later = rest is in (omega (arith, later.0), later.1)

-- the first number that passes the test is found
first-found : (p : ℕ → Bool) (a n k : ℕ) → a ≤ k → k < a + n → ((j : ℕ) → j < k → p j ≡ false) → p k ≡ true
    → find p (range_with_len a n) ≡ Some k
first-found p a zero k least most before here = absurd (omega (arith, least, most))
first-found p a (suc n) k least most before here =
    by_place (λ below. first-found p (a + 1) n k (omega (arith, below)) (omega (arith, most)) before here)
    (cases_lt a k)
  where
    by_place : (a < k → find p (range_with_len (a + 1) n) ≡ Some k) → (a < k) ⊎ (k ≤ a)
        → cond (p a) (Some a) (find p (range_with_len (a + 1) n)) ≡ Some k
    by_place rest (inl below) =
        ap (λ t. cond t (Some a) (find p (range_with_len (a + 1) n))) (before a below) ∙ rest below
    by_place rest (inr past) =
        let same : k ≡ a = omega (arith, least, past) in
        ap (λ t. cond t (Some a) (find p (range_with_len (a + 1) n))) (subst (λ j. p j ≡ true) same here)
        ∙ ap Some (sym same)

pub exponent-size : (size k : ℕ) → exponent_of size ≡ Some k → (k ≤ 11) × (size ≡ 4096 * 2 ^ k)
unfolding exponent_of
exponent-size size k is =
    let found = found-among (is_size_of size) 0 SLOT_EXPONENTS k is in
    (omega (arith, found.0), eqb-true size (4096 * 2 ^ k) found.1)

pub size-exponent : (size k : ℕ) → (k ≤ 11) × (size ≡ 4096 * 2 ^ k) → exponent_of size ≡ Some k
unfolding exponent_of
size-exponent size k (few, is) =
    first-found (is_size_of size) 0 SLOT_EXPONENTS k (omega arith) (omega (arith, few)) smaller
    (grind (arith, nat_tests, is))
  where
    smaller : (j : ℕ) → j < k → is_size_of size j ≡ false
    smaller j below =
        let less : 2 ^ j < 2 ^ k = pow-lt below in
        ne_eqb size (4096 * 2 ^ j) (λ same. omega (arith, same, is, less))

pub listed-row : (row r : ℕ) → if_listed row ≡ Some r
    → (row < 4096) × (row ≢ 0x048) × (row ≢ 0x055) × (row ≡ r)
listed-row row r is =
    let most : row < 4096 = grind (arith, is) in
    let same : row ≡ r = grind (arith, is) in
    (most, other 0x048 refl, other 0x055 refl, same)
  where
    other : (n : ℕ) → if_listed n ≡ None → row ≢ n
    other n none here = let both : None ≡ Some r = sym none ∙ (ap if_listed (sym here) ∙ is) in cc

pub row-listed : (row r : ℕ) → (row < 4096) × (row ≢ 0x048) × (row ≢ 0x055) × (row ≡ r)
    → if_listed row ≡ Some r
row-listed row r (most, flags, size, same) =
    ap (λ t. cond ((t && not (row == 0x048)) && not (row == 0x055)) (Some row) None) (lt-ltb row 4096 most)
    ∙ ap (λ t. cond (not t && not (row == 0x055)) (Some row) None) (ne_eqb row 0x048 flags)
    ∙ ap (λ t. cond (not t) (Some row) None) (ne_eqb row 0x055 size)
    ∙ ap Some same

-- a pair that is read is sound
pair-sound : (d : Data) (pair : OtpRow) → pair_form d ≡ Some pair → IsListedRow pair
pair-sound d pair is = by_list (values_in d) is
  where
    parts : (a b : Option ℕ) → ((r : ℕ) → a ≡ Some r → (r < 4096) × (r ≢ 0x048) × (r ≢ 0x055))
        → ((v : ℕ) → b ≡ Some v → v < 2 ^ 24) → row_with a b ≡ Some pair → IsListedRow pair
    parts (Some r) (Some v) one two is =
        let same : record { row = r; value = v } ≡ pair = cc in
        subst IsListedRow same
        (let row = one r refl in
        record { most = omega (arith, row.0); flags = row.1; size = row.2; narrow = two v refl })
    parts None b one two is = cc
    parts (Some r) None one two is = cc

    row_in : (o : Option ℕ) (r : ℕ) → option_and_then if_listed o ≡ Some r
        → (r < 4096) × (r ≢ 0x048) × (r ≢ 0x055)
    row_in None r is = cc
    row_in (Some n) r is =
        let (most, flags, size, same) = listed-row n r is in
        subst (λ (k : ℕ). (k < 4096) × (k ≢ 0x048) × (k ≢ 0x055)) same (most, flags, size)

    word_in : (o : Option ℕ) (v : ℕ) → option_and_then (if_below (2 ^ 24)) o ≡ Some v → v < 2 ^ 24
    word_in None v is = cc
    word_in (Some n) v is = if_below_less (2 ^ 24) n v is

    in_list : (ds : List Data) → pair_in ds ≡ Some pair → IsListedRow pair
    in_list [] is = cc
    in_list (a ∷ []) is = cc
    in_list (a ∷ b ∷ []) is =
        parts (option_and_then if_listed (number_or_text a))
        (option_and_then (if_below (2 ^ 24)) (number_or_text b)) (row_in (number_or_text a))
        (word_in (number_or_text b)) is
    in_list (a ∷ b ∷ e ∷ ds) is = cc

    by_list : (o : Option (List Data)) → option_and_then pair_in o ≡ Some pair → IsListedRow pair
    by_list None is = cc
    by_list (Some ds) is = in_list ds is

-- at most so many pairs, each sound
record AreSoundPairs (n : ℕ) (rows : List OtpRow) : Type 0 where
  few : length rows ≤ n
  listed : All IsListedRow rows

none-sound : All IsListedRow []
none-sound k d within = absurd (omega (arith, within))

pairs-sound : (done : List OtpRow) (ds : List Data) (rows : List OtpRow) → All IsListedRow done
    → pairs_after done ds ≡ Some rows → AreSoundPairs (length done + length ds) rows
pairs-sound done [] rows all is =
    let same : done ≡ rows = cc in
    subst (λ (rs : List OtpRow). AreSoundPairs (length done + 0) rs) same
    (record { few = omega arith; listed = all })
pairs-sound done (d ∷ ds) rows all is =
    by_pair (λ pair whole later. pairs-sound (done ++ pair ∷ []) ds rows whole later) (pair_form d) refl is
  where
    by_pair : ((pair : OtpRow) → All IsListedRow (done ++ pair ∷ []) → pairs_after (done ++ pair ∷ []) ds ≡ Some rows
        → AreSoundPairs (length (done ++ pair ∷ []) + length ds) rows)
        → (o : Option OtpRow) → pair_form d ≡ o
        → option_and_then (λ pair. pairs_after (done ++ pair ∷ []) ds) o ≡ Some rows
        → AreSoundPairs (length done + length (d ∷ ds)) rows
    by_pair rest None none is = cc
    by_pair rest (Some pair) some is =
        let long = length-append done (pair ∷ []) in
        let sound = pair-sound d pair some in
        let more = rest pair (All-append IsListedRow done (pair ∷ []) all
        (All-cons IsListedRow pair [] sound none-sound)) is in
        record { few = omega (arith, more.few, long); listed = more.listed }

pairs-few : (d : Data) (rows : List OtpRow) → pairs_form d ≡ Some rows → AreSoundPairs 4096 rows
pairs-few d rows is = by_list (values_in d) is
  where
    by_size : (ds : List Data) (t : Bool) → nat_le (length ds) 4096 ≡ t
        → cond t (pairs_after [] ds) None ≡ Some rows → AreSoundPairs 4096 rows
    by_size ds true few is =
        let sound = pairs-sound [] ds rows none-sound is in
        let small = leb-true (length ds) 4096 few in
        record { few = omega (arith, sound.few, small); listed = sound.listed }
    by_size ds false many is = cc

    by_list : (o : Option (List Data)) → option_and_then listed_pairs o ≡ Some rows → AreSoundPairs 4096 rows
    by_list None is = cc
    by_list (Some ds) is = by_size ds (nat_le (length ds) 4096) refl is

size-few : (d : Data) (k : ℕ) → size_form d ≡ Some k → k ≤ 11
size-few d k is = by_number (number_in d) is
  where
    by_number : (o : Option ℕ) → option_and_then exponent_of o ≡ Some k → k ≤ 11
    by_number None is = cc
    by_number (Some size) is = (exponent-size size k is).0

pub otp-sound : (d : Data) (spec : OtpView) → otp_from d ≡ Ok spec → IsSound spec
otp-sound d spec is =
    let judged = then_ok (object_judged OfOtp Top RollbackRequired d) _ spec is in
    let required = then_ok (optional as_bool false Top RollbackRequired d) _ spec judged.2 in
    let off = then_ok (optional as_bool false Top FlashOff d) _ spec required.2 in
    let exponent = then_ok (optional size_form 0 Top SlotSize d) _ spec off.2 in
    let rows = then_ok (optional pairs_form [] Top Rows d) _ spec exponent.2 in
    let secure = then_ok (optional as_bool false Top SecureBoot d) _ spec rows.2 in
    let made : otp_with required.0 off.0 exponent.0 rows.0 secure.0 ≡ spec = ok_back _ _ secure.2 in
    let none : AreSoundPairs 4096 [] =
    record { few = omega arith; listed = none-sound } in
    let pairs = optional_has pairs_form (AreSoundPairs 4096) pairs-few Top Rows d [] none rows.0 rows.1 in
    subst IsSound made (record {
      size = optional_has size_form (λ k. k ≤ 11) size-few Top SlotSize d 0 (omega arith) exponent.0 exponent.1;
      few = pairs.few;
      listed = pairs.listed;
    })

-- what is read of a text is sound
pub read-sound : (text : List ℕ) (r : Result OtpSpec JsonFault)
    → IfOk r (λ spec. (d : Data) × IsJsonText text d × (otp_from d ≡ Ok (otp_spec_from spec)))
    → IfOk r (λ spec. IsSound (otp_spec_from spec))
read-sound text (Ok spec) read = otp-sound read.0 (otp_spec_from spec) read.2
read-sound text (Err fault) read = tt
