-- What rollback rows count after their raises.
use Rattle.std.proofs.Common.{◌≡◌, ℕ, zero, suc, drop, ◌+◌, ◌-◌, ◌*◌, ◌^◌, ◌<◌, ◌≤◌, List, [], ◌∷◌, ◌++◌, length, append_assoc, arith, refl, sym, ap, subst, ◌∙◌, inl, inr, add-one, lit<}
use Rattle.std.specs.Prelude.{◌⊎◌, min, max, bit_or, slice_index, AllPairs, All}
use Rattle.std.specs.List.{AllByRecursion}
use Rattle.std.specs.Int.Count.{ones, ones-le}
use Rattle.std.proofs.lemmas.List.Elements.{recursion_from_All}
use Rattle.std.proofs.lemmas.List.Sums.{sum_by-cons, sum_by-append}
use Rattle.std.proofs.lemmas.List.{get_or_past}
use Rattle.std.proofs.lemmas.Bool.{cases_lt}
use Rattle.pico_board.specs.Content.{Content, IsContent}
use Rattle.pico_board.specs.Steps.{after_all}
use Rattle.pico_board.proofs.StepLemmas.{after_all-append}
use Rattle.otp_roll.specs.Rows.{majority, count, AreRowsApart, IsOutside, AreRollbackRows, IsRollbackVersion}
use Rattle.otp_roll.specs.declared.rows.TheConstants.{FIRST_ROW, LAST_ROW}
use Rattle.otp_roll.specs.Raises.{raises, raise_triple, raise_row, raise_each, taken_bits, lowest_clear, clear_count}
use Rattle.otp_roll.proofs.BitLemmas.{majority-or, majority-lt, lowest_clear-lt, ones-lowest_clear}
use Rattle.otp_roll.proofs.RaisedLemmas.{SameTriple, majority-same, LiftsTriple, after-raise_triple}

-- the rows whose triples the raises change are apart from row r
abbrev pub ApartFrom : ℕ → List ℕ → Type 0
ApartFrom r rows = AllByRecursion (AreRowsApart r) rows

-- each row is apart from all later ones
abbrev pub ApartInTurn : List ℕ → Type 0
ApartInTurn [] = Unit {0}
ApartInTurn (r ∷ rows) = ApartFrom r rows × ApartInTurn rows

pub apart-in_turn : (rows : List ℕ) → AllPairs AreRowsApart rows → ApartInTurn rows
apart-in_turn [] apart = tt
apart-in_turn (r ∷ rows) apart = (
  recursion_from_All (AreRowsApart r) rows (λ k d within. apart 0 (suc k) d (omega arith) (omega arith)),
  apart-in_turn rows (λ i j d before within. apart (suc i) (suc j) d (omega arith) (omega arith)),
)

pub apart-drop : (i : ℕ) (rows : List ℕ) → ApartInTurn rows → ApartInTurn (drop i rows)
apart-drop zero rows apart = apart
apart-drop (suc i) [] apart = tt
apart-drop (suc i) (r ∷ rows) apart = apart-drop i rows apart.1

-- row i is in none of the triples of the listed rows
abbrev pub IsOutsideAll : ℕ → List ℕ → Type 0
IsOutsideAll i rows = AllByRecursion (IsOutside i) rows

-- the triple of a row that is apart from the listed ones is outside theirs
outside-apart : (r k : ℕ) → k < 3 → (rows : List ℕ) → ApartFrom r rows → IsOutsideAll (r + k) rows
outside-apart r k small [] apart = tt
outside-apart r k small (s ∷ rows) apart = (by_side apart.0, outside-apart r k small rows apart.1)
  where
    by_side : AreRowsApart r s → IsOutside (r + k) s
    by_side (inl below) = inl (omega arith)
    by_side (inr above) = inr (omega arith)

same-from_outside : (old new : List ℕ) (r : ℕ) → ((k : ℕ) → k < 3 → slice_index new (r + k) ≡ slice_index old (r + k))
    → SameTriple old new r
same-from_outside old new r same = record {
  first = subst (λ i. slice_index new i ≡ slice_index old i) (let e : r + 0 ≡ r = omega arith in e)
      (same 0 (omega arith));
  second = same 1 (omega arith);
  third = same 2 (omega arith);
}

same-trans : {a b c : List ℕ} {r : ℕ} → SameTriple a b r → SameTriple b c r → SameTriple a c r
same-trans one two = record {
  first = two.first ∙ one.first;
  second = two.second ∙ one.second;
  third =
      two.third ∙ one.third;
}

-- the triples of the rows after r are as before it was raised
pub same-after : (b r : ℕ) (otp old new : List ℕ) → LiftsTriple b r old new → (rows : List ℕ) → ApartFrom r rows
    → AllByRecursion (SameTriple otp old) rows → AllByRecursion (SameTriple otp new) rows
same-after b r otp old new lifts [] apart same = tt
same-after b r otp old new lifts (s ∷ rows) apart same = (
  same-trans same.0 (same-from_outside old new s (λ k small. lifts.others (s + k) (by_side k small apart.0))),
  same-after b r otp old new lifts rows apart.1 same.1,
)
  where
    by_side : (k : ℕ) → k < 3 → AreRowsApart r s → IsOutside (s + k) r
    by_side k small (inl below) = inr (omega arith)
    by_side k small (inr above) = inl (omega arith)

inside-after : (old new : List ℕ) → length new ≡ length old → (rows : List ℕ)
    → AllByRecursion (λ r. r + 2 < length old) rows → AllByRecursion (λ r. r + 2 < length new) rows
inside-after old new long [] inside = tt
inside-after old new long (r ∷ rows) inside = (omega (arith, inside.0), inside-after old new long rows inside.1)

-- a number of rows counts at most 24 each
pub count-le : (otp : List ℕ) → ((i : ℕ) → slice_index otp i < 2 ^ 24) → (rows : List ℕ)
    → count otp rows ≤ 24 * length rows
count-le otp small [] = omega arith
count-le otp small (r ∷ rows) =
    let few = ones-le 24 (majority otp r) (majority-lt _ _ _ (small r) (small (r + 1))) in
    omega (arith, sum_by-cons (λ s. ones (majority otp s)) r rows, few, count-le otp small rows)

-- what the raises of the rows leave
pub record Counts (otp : List ℕ) (wanted : ℕ) (rows : List ℕ) (old new : List ℕ) : Type 0 where
  pub long : length new ≡ length old
  pub counted : count new rows ≡ count otp rows + min wanted (24 * length rows - count otp rows)
  pub others : (i : ℕ) → IsOutsideAll i rows → slice_index new i ≡ slice_index old i

majority-lifted : (b r : ℕ) (old new : List ℕ) → LiftsTriple b r old new → majority new r ≡ bit_or (majority old r) b
majority-lifted b r old new lifts =
    rw (lifts.first, lifts.second, lifts.third)
    (majority-or (slice_index old r) (slice_index old (r + 1)) (slice_index old (r + 2)) b)

-- one listed row is raised, and then the later ones
counts-step : (r : ℕ) (rows otp old one new : List ℕ) (wanted taken_bits : ℕ)
    → taken_bits ≡ min (clear_count otp r) wanted
    → ((i : ℕ) → slice_index otp i < 2 ^ 24) → ApartFrom r rows → SameTriple otp old r
    → LiftsTriple (lowest_clear taken_bits (majority otp r)) r old one → Counts otp (wanted - taken_bits) rows one new
    → Counts otp wanted (r ∷ rows) old new
counts-step r rows otp old one new wanted taken_bits is small apart same lifts rest = record {
  long = rest.long ∙ lifts.long;
  counted = let now = sum_by-cons (λ s. ones (majority new s)) r rows in
      let before = sum_by-cons (λ s. ones (majority otp s)) r rows in
      let narrow : majority otp r < 2 ^ 24 =
      majority-lt (slice_index otp r) (slice_index otp (r + 1)) (slice_index otp (r + 2)) (small r)
      (small (r + 1)) in
      let few = ones-le 24 (majority otp r) narrow in
      let lifted : majority new r ≡ bit_or (majority otp r) (lowest_clear taken_bits (majority otp r)) =
      majority-same (same-from_outside one new r
      (λ k low. rest.others (r + k) (outside-apart r k low rows apart)))
      ∙ majority-lifted (lowest_clear taken_bits (majority otp r)) r old one lifts
      ∙ ap (λ m. bit_or m (lowest_clear taken_bits (majority otp r))) (majority-same same) in
      let counts : ones (majority new r) ≡ ones (majority otp r) + min taken_bits (24 - ones (majority otp r)) =
      ap (λ m. ones m) lifted ∙ ones-lowest_clear taken_bits (majority otp r) narrow in
      omega (arith, now, before, few, counts, is, rest.counted, count-le otp small rows, add-one (length rows));
  others = λ i outside. rest.others i outside.1 ∙ lifts.others i outside.0;
}

pub counts-each : (rows : List ℕ) (c : Content) (otp : List ℕ) (wanted : ℕ) → ApartInTurn rows
    → AllByRecursion (λ r. r + 2 < length c.otp) rows → ((i : ℕ) → slice_index otp i < 2 ^ 24)
    → AllByRecursion (SameTriple otp c.otp) rows
    → Counts otp wanted rows c.otp (after_all c (raise_each otp wanted rows)).otp
counts-each [] c otp wanted apart inside small same =
    record { long = refl; counted = omega arith; others = λ i outside. refl }
counts-each (r ∷ rows) c otp wanted apart inside small same =
    let taken_bits : ℕ = min (clear_count otp r) wanted in
    let bits : ℕ = lowest_clear (min (clear_count otp r) wanted) (majority otp r) in
    let one : Content = after_all c (raise_triple otp bits r) in
    let lifts = after-raise_triple c otp bits r
    (lowest_clear-lt (min (clear_count otp r) wanted) (majority otp r)) inside.0 same.0 in
    let rest = counts-each rows one otp (wanted - taken_bits) apart.1
    (inside-after c.otp one.otp lifts.long rows inside.1) small
    (same-after bits r otp c.otp one.otp lifts rows apart.0 same.1) in
    let parts = after_all-append c (raise_triple otp bits r) (raise_each otp (wanted - taken_bits) rows) in
    subst (λ (d : Content). Counts otp wanted (r ∷ rows) c.otp d.otp) (sym parts)
    (counts-step r rows otp c.otp one.otp _ wanted taken_bits refl small apart.0 same.0 lifts rest)

-- every row has 24 bits, and past the end there is 0
pub rows-small : (otp : List ℕ) → All (λ v. v < 2 ^ 24) otp → (i : ℕ) → slice_index otp i < 2 ^ 24
rows-small otp narrow i = by_place (cases_lt i (length otp))
  where
    by_place : (i < length otp) ⊎ (length otp ≤ i) → slice_index otp i < 2 ^ 24
    by_place (inl within) = narrow i 0 within
    by_place (inr past) = rw (get_or_past otp i 0 past) (lit< tt)

inside-range : (rows : List ℕ) → (n : ℕ) → n ≡ 4096 → AllByRecursion (λ r. (FIRST_ROW ≤ r) × (r ≤ LAST_ROW)) rows
    → AllByRecursion (λ r. r + 2 < n) rows
inside-range [] n is range = tt
inside-range (r ∷ rows) n is range = (omega (arith, range.0.1), inside-range rows n is range.1)

pub same-refl : (otp : List ℕ) (rows : List ℕ) → AllByRecursion (SameTriple otp otp) rows
same-refl otp [] = tt
same-refl otp (r ∷ rows) = (record { first = refl; second = refl; third = refl }, same-refl otp rows)

-- what the raises to a version leave
pub counts-raises : (c : Content) (rows : List ℕ) (version : ℕ) → IsContent c → AreRollbackRows rows
    → Counts c.otp (version - count c.otp rows) rows c.otp (after_all c (raises c.otp rows version)).otp
counts-raises c rows version is_content listed =
    counts-each rows c c.otp (version - count c.otp rows) (apart-in_turn rows listed.apart)
    (inside-range rows (length c.otp) is_content.otp_length (recursion_from_All _ rows listed.in_range))
    (rows-small c.otp is_content.otp_rows) (same-refl c.otp rows)

-- the count is then the greater of the version and the former count
pub count-raises : (c : Content) (rows : List ℕ) (version : ℕ) → IsContent c → AreRollbackRows rows
    → IsRollbackVersion version rows
    → count (after_all c (raises c.otp rows version)).otp rows ≡ max version (count c.otp rows)
count-raises c rows version is_content listed is_version =
    let left = counts-raises c rows version is_content listed in
    omega (arith, left.counted, count-le c.otp (rows-small c.otp is_content.otp_rows) rows)

-- the raises of rows that follow others: the first ones are raised for what the last ones lack, and then these for
-- what is left
each-append : (otp : List ℕ) → ((i : ℕ) → slice_index otp i < 2 ^ 24) → (xs ys : List ℕ) (wanted : ℕ)
    → raise_each otp wanted (xs ++ ys)
    ≡ raise_each otp wanted xs ++ raise_each otp (wanted - (24 * length xs - count otp xs)) ys
each-append otp small [] ys wanted =
    let none : wanted ≡ wanted - (24 * 0 - 0) = omega arith in ap (λ w. raise_each otp w ys) none
each-append otp small (r ∷ xs) ys wanted =
    let rest = each-append otp small xs ys (wanted - taken_bits otp wanted r) in
    let few = ones-le 24 (majority otp r) (majority-lt _ _ _ (small r) (small (r + 1))) in
    let left : (wanted - taken_bits otp wanted r) - (24 * length xs - count otp xs)
    ≡ wanted - (24 * length (r ∷ xs) - count otp (r ∷ xs)) =
    omega (arith, sum_by-cons (λ s. ones (majority otp s)) r xs, few, count-le otp small xs, add-one (length xs)) in
    ap (λ steps. raise_row otp wanted r ++ steps) rest
    ∙ sym (append_assoc (raise_row otp wanted r) (raise_each otp (wanted - taken_bits otp wanted r) xs)
    (raise_each otp ((wanted - taken_bits otp wanted r) - (24 * length xs - count otp xs)) ys))
    ∙ ap (λ w. (raise_row otp wanted r ++ raise_each otp (wanted - taken_bits otp wanted r) xs) ++ raise_each otp w ys)
    left

pub raises-append : (otp : List ℕ) (xs ys : List ℕ) (version : ℕ) → All (λ v. v < 2 ^ 24) otp
    → raises otp (xs ++ ys) version
    ≡ raises otp xs (version - count otp ys) ++ raises otp ys (version - 24 * length xs)
raises-append otp xs ys version narrow =
    let both = sum_by-append (λ r. ones (majority otp r)) xs ys in
    let first : version - count otp (xs ++ ys) ≡ (version - count otp ys) - count otp xs = omega (arith, both) in
    let second : ((version - count otp ys) - count otp xs) - (24 * length xs - count otp xs)
    ≡ (version - 24 * length xs) - count otp ys =
    omega (arith, count-le otp (rows-small otp narrow) xs) in
    ap (λ w. raise_each otp w (xs ++ ys)) first
    ∙ each-append otp (rows-small otp narrow) xs ys ((version - count otp ys) - count otp xs)
    ∙ ap (λ w. raise_each otp ((version - count otp ys) - count otp xs) xs ++ raise_each otp w ys) second
