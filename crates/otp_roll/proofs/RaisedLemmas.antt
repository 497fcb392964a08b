-- What the raises of rollback rows leave: each listed triple has its taken bits, and all other rows are as they were.
use Rattle.std.proofs.Common.{◌≡◌, ℕ, ◌+◌, ◌^◌, ◌<◌, ◌≢◌, List, ◌++◌, length, arith, refl, sym, ap, subst, ◌∙◌, inl, inr, get_or-set_same, get_or-set_other, length-set}
use Rattle.std.specs.Prelude.{◌⊎◌, bit_or, slice_index, slice_set}
use Rattle.std.specs.Int.Bits.{or_zero_r}
use Rattle.std.proofs.lemmas.Bool.{cases_eq, eq-eqb, ne_eqb}
use Rattle.std.proofs.lemmas.List.{set-get_or}
use Rattle.pico_board.specs.Content.{Content}
use Rattle.pico_board.specs.Steps.{after_all}
use Rattle.pico_board.proofs.StepLemmas.{after_all-append}
use Rattle.otp_roll.specs.Rows.{majority, IsOutside}
use Rattle.otp_roll.specs.Raises.{lacking, raise_lacking, raise_triple}
use Rattle.otp_roll.proofs.BitLemmas.{or-lacking}

-- the rows with row r raised by b
abbrev raised : List ℕ → ℕ → ℕ → List ℕ
raised otp r b = slice_set otp r (bit_or (slice_index otp r) b)

-- one row, whether it is raised or has the bits
pub after-raise_lacking : (c : Content) (b r : ℕ) → b < 2 ^ 24
    → (after_all c (raise_lacking b (slice_index c.otp r) r)).otp ≡ raised c.otp r b
after-raise_lacking c b r small = by_need (cases_eq (lacking b (slice_index c.otp r)) 0)
  where
    by_need : (lacking b (slice_index c.otp r) ≡ 0) ⊎ (lacking b (slice_index c.otp r) ≡ 0 → ⊥)
        → (after_all c (raise_lacking b (slice_index c.otp r) r)).otp ≡ raised c.otp r b
    by_need (inl none) =
        let same : bit_or (slice_index c.otp r) b ≡ slice_index c.otp r =
        sym (or-lacking (slice_index c.otp r) b small) ∙ ap (λ bits. bit_or (slice_index c.otp r) bits) none
        ∙ or_zero_r (slice_index c.otp r) in
        rw (eq-eqb (lacking b (slice_index c.otp r)) 0 none)
        (sym (ap (λ v. slice_set c.otp r v) same ∙ set-get_or c.otp r 0))
    by_need (inr some) =
        rw (ne_eqb (lacking b (slice_index c.otp r)) 0 some)
        (ap (λ v. slice_set c.otp r v) (or-lacking (slice_index c.otp r) b small))

-- one row, where its value is given, whether it is raised or has the bits
after-raise_given : (c : Content) (b v r : ℕ) → b < 2 ^ 24 → slice_index c.otp r ≡ v
    → (after_all c (raise_lacking b v r)).otp ≡ raised c.otp r b
after-raise_given c b v r small is =
    ap (λ w. (after_all c (raise_lacking b w r)).otp) (sym is) ∙ after-raise_lacking c b r small

-- the two lists have the same values in the triple of row r
pub record SameTriple (old new : List ℕ) (r : ℕ) : Type 0 where
  pub first : slice_index new r ≡ slice_index old r
  pub second : slice_index new (r + 1) ≡ slice_index old (r + 1)
  pub third : slice_index new (r + 2) ≡ slice_index old (r + 2)

pub majority-same : {old new : List ℕ} {r : ℕ} → SameTriple old new r → majority new r ≡ majority old r
majority-same same = rw (same.first, same.second, same.third) refl

-- the rows of the triple of row r each get the bits b, and no other row changes
pub record LiftsTriple (b r : ℕ) (old new : List ℕ) : Type 0 where
  pub long : length new ≡ length old
  pub first : slice_index new r ≡ bit_or (slice_index old r) b
  pub second : slice_index new (r + 1) ≡ bit_or (slice_index old (r + 1)) b
  pub third : slice_index new (r + 2) ≡ bit_or (slice_index old (r + 2)) b
  pub others : (i : ℕ) → IsOutside i r → slice_index new i ≡ slice_index old i

raised-others : (otp : List ℕ) (r b i : ℕ) → i ≢ r → slice_index (raised otp r b) i ≡ slice_index otp i
raised-others otp r b i other = get_or-set_other otp r i _ 0 other

raised-here : (otp : List ℕ) (r b : ℕ) → r < length otp
    → slice_index (raised otp r b) r ≡ bit_or (slice_index otp r) b
raised-here otp r b within = get_or-set_same otp r _ 0 within

raised-length : (otp : List ℕ) (r b : ℕ) → length (raised otp r b) ≡ length otp
raised-length otp r b = length-set otp r _

-- three rows one after the other
raised-triple : (otp : List ℕ) (r b : ℕ) → r + 2 < length otp
    → LiftsTriple b r otp (raised (raised (raised otp r b) (r + 1) b) (r + 2) b)
raised-triple otp r b within =
    let one = raised otp r b in
    let two = raised one (r + 1) b in
    let one_long : length one ≡ length otp = raised-length otp r b in
    let two_long : length two ≡ length otp = raised-length one (r + 1) b ∙ one_long in
    record {
      long = raised-length two (r + 2) b ∙ two_long;
      first = raised-others two (r + 2) b r (omega arith) ∙ raised-others one (r + 1) b r (omega arith)
          ∙ raised-here otp r b (omega arith);
      second = raised-others two (r + 2) b (r + 1) (omega arith) ∙ raised-here one (r + 1) b (omega arith)
          ∙ ap (λ v. bit_or v b) (raised-others otp r b (r + 1) (omega arith));
      third = raised-here two (r + 2) b (omega arith)
          ∙ ap (λ v. bit_or v b) (raised-others one (r + 1) b (r + 2) (omega arith)
          ∙ raised-others otp r b (r + 2) (omega arith));
      others = λ i outside. raised-others two (r + 2) b i (is_other i outside 2 (omega arith))
          ∙ raised-others one (r + 1) b i (is_other i outside 1 (omega arith))
          ∙ raised-others otp r b i (is_at i outside);
    }
  where
    is_other : (i : ℕ) → IsOutside i r → (k : ℕ) → k < 3 → i ≢ r + k
    is_other i (inl below) k small = omega arith
    is_other i (inr above) k small = omega arith

    is_at : (i : ℕ) → IsOutside i r → i ≢ r
    is_at i (inl below) = omega arith
    is_at i (inr above) = omega arith

-- the raises of a triple whose values are those before
pub after-raise_triple : (c : Content) (otp : List ℕ) (b r : ℕ) → b < 2 ^ 24 → r + 2 < length c.otp
    → SameTriple otp c.otp r → LiftsTriple b r c.otp (after_all c (raise_triple otp b r)).otp
after-raise_triple c otp b r small within same =
    subst (λ new. LiftsTriple b r c.otp new) (sym whole) (raised-triple c.otp r b within)
  where
    one_is : (after_all c (raise_lacking b (slice_index otp r) r)).otp ≡ raised c.otp r b
    one_is = after-raise_given c b (slice_index otp r) r small same.first

    two_is : (after_all (after_all c (raise_lacking b (slice_index otp r) r))
        (raise_lacking b (slice_index otp (r + 1)) (r + 1))).otp ≡ raised (raised c.otp r b) (r + 1) b
    two_is =
        after-raise_given (after_all c (raise_lacking b (slice_index otp r) r)) b (slice_index otp (r + 1))
        (r + 1) small
        (ap (λ rows. slice_index rows (r + 1)) one_is ∙ raised-others c.otp r b (r + 1) (omega arith) ∙ same.second)
        ∙ ap (λ rows. raised rows (r + 1) b) one_is

    three_is : (after_all (after_all (after_all c (raise_lacking b (slice_index otp r) r))
        (raise_lacking b (slice_index otp (r + 1)) (r + 1))) (raise_lacking b (slice_index otp (r + 2)) (r + 2))).otp
        ≡ raised (raised (raised c.otp r b) (r + 1) b) (r + 2) b
    three_is =
        after-raise_given (after_all (after_all c (raise_lacking b (slice_index otp r) r))
        (raise_lacking b (slice_index otp (r + 1)) (r + 1))) b (slice_index otp (r + 2)) (r + 2) small
        (ap (λ rows. slice_index rows (r + 2)) two_is
        ∙ raised-others (raised c.otp r b) (r + 1) b (r + 2) (omega arith)
        ∙ raised-others c.otp r b (r + 2) (omega arith) ∙ same.third)
        ∙ ap (λ rows. raised rows (r + 2) b) two_is

    whole : (after_all c (raise_triple otp b r)).otp ≡ raised (raised (raised c.otp r b) (r + 1) b) (r + 2) b
    whole =
        ap (λ (d : Content). d.otp)
        (after_all-append c (raise_lacking b (slice_index otp r) r)
        (raise_lacking b (slice_index otp (r + 1)) (r + 1) ++ raise_lacking b (slice_index otp (r + 2)) (r + 2))
        ∙ after_all-append (after_all c (raise_lacking b (slice_index otp r) r))
        (raise_lacking b (slice_index otp (r + 1)) (r + 1)) (raise_lacking b (slice_index otp (r + 2)) (r + 2)))
        ∙ three_is
