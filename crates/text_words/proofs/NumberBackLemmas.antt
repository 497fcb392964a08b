-- A number in decimal is read back, and a number that is read spells its word.
use Rattle.std.proofs.Common.{◌≡◌, ℕ, ◌+◌, ◌-◌, ◌*◌, ◌^◌, ◌<◌, ◌≤◌, ◌==◌, true, List, [], ◌∷◌, length, get_or, Some, None, refl, sym, ap, ◌∙◌, arith, rules, inl, inr, decimal}
use Rattle.std.specs.Prelude.{IfSome, ◌&&◌, ◌||◌, nat_le, nat_lt, option_and_then, slice_index}
use Rattle.std.specs.Str.{all_ascii_digits}
use Rattle.std.specs.Char.{is_ascii_digit}
use Rattle.std.proofs.lemmas.Bool.{and_parts, cases_lt, eqb-true, leb-true, ltb-true, lt-ltb, le-leb, or_cases}
use Rattle.std.proofs.Math.Bool.{or-true}
use Rattle.std.proofs.lemmas.Fmt.{decimal_digit as decimal_digit_is, decimal-digits_value, decimal_nonempty, digits_decimal, digits_value-decimal, first_decimal, length-decimal-le}
use Rattle.std.proofs.lemmas.Str.Parse.{IsNumeralModel, numerals_by_fold}
use Rattle.text_words.specs.Reading.{decimal_digit, decimal_value, in_32_bits, is_short, number_in, number_of, value_in}
use Rattle.text_words.proofs.OptionLemmas.{if-some, and_then-some, weaken-some}

abbrev read_on : ℕ → List ℕ → ℕ
read_on n [] = n
read_on n (c ∷ cs) = read_on (10 * n + (c - 48)) cs

own : IsNumeralModel (λ ds. all_ascii_digits ds ≡ true) (read_on 0)
own = numerals_by_fold _ (search rules) read_on (search rules)

pub record IsNumber (text : List ℕ) (n : ℕ) : Type 0 where
  pub small : n < 2 ^ 32
  pub is : text ≡ decimal n

value-digits : (first : ℕ) (text : List ℕ) → all_ascii_digits text ≡ true
    → decimal_value first text ≡ Some (read_on first text)
value-digits first [] digits = refl
value-digits first (c ∷ text) digits =
    let parts = and_parts (is_ascii_digit c) (all_ascii_digits text) digits in
    rw parts.0 (value-digits (10 * first + (c - 48)) text parts.1)

record IsValue (first : ℕ) (text : List ℕ) (n : ℕ) : Type 0 where
  digits : all_ascii_digits text ≡ true
  is : n ≡ read_on first text

value-some : (first : ℕ) (text : List ℕ) → IfSome (decimal_value first text) (IsValue first text)
value-some first [] = record { digits = refl; is = refl }
value-some first (c ∷ text) =
    and_then-some (λ digit. (is_ascii_digit c ≡ true) × (digit ≡ c - 48)) (IsValue first (c ∷ text))
    (λ digit. decimal_value (10 * first + digit) text) (decimal_digit c)
    (if-some (λ digit. (is_ascii_digit c ≡ true) × (digit ≡ c - 48)) (is_ascii_digit c) (Some (c - 48)) None
    (λ is. (is, refl)) (λ other. tt))
    (λ digit is. weaken-some (IsValue (10 * first + digit) text) (IsValue first (c ∷ text))
    (decimal_value (10 * first + digit) text) (value-some (10 * first + digit) text)
    (λ n value. record {
      digits = rw (is.0) value.digits;
      is = value.is ∙ ap (λ d. read_on (10 * first + d) text) is.1;
    }))

-- digits without a leading zero
record IsShort (text : List ℕ) : Type 0 where
  some : 1 ≤ length text
  few : length text ≤ 10
  lead : get_or text 0 0 ≡ 48 → length text ≡ 1

short-is : (text : List ℕ) → is_short text ≡ true → IsShort text
short-is text is =
    let all = and_parts (nat_le 1 (length text) && nat_le (length text) 10)
    (length text == 1 || nat_lt 48 (slice_index text 0)) is in
    let sizes = and_parts (nat_le 1 (length text)) (nat_le (length text) 10) all.0 in record {
      some = leb-true 1 (length text) sizes.0;
      few = leb-true (length text) 10 sizes.1;
      lead = λ zero_first. elim (or_cases (length text == 1) (nat_lt 48 (slice_index text 0)) all.1) [
        | inl one ↦ eqb-true (length text) 1 one
        | inr above ↦ absurd (omega (arith, ltb-true 48 (slice_index text 0) above, zero_first))
      ];
    }

short-decimal : (n : ℕ) → n < 2 ^ 32 → is_short (decimal n) ≡ true
short-decimal n small = elim (cases_lt 0 n) [
  | inl some ↦
      let above = lt-ltb 48 (get_or (decimal n) 0 0) (first_decimal n some (omega arith)) in
      let one = le-leb 1 (length (decimal n)) (decimal_nonempty n (omega arith)) in
      let ten = le-leb (length (decimal n)) 10 (length-decimal-le 10 n (omega arith) (omega arith) (omega arith)) in
      rw (one, ten, above) (or-true (length (decimal n) == 1))
  | inr none ↦ let zero_is : n ≡ 0 = omega arith in rw (zero_is, decimal_digit_is 0 (omega arith)) refl
]

number-of : (text : List ℕ) (n : ℕ) → IsShort text → IsValue 0 text n → n < 2 ^ 32 → IsNumber text n
number-of text n short value small = record {
  small = small;
  is = sym (ap decimal value.is
      ∙ decimal-digits_value own text value.digits short.some short.lead (omega (arith, value.is, small)));
}

pub number-spelled : (text : List ℕ) → IfSome (number_in text) (IsNumber text)
number-spelled text =
    if-some (IsNumber text) (is_short text) (value_in text) None
    (λ short. and_then-some (IsValue 0 text) (IsNumber text) in_32_bits (decimal_value 0 text)
    (value-some 0 text)
    (λ n value. if-some (IsNumber text) (nat_lt n (2 ^ 32)) (Some n) None
    (λ small. number-of text n (short-is text short) value (ltb-true n (2 ^ 32) small)) (λ other. tt)))
    (λ other. tt)

pub value-back : (n : ℕ) → n < 2 ^ 32 → value_in (decimal n) ≡ Some n
value-back n small =
    let value = value-digits 0 (decimal n) (digits_decimal own n (omega arith))
    ∙ ap Some (digits_value-decimal own n (omega arith)) in
    rw (value, lt-ltb n (2 ^ 32) small) refl

pub zeros-back : (n : ℕ) → n < 2 ^ 32 → number_of (decimal n) ≡ Some n
zeros-back n small =
    let one = le-leb 1 (length (decimal n)) (decimal_nonempty n (omega arith)) in
    let ten = le-leb (length (decimal n)) 10 (length-decimal-le 10 n (omega arith) (omega arith) (omega arith)) in
    rw (one, ten) (value-back n small)

pub number-back : (n : ℕ) → n < 2 ^ 32 → number_in (decimal n) ≡ Some n
number-back n small = rw (short-decimal n small) (value-back n small)

pub decimal-digits : (n : ℕ) → n < 2 ^ 64 → all_ascii_digits (decimal n) ≡ true
decimal-digits n small = digits_decimal own n small
