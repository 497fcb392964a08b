-- A word that is spelled says its value.
use Rattle.std.proofs.Common.{◌≡◌, ℕ, zero, suc, ◌+◌, ◌-◌, ◌*◌, ◌/◌, ◌%◌, ◌^◌, ◌<◌, ◌≤◌, true, false, List, [], ◌∷◌, ◌++◌, length, Option, Some, None, refl, ap, ◌∙◌, arith, decimal, inl, inr}
use Rattle.std.specs.Prelude.{if◌then◌else◌, ◌&&◌, nat_le, codes, drop, option_and_then, option_map, take}
use Rattle.std.specs.Fmt.{digit_glyph}
use Rattle.std.specs.Option.{option_or}
use Rattle.std.specs.Result.{result_ok}
use Rattle.std.proofs.lemmas.Bool.{cases_eq, cases_lt, ne_eqb, le-leb, lt-ltb, le-ltb}
use Rattle.hex.specs.Hex.{hex_digit_value}
use Rattle.text_words.specs.Digits.{low_digits}
use Rattle.hex.proofs.HexLemmas.{decode_of-encode_lower}
use Rattle.part_table.specs.Families.{absolute_family, arm_ns_family, arm_s_family, data_family, family_of, riscv_family, rp2040_family}
use Rattle.pico_board.proofs.FileListLemmas.{bytes_eq-same}
use Rattle.text_words.specs.Reading.{behind_word, hex_value, number_of}
use Rattle.text_words.specs.Writing.{hex_row, hex_word}
use Rattle.text_words.proofs.HexLemmas.{hex_low, length-low_digits, low_front, low_none}
use Rattle.text_words.proofs.NumberBackLemmas.{zeros-back}
use Rattle.script_words.specs.Splitting.{behind_mark}
use Rattle.script_words.specs.declared.forms.Form.{Form}
use Rattle.script_words.specs.declared.forms.Form.TheVariants as forms
use Rattle.script_words.specs.Forms.{keyword_text}
use Rattle.script_words.specs.Values.{ValueView, Plain, Number, Span, Bytes, at_most, both, digits_in, family_word, hex_word_in, row_in, sized, span_in, span_value, value_in}
use Rattle.script_words.specs.Spelling.{family_name, family_text, name_or_number, range_text, spelled}
use Rattle.script_words.specs.Saying.{MaySay}
use Rattle.script_words.proofs.MarkLemmas.{is_free, is_other, mark-before, mark-behind, free-append}

-- ---- hexadecimal digits

glyph-value : (d : ℕ) → d < 16 → hex_digit_value (digit_glyph false d) ≡ Some d
glyph-value zero small = refl
glyph-value (suc zero) small = refl
glyph-value (suc (suc zero)) small = refl
glyph-value (suc (suc (suc zero))) small = refl
glyph-value (suc (suc (suc (suc zero)))) small = refl
glyph-value (suc (suc (suc (suc (suc zero))))) small = refl
glyph-value (suc (suc (suc (suc (suc (suc zero)))))) small = refl
glyph-value (suc (suc (suc (suc (suc (suc (suc zero))))))) small = refl
glyph-value (suc (suc (suc (suc (suc (suc (suc (suc zero)))))))) small = refl
glyph-value (suc (suc (suc (suc (suc (suc (suc (suc (suc zero))))))))) small = refl
glyph-value (suc (suc (suc (suc (suc (suc (suc (suc (suc (suc zero)))))))))) small = refl
glyph-value (suc (suc (suc (suc (suc (suc (suc (suc (suc (suc (suc zero))))))))))) small = refl
glyph-value (suc (suc (suc (suc (suc (suc (suc (suc (suc (suc (suc (suc zero)))))))))))) small = refl
glyph-value (suc (suc (suc (suc (suc (suc (suc (suc (suc (suc (suc (suc (suc zero))))))))))))) small = refl
glyph-value (suc (suc (suc (suc (suc (suc (suc (suc (suc (suc (suc (suc (suc (suc zero)))))))))))))) small = refl
glyph-value (suc (suc (suc (suc (suc (suc (suc (suc (suc (suc (suc (suc (suc (suc (suc zero))))))))))))))) small = refl
glyph-value (suc (suc (suc (suc (suc (suc (suc (suc (suc (suc (suc (suc (suc (suc (suc (suc d)))))))))))))))) small = absurd (omega (arith, small))

abbrev GoesOn : ℕ → ℕ → List ℕ → List ℕ → Type 0
GoesOn first v xs ys = hex_value first xs ≡ Some v → hex_value first (xs ++ ys) ≡ hex_value v ys

digit-more : (first v : ℕ) (xs ys : List ℕ) (d : Option ℕ) → ((e : ℕ) → GoesOn e v xs ys)
    → option_and_then (λ digit. hex_value (16 * first + digit) xs) d ≡ Some v
    → option_and_then (λ digit. hex_value (16 * first + digit) (xs ++ ys)) d ≡ hex_value v ys
digit-more first v xs ys None more same = absurd (cc same)
digit-more first v xs ys (Some d) more same = more (16 * first + d) same

value-more : (first v : ℕ) (xs ys : List ℕ) → GoesOn first v xs ys
value-more first v [] ys is = let e : first ≡ v = cc is in ap (λ n. hex_value n ys) e
value-more first v (c ∷ xs) ys is =
    digit-more first v xs ys (hex_digit_value c) (λ e. value-more e v xs ys) is

last-value : (q d : ℕ) → d < 16 → hex_value q (digit_glyph false d ∷ []) ≡ Some (16 * q + d)
last-value q d small = rw (glyph-value d small) refl

low-value : (k n : ℕ) → n < 16 ^ k → hex_value 0 (low_digits k n) ≡ Some n
low-value zero n small = ap (hex_value 0) (low_none n) ∙ ap Some (omega (arith, small))
low-value (suc k) n small =
    let e : suc k - 1 ≡ k = omega arith in
    ap (hex_value 0) (low_front (suc k) n (omega arith) ∙ ap (λ m. low_digits m (n / 16) ++ (digit_glyph false (n % 16) ∷ [])) e)
    ∙ value-more 0 (n / 16) (low_digits k (n / 16)) (digit_glyph false (n % 16) ∷ [])
    (low-value k (n / 16) (omega (arith, small)))
    ∙ last-value (n / 16) (n % 16) (omega arith)
    ∙ ap Some (omega arith)

digits-back : (most k n : ℕ) → 0 < k → k ≤ most → n < 16 ^ k → digits_in most (low_digits k n) ≡ Some n
digits-back most k n some few small =
    by_length (length (low_digits k n)) (length-low_digits k n)
  where
    by_length : (long : ℕ) → long ≡ k
        → (if nat_le 1 long && nat_le long most then hex_value 0 (low_digits k n) else None) ≡ Some n
    by_length long is = rw (le-leb 1 long (omega arith), le-leb long most (omega arith)) (low-value k n small)

pub hex-back : (n : ℕ) → n < 2 ^ 32 → hex_word_in (hex_word n) ≡ Some n
hex-back n small =
    ap (digits_in 8) (hex_low 7 n (omega arith) (omega arith)) ∙ digits-back 8 8 n (omega arith) (omega arith) (omega arith)

pub row-back : (n : ℕ) → n < 4096 → row_in (hex_row n) ≡ Some n
row-back n small =
    ap (digits_in 3) (hex_low 2 n (omega arith) (omega arith)) ∙ digits-back 3 3 n (omega arith) (omega arith) (omega arith)

-- ---- a word behind what stands in front of it

take-front : (w t : List ℕ) → take (length w) (w ++ t) ≡ w
take-front [] t = refl
take-front (b ∷ w) t = ap (λ xs. b ∷ xs) (take-front w t)

drop-front : (w t : List ℕ) → drop (length w) (w ++ t) ≡ t
drop-front [] t = refl
drop-front (b ∷ w) t = drop-front w t

pub behind-back : (w t : List ℕ) → behind_word w (w ++ t) ≡ Some t
behind-back w t = rw (take-front w t, bytes_eq-same w w refl) (ap Some (drop-front w t))

-- ---- ranges

glyph-high : (d : ℕ) → 48 ≤ digit_glyph false d
glyph-high d = elim (cases_lt d 10) [
  | inl low ↦ rw (lt-ltb d 10 low) (omega arith)
  | inr high ↦ rw (le-ltb d 10 high) (omega arith)
]

glyph-free : (d : ℕ) → is_other 43 (digit_glyph false d) ≡ true
glyph-free d = let high = glyph-high d in rw (ne_eqb (digit_glyph false d) 43 (omega arith)) refl

free-low : (k n : ℕ) → is_free 43 (low_digits k n) ≡ true
free-low zero n = ap (is_free 43) (low_none n)
free-low (suc k) n =
    let e : suc k - 1 ≡ k = omega arith in
    ap (is_free 43) (low_front (suc k) n (omega arith)
    ∙ ap (λ m. low_digits m (n / 16) ++ (digit_glyph false (n % 16) ∷ [])) e)
    ∙ free-append 43 (low_digits k (n / 16)) (digit_glyph false (n % 16) ∷ []) (free-low k (n / 16))
    (rw (glyph-free (n % 16)) refl)

free-hex : (n : ℕ) → n < 2 ^ 32 → is_free 43 (hex_word n) ≡ true
free-hex n small = ap (is_free 43) (hex_low 7 n (omega arith) (omega arith)) ∙ free-low 8 n

pub span-back : (start size : ℕ) → start < 2 ^ 32 → size < 2 ^ 32
    → span_in (range_text start size) ≡ Some (start, size)
span-back start size first second =
    let free = free-hex start first in
    ap (λ w. both (hex_word_in w) (option_and_then hex_word_in (behind_mark 43 (range_text start size))))
    (mark-before 43 (hex_word start) (hex_word size) free)
    ∙ ap (λ o. both (hex_word_in (hex_word start)) (option_and_then hex_word_in o))
    (mark-behind 43 (hex_word start) (hex_word size) free)
    ∙ ap (λ o. both o (hex_word_in (hex_word size))) (hex-back start first)
    ∙ ap (λ o. both (Some start) o) (hex-back size second)

-- ---- families

pub family-back : (family : ℕ) → family < 2 ^ 32 → family_word (family_text family) ≡ Some family
family-back family small = elim (cases_eq family rp2040_family) [
  | inl e ↦ rw e refl
  | inr ne1 ↦ elim (cases_eq family absolute_family) [
    | inl e ↦ rw e refl
    | inr ne2 ↦ elim (cases_eq family data_family) [
      | inl e ↦ rw e refl
      | inr ne3 ↦ elim (cases_eq family arm_s_family) [
        | inl e ↦ rw e refl
        | inr ne4 ↦ elim (cases_eq family riscv_family) [
          | inl e ↦ rw e refl
          | inr ne5 ↦ elim (cases_eq family arm_ns_family) [
            | inl e ↦ rw e refl
            | inr ne6 ↦
                let none : family_name family ≡ None =
                rw (
                  ne_eqb family rp2040_family ne1,
                  ne_eqb family absolute_family ne2,
                  ne_eqb family data_family ne3,
                  ne_eqb family arm_s_family ne4,
                  ne_eqb family riscv_family ne5,
                  ne_eqb family arm_ns_family ne6,
                ) refl in
                ap (λ o. family_word (name_or_number family o)) none
                ∙ ap (λ o. option_and_then (λ text. option_or (hex_word_in text) (family_of text)) o)
                (behind-back (codes "family=") (hex_word family))
                ∙ ap (λ o. option_or o (family_of (hex_word family))) (hex-back family small)
          ]
        ]
      ]
    ]
  ]
]

-- ---- any word

pub value-back : (form : Form) (value : ValueView) → MaySay form value
    → value_in form (spelled form value) ≡ Some value
value-back (forms.Is text) Plain may = rw (bytes_eq-same (keyword_text text) (keyword_text text) refl) refl
value-back (forms.Number most) (Number n) may =
    ap (λ o. option_map Number (option_and_then (at_most most) o)) (zeros-back n may.1)
    ∙ rw (le-leb n most may.0) refl
value-back (forms.NumberBehind front) (Number n) may =
    ap (λ o. option_map Number (option_and_then number_of o)) (behind-back (keyword_text front) (decimal n))
    ∙ ap (option_map Number) (zeros-back n may)
value-back forms.Hex (Number n) may = ap (option_map Number) (hex-back n may)
value-back (forms.HexBehind front) (Number n) may =
    ap (λ o. option_map Number (option_and_then hex_word_in o)) (behind-back (keyword_text front) (hex_word n))
    ∙ ap (option_map Number) (hex-back n may)
value-back forms.OtpRow (Number n) may = ap (option_map Number) (row-back n may)
value-back forms.Span (Span start size) may = ap (option_map span_value) (span-back start size may.0 may.1)
value-back (forms.SpanBehind front) (Span start size) may =
    ap (λ o. option_map span_value (option_and_then span_in o))
    (behind-back (keyword_text front) (range_text start size))
    ∙ ap (option_map span_value) (span-back start size may.0 may.1)
value-back (forms.Bytes least most) (Bytes bytes) may =
    ap (λ r. option_map Bytes (option_and_then (sized least most) (result_ok r))) (decode_of-encode_lower bytes may.0)
    ∙ rw (le-leb least (length bytes) may.1, le-leb (length bytes) most may.2) refl
value-back forms.Family (Number n) may = ap (option_map Number) (family-back n may)
value-back (forms.Is text) (Number n) may = absurd may
value-back (forms.Is text) (Span a b) may = absurd may
value-back (forms.Is text) (Bytes bs) may = absurd may
value-back (forms.Number most) Plain may = absurd may
value-back (forms.Number most) (Span a b) may = absurd may
value-back (forms.Number most) (Bytes bs) may = absurd may
value-back (forms.NumberBehind front) Plain may = absurd may
value-back (forms.NumberBehind front) (Span a b) may = absurd may
value-back (forms.NumberBehind front) (Bytes bs) may = absurd may
value-back forms.Hex Plain may = absurd may
value-back forms.Hex (Span a b) may = absurd may
value-back forms.Hex (Bytes bs) may = absurd may
value-back (forms.HexBehind front) Plain may = absurd may
value-back (forms.HexBehind front) (Span a b) may = absurd may
value-back (forms.HexBehind front) (Bytes bs) may = absurd may
value-back forms.OtpRow Plain may = absurd may
value-back forms.OtpRow (Span a b) may = absurd may
value-back forms.OtpRow (Bytes bs) may = absurd may
value-back forms.Span Plain may = absurd may
value-back forms.Span (Number n) may = absurd may
value-back forms.Span (Bytes bs) may = absurd may
value-back (forms.SpanBehind front) Plain may = absurd may
value-back (forms.SpanBehind front) (Number n) may = absurd may
value-back (forms.SpanBehind front) (Bytes bs) may = absurd may
value-back (forms.Bytes least most) Plain may = absurd may
value-back (forms.Bytes least most) (Number n) may = absurd may
value-back (forms.Bytes least most) (Span a b) may = absurd may
value-back forms.Family Plain may = absurd may
value-back forms.Family (Span a b) may = absurd may
value-back forms.Family (Bytes bs) may = absurd may
value-back forms.SomeSpan value may = absurd may
value-back forms.Rest value may = absurd may
