-- Bytes and words of lower-case digits are read back, and what is read of them is what they spell.
use Rattle.std.proofs.Common.{◌≡◌, ℕ, zero, suc, ◌+◌, ◌-◌, ◌*◌, ◌/◌, ◌%◌, ◌^◌, ◌<◌, ◌≤◌, ◌==◌, Bool, true, List, [], ◌∷◌, ◌++◌, length, take, drop, Some, None, refl, sym, ap, ◌∙◌, arith, append-nil, inl, inr, false}
use Rattle.std.specs.Prelude.{Ok, IfSome, if◌then◌else◌, ◌&&◌, nat_le, nat_lt, codes, bytes_eq, option_map, slice_index}
use Rattle.std.specs.Int.{byte_at}
use Rattle.std.specs.Fmt.{digit_glyph}
use Rattle.std.specs.Result.{result_ok}
use Rattle.std.proofs.lemmas.Bool.{and_parts, cases_eq, cases_lt, eqb-true, le-ltb, leb-true, lt-ltb, or_cases}
use Rattle.std.proofs.lemmas.List.{take-append-drop}
use Rattle.std.proofs.lemmas.Slice.Eq.{bytes_eq-Decides}
use Rattle.byteorder.specs.Endian.{big_bytes, big_number}
use Rattle.byteorder.specs.Numbers.{big_number-reads_back, big_from-lt, length-bytes_high_first}
use Rattle.hex.specs.Hex.{IsBytes, decode_of, decode_sized, encode_lower, encode_with, lower_digits}
use Rattle.hex.proofs.HexLemmas.{decode_of-encode_lower, decode_sized-encode_lower, decode_of-same, decode_of-odd, decode_sized-ok, decode_sized-twice, length-encode_with}
use Rattle.text_words.specs.Writing.{hex_word}
use Rattle.text_words.specs.Digits.{low_digits}
use Rattle.text_words.specs.Reading.{are_digits, array_in, behind_word, bytes_in, is_digit, word_in}
use Rattle.text_words.proofs.HexLemmas.{hex_low}
use Rattle.text_words.proofs.OptionLemmas.{if-some, map-some, and_then-some, ok-some}

pub same-text : (xs ys : List ℕ) → bytes_eq xs ys ≡ true → xs ≡ ys
same-text xs ys same = (bytes_eq-Decides xs ys).0 same

-- what is read behind a word follows it
pub word-follows : (word line : List ℕ) → IfSome (behind_word word line) (λ text. line ≡ word ++ text)
word-follows word line =
    if-some (λ text. line ≡ word ++ text) (bytes_eq (take (length word) line) word)
    (Some (drop (length word) line)) None
    (λ same. sym (take-append-drop (length word) line)
    ∙ ap (λ front. front ++ drop (length word) line) (same-text (take (length word) line) word same))
    (λ other. tt)

-- ---- digits

-- the test of a digit by its value, which computes: its code, and that it is a lower-case digit
abbrev code_of : ℕ → ℕ
code_of v = if nat_lt v 10 then 48 + v else 87 + v

abbrev is_spelled : ℕ → Bool
is_spelled v =
    (slice_index lower_digits v == code_of v) && is_digit (slice_index lower_digits v)

abbrev are_spelled : ℕ → Bool
are_spelled zero = true
are_spelled (suc v) = is_spelled v && are_spelled v

spelled-below : (n v : ℕ) → are_spelled n ≡ true → v < n → is_spelled v ≡ true
spelled-below zero v all lt = absurd (omega arith)
spelled-below (suc n) v all lt =
    let parts = and_parts (is_spelled n) (are_spelled n) all in
    elim (cases_lt v n) [
      | inl below ↦ spelled-below n v parts.1 below
      | inr top ↦ let e : v ≡ n = omega arith in rw e parts.0
    ]

record IsGlyph (v : ℕ) : Type 0 where
  code : slice_index lower_digits v ≡ code_of v
  digit : is_digit (slice_index lower_digits v) ≡ true

glyph : (v : ℕ) → v < 16 → IsGlyph v
glyph v small =
    let d = slice_index lower_digits v in
    let all = and_parts (d == code_of v) (is_digit d) (spelled-below 16 v refl small) in
    record { code = eqb-true d (code_of v) all.0; digit = all.1 }

record IsValue (c v : ℕ) : Type 0 where
  small : v < 16
  is : c ≡ slice_index lower_digits v

low-code : (v : ℕ) → v < 10 → code_of v ≡ 48 + v
low-code v low = rw (lt-ltb v 10 low) refl

high-code : (v : ℕ) → 10 ≤ v → code_of v ≡ 87 + v
high-code v high = rw (le-ltb v 10 high) refl

value-of : (c v : ℕ) → v < 16 → code_of v ≡ c → (v : ℕ) × IsValue c v
value-of c v small is = (v, record { small = small; is = sym ((glyph v small).code ∙ is) })

-- a lower-case digit is that of its value
digit-value : (c : ℕ) → is_digit c ≡ true → (v : ℕ) × IsValue c v
digit-value c is = elim (or_cases (nat_le 48 c && nat_le c 57) (nat_le 97 c && nat_le c 102) is) [
  | inl low ↦
      let parts = and_parts (nat_le 48 c) (nat_le c 57) low in
      let first = leb-true 48 c parts.0 in
      let last = leb-true c 57 parts.1 in
      value-of c (c - 48) (omega arith) (low-code (c - 48) (omega arith) ∙ omega arith)
  | inr high ↦
      let parts = and_parts (nat_le 97 c) (nat_le c 102) high in
      let first = leb-true 97 c parts.0 in
      let last = leb-true c 102 parts.1 in
      value-of c (c - 87) (omega arith) (high-code (c - 87) (omega arith) ∙ omega arith)
]

tail-bytes : (b : ℕ) (bytes : List ℕ) → IsBytes (b ∷ bytes) → IsBytes bytes
tail-bytes b bytes are = λ i. are (suc i)

more-bytes : (b : ℕ) (bytes : List ℕ) → b < 256 → IsBytes bytes → IsBytes (b ∷ bytes)
more-bytes b bytes small are zero = small
more-bytes b bytes small are (suc i) = are i

pub one-byte : (b : ℕ) → b < 256 → IsBytes (b ∷ [])
one-byte b small = more-bytes b [] small (λ i. omega arith)

record Spelled (text : List ℕ) : Type 0 where
  bytes : List ℕ
  are : IsBytes bytes
  is : text ≡ encode_lower bytes

spelled-more : (a b : ℕ) (text : List ℕ) → (v : ℕ) × IsValue a v → (v : ℕ) × IsValue b v → Spelled text
    → Spelled (a ∷ b ∷ text)
unfolding encode_with
spelled-more a b text high low rest =
    let byte = 16 * high.0 + low.0 in
    let high_is : byte / 16 ≡ high.0 = omega (arith, high.1.small, low.1.small) in
    let low_is : byte % 16 ≡ low.0 = omega (arith, high.1.small, low.1.small) in record {
      bytes = byte ∷ rest.bytes;
      are = more-bytes byte rest.bytes (omega (arith, high.1.small, low.1.small)) rest.are;
      is = rw (high_is, low_is, ← high.1.is, ← low.1.is, ← rest.is) refl;
    }

none-spelled : Spelled []
unfolding encode_with
none-spelled = record { bytes = []; are = λ i. omega arith; is = refl }

-- an even number of lower-case digits spells bytes
spelled-bytes : (text : List ℕ) → are_digits text ≡ true → length text % 2 ≡ 0 → Spelled text
spelled-bytes [] digits even = none-spelled
spelled-bytes (a ∷ []) digits even = absurd (omega arith)
spelled-bytes (a ∷ b ∷ text) digits even =
    let first = and_parts (is_digit a) (are_digits (b ∷ text)) digits in
    let second = and_parts (is_digit b) (are_digits text) first.1 in
    spelled-more a b text (digit-value a first.0) (digit-value b second.0)
    (spelled-bytes text second.1 (omega arith))

pub digits-encode : (bytes : List ℕ) → IsBytes bytes → are_digits (encode_lower bytes) ≡ true
unfolding encode_with
digits-encode [] are = refl
digits-encode (b ∷ bytes) are =
    let small : b < 256 = are 0 in
    rw ((glyph (b / 16) (omega arith)).digit, (glyph (b % 16) (omega arith)).digit)
    (digits-encode bytes (tail-bytes b bytes are))

-- ---- bytes

pub bytes-back : (bytes : List ℕ) → IsBytes bytes → bytes_in (encode_lower bytes) ≡ Some bytes
bytes-back bytes are = rw (digits-encode bytes are, decode_of-encode_lower bytes are) refl

pub record AreSpelled (text bytes : List ℕ) : Type 0 where
  pub are : IsBytes bytes
  pub is : text ≡ encode_lower bytes

decoded : (text bytes : List ℕ) → are_digits text ≡ true → decode_of text ≡ Ok bytes → AreSpelled text bytes
decoded text bytes digits is = elim (cases_eq (length text % 2) 1) [
  | inl odd ↦ absurd (cc (sym is ∙ decode_of-odd text odd))
  | inr even ↦
      let s = spelled-bytes text digits (omega arith) in
      let back : decode_of text ≡ Ok s.bytes =
      ap (λ t. decode_of t) s.is ∙ decode_of-encode_lower s.bytes s.are in
      let same = decode_of-same text bytes s.bytes is back in
      record { are = rw same s.are; is = rw same s.is }
]

pub bytes-spelled : (text : List ℕ) → IfSome (bytes_in text) (AreSpelled text)
bytes-spelled text =
    if-some (AreSpelled text) (are_digits text) (result_ok (decode_of text)) None
    (λ digits. ok-some (AreSpelled text) (decode_of text) (λ bytes is. decoded text bytes digits is))
    (λ other. tt)

pub array-back : (n : ℕ) (bytes : List ℕ) → length bytes ≡ n → IsBytes bytes
    → array_in n (encode_lower bytes) ≡ Some bytes
array-back n bytes long are = rw (digits-encode bytes are, decode_sized-encode_lower bytes n long are) refl

pub record IsArray (n : ℕ) (text bytes : List ℕ) : Type 0 where
  pub long : length bytes ≡ n
  pub spelled : AreSpelled text bytes

array-of : (n : ℕ) (text bytes : List ℕ) → are_digits text ≡ true → decode_sized text n ≡ Ok bytes
    → IsArray n text bytes
array-of n text bytes digits is =
    let twice = decode_sized-ok text n bytes is in
    let s = decoded text bytes digits (sym (decode_sized-twice text n twice) ∙ is) in
    let long : length text ≡ 2 * length bytes = ap length s.is ∙ length-encode_with lower_digits bytes in
    record { long = omega arith; spelled = s }

pub array-spelled : (n : ℕ) (text : List ℕ) → IfSome (array_in n text) (IsArray n text)
array-spelled n text =
    if-some (IsArray n text) (are_digits text) (result_ok (decode_sized text n)) None
    (λ digits. ok-some (IsArray n text) (decode_sized text n) (λ bytes is. array-of n text bytes digits is))
    (λ other. tt)

-- ---- numbers of eight digits

big-cells : (a b c d : ℕ) → a < 256 → b < 256 → c < 256 → d < 256
    → big_bytes 4 (big_number 4 (a ∷ b ∷ c ∷ d ∷ [])) ≡ a ∷ b ∷ c ∷ d ∷ []
big-cells a b c d a_low b_low c_low d_low =
    let n = a * 16777216 + (b * 65536 + (c * 256 + (d * 1 + 0))) in
    let first : n / 16777216 % 256 ≡ a = omega arith in
    let second : n / 65536 % 256 ≡ b = omega arith in
    let third : n / 256 % 256 ≡ c = omega arith in
    let fourth : n % 256 ≡ d = omega arith in
    rw (first, second, third, fourth) refl

big-back : (bytes : List ℕ) → length bytes ≡ 4 → IsBytes bytes → big_bytes 4 (big_number 4 bytes) ≡ bytes
big-back [] long are = absurd (omega arith)
big-back (a ∷ []) long are = absurd (omega arith)
big-back (a ∷ b ∷ []) long are = absurd (omega arith)
big-back (a ∷ b ∷ c ∷ []) long are = absurd (omega arith)
big-back (a ∷ b ∷ c ∷ d ∷ []) long are = big-cells a b c d (are 0) (are 1) (are 2) (are 3)
big-back (a ∷ b ∷ c ∷ d ∷ e ∷ bytes) long are = absurd (omega arith)

byte-small : (k n : ℕ) → byte_at k n < 256
byte-small zero n = omega arith
byte-small (suc k) n = omega arith

pub big-small : (k n : ℕ) → IsBytes (big_bytes k n)
big-small zero n = λ i. omega arith
big-small (suc k) n = more-bytes (byte_at k n) (big_bytes k n) (byte-small k n) (big-small k n)

-- a lower-case digit as the crate hex writes it and as std does
digit-same : (a b : ℕ) → b % 16 ≡ a → slice_index lower_digits a ≡ digit_glyph false (b % 16)
digit-same a b same = rw same (glyph a (omega arith)).code

low-bytes : (n : ℕ) → n < 2 ^ 32 → encode_lower (big_bytes 4 n) ≡ low_digits 8 n
unfolding encode_with low_digits
low-bytes n small =
    rw (
      digit-same (byte_at 3 n / 16) (n / 16 / 16 / 16 / 16 / 16 / 16 / 16) (omega arith),
      digit-same (byte_at 3 n % 16) (n / 16 / 16 / 16 / 16 / 16 / 16) (omega arith),
      digit-same (byte_at 2 n / 16) (n / 16 / 16 / 16 / 16 / 16) (omega arith),
      digit-same (byte_at 2 n % 16) (n / 16 / 16 / 16 / 16) (omega arith),
      digit-same (byte_at 1 n / 16) (n / 16 / 16 / 16) (omega arith),
      digit-same (byte_at 1 n % 16) (n / 16 / 16) (omega arith),
      digit-same (byte_at 0 n / 16) (n / 16) (omega arith),
      digit-same (byte_at 0 n % 16) n (omega arith),
    ) refl

-- the eight digits of a number are the two of each of its four bytes, the highest byte first
pub word-bytes : (n : ℕ) → n < 2 ^ 32 → hex_word n ≡ codes "0x" ++ encode_lower (big_bytes 4 n)
word-bytes n small =
    ap (λ ds. codes "0x" ++ ds) (hex_low 7 n (omega arith) (omega arith) ∙ sym (low-bytes n small))

pub record IsWord (text : List ℕ) (n : ℕ) : Type 0 where
  pub small : n < 2 ^ 32
  pub is : text ≡ hex_word n

word-of : (text digits bytes : List ℕ) → text ≡ codes "0x" ++ digits → IsArray 4 digits bytes
    → IsWord text (big_number 4 bytes)
word-of text digits bytes is array =
    let small = big_from-lt 0 4 bytes array.spelled.are in record {
      small = small;
      is = is ∙ ap (λ d. codes "0x" ++ d)
          (array.spelled.is ∙ ap (λ b. encode_lower b) (sym (big-back bytes array.long array.spelled.are)))
          ∙ sym (word-bytes (big_number 4 bytes) small);
    }

pub word-spelled : (text : List ℕ) → IfSome (word_in text) (IsWord text)
word-spelled text =
    and_then-some (λ digits. text ≡ codes "0x" ++ digits) (IsWord text)
    (λ digits. option_map (big_number 4) (array_in 4 digits)) (behind_word (codes "0x") text)
    (word-follows (codes "0x") text)
    (λ digits is. map-some (IsArray 4 digits) (IsWord text) (big_number 4) (array_in 4 digits)
    (array-spelled 4 digits) (λ bytes array. word-of text digits bytes is array))

pub word-back : (n : ℕ) → n < 2 ^ 32 → word_in (hex_word n) ≡ Some n
word-back n small =
    ap word_in (word-bytes n small) ∙ ap (λ o. option_map (big_number 4) o)
    (array-back 4 (big_bytes 4 n) (length-bytes_high_first 4 n) (big-small 4 n))
    ∙ ap Some (ap (λ bs. big_number 4 bs) (sym (append-nil (big_bytes 4 n)))
    ∙ big_number-reads_back 4 n [] (omega arith))
