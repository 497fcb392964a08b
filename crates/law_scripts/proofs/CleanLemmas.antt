-- Words without a blank, a mark of a comment and a line feed.
use Rattle.std.proofs.Common.{◌≡◌, ◌≢◌, ℕ, zero, suc, ◌-◌, ◌/◌, ◌%◌, ◌^◌, ◌<◌, ◌≤◌, Bool, true, false, List, [], ◌∷◌, ◌++◌, refl, ap, ◌∙◌, arith, append-nil, decimal, inl, inr}
use Rattle.std.specs.Prelude.{◌&&◌, if◌then◌else◌, nat_le, filter}
use Rattle.std.specs.List.{list_all}
use Rattle.std.specs.Char.{is_ascii_digit}
use Rattle.std.specs.Str.{all_ascii_digits}
use Rattle.std.specs.Fmt.{digit_glyph}
use Rattle.std.proofs.lemmas.Bool.{and_parts, cases_lt, leb-true, le-leb, lt-ltb, le-ltb, ne_eqb, or_cases}
use Rattle.hex.specs.Hex.{IsBytes, encode_lower}
use Rattle.text_words.specs.Digits.{low_digits}
use Rattle.text_words.specs.Reading.{are_digits, is_digit}
use Rattle.text_words.specs.Writing.{hex_row, hex_word}
use Rattle.text_words.proofs.BytesLemmas.{digits-encode}
use Rattle.text_words.proofs.HexLemmas.{hex_low, low_front, low_none}
use Rattle.text_words.proofs.NumberBackLemmas.{decimal-digits}
use Rattle.script_words.specs.Splitting.{blank_words, has_byte, in_first, is_blank, pieces}
use Rattle.script_words.specs.Spelling.{after_blanks}

-- the byte is none of those that part words, begin a comment or end a line
abbrev pub is_clean : ℕ → Bool
is_clean b = nat_le 36 b

abbrev pub all_clean : List ℕ → Bool
all_clean bs = list_all is_clean bs

pub clean-append : (xs ys : List ℕ) → all_clean xs ≡ true → all_clean ys ≡ true → all_clean (xs ++ ys) ≡ true
clean-append [] ys first second = second
clean-append (x ∷ xs) ys first second =
    let parts = and_parts (is_clean x) (all_clean xs) first in
    rw parts.0 (clean-append xs ys parts.1 second)

-- ---- numbers and bytes

above-clean : (c : ℕ) → 48 ≤ c → is_clean c ≡ true
above-clean c above = le-leb 36 c (omega arith)

digits-clean : (text : List ℕ) → all_ascii_digits text ≡ true → all_clean text ≡ true
digits-clean [] digits = refl
digits-clean (c ∷ text) digits =
    let parts = and_parts (is_ascii_digit c) (all_ascii_digits text) digits in
    let low = and_parts (nat_le 48 c) (nat_le c 57) parts.0 in
    rw (above-clean c (leb-true 48 c low.0)) (digits-clean text parts.1)

pub clean-decimal : (n : ℕ) → n < 2 ^ 64 → all_clean (decimal n) ≡ true
clean-decimal n small = digits-clean (decimal n) (decimal-digits n small)

glyph-high : (d : ℕ) → 48 ≤ digit_glyph false d
glyph-high d = elim (cases_lt d 10) [
  | inl low ↦ rw (lt-ltb d 10 low) (omega arith)
  | inr high ↦ rw (le-ltb d 10 high) (omega arith)
]

clean-low : (k n : ℕ) → all_clean (low_digits k n) ≡ true
clean-low zero n = ap all_clean (low_none n)
clean-low (suc k) n =
    let e : suc k - 1 ≡ k = omega arith in
    ap all_clean (low_front (suc k) n (omega arith) ∙ ap (λ m. low_digits m (n / 16) ++ (digit_glyph false (n % 16) ∷ [])) e)
    ∙ clean-append (low_digits k (n / 16)) (digit_glyph false (n % 16) ∷ []) (clean-low k (n / 16))
    (rw (above-clean (digit_glyph false (n % 16)) (glyph-high (n % 16))) refl)

pub clean-hex : (n : ℕ) → n < 2 ^ 32 → all_clean (hex_word n) ≡ true
clean-hex n small = ap all_clean (hex_low 7 n (omega arith) (omega arith)) ∙ clean-low 8 n

pub clean-row : (n : ℕ) → n < 4096 → all_clean (hex_row n) ≡ true
clean-row n small = ap all_clean (hex_low 2 n (omega arith) (omega arith)) ∙ clean-low 3 n

digit-clean : (c : ℕ) → is_digit c ≡ true → is_clean c ≡ true
digit-clean c is = elim (or_cases (nat_le 48 c && nat_le c 57) (nat_le 97 c && nat_le c 102) is) [
  | inl low ↦ above-clean c (leb-true 48 c (and_parts (nat_le 48 c) (nat_le c 57) low).0)
  | inr high ↦
      let first = leb-true 97 c (and_parts (nat_le 97 c) (nat_le c 102) high).0 in above-clean c (omega arith)
]

hex-clean : (text : List ℕ) → are_digits text ≡ true → all_clean text ≡ true
hex-clean [] digits = refl
hex-clean (c ∷ text) digits =
    let parts = and_parts (is_digit c) (are_digits text) digits in
    rw (digit-clean c parts.0) (hex-clean text parts.1)

pub clean-bytes : (bytes : List ℕ) → IsBytes bytes → all_clean (encode_lower bytes) ≡ true
clean-bytes bytes are = hex-clean (encode_lower bytes) (digits-encode bytes are)

-- ---- words with blanks between them

clean-other : (b : ℕ) → is_clean b ≡ true → is_blank b ≡ false
clean-other b clean =
    let above = leb-true 36 b clean in
    rw (ne_eqb b 32 (omega arith), ne_eqb b 9 (omega arith), ne_eqb b 13 (omega arith)) refl

piece-clean : (w rest : List ℕ) → all_clean w ≡ true → pieces (w ++ (32 ∷ rest)) ≡ w ∷ pieces rest
piece-clean [] rest clean = refl
piece-clean (b ∷ w) rest clean =
    let parts = and_parts (is_clean b) (all_clean w) clean in
    rw (clean-other b parts.0) (ap (in_first b) (piece-clean w rest parts.1))

piece-whole : (w : List ℕ) → all_clean w ≡ true → pieces w ≡ w ∷ []
piece-whole [] clean = refl
piece-whole (b ∷ w) clean =
    let parts = and_parts (is_clean b) (all_clean w) clean in
    rw (clean-other b parts.0) (ap (in_first b) (piece-whole w parts.1))

-- a word has a byte, and all are clean
abbrev pub is_word : List ℕ → Bool
is_word w = has_byte w && all_clean w

abbrev pub are_words : List (List ℕ) → Bool
are_words ws = list_all is_word ws

filter-word : (w : List ℕ) (ps : List (List ℕ)) → has_byte w ≡ true
    → filter has_byte (w ∷ ps) ≡ w ∷ filter has_byte ps
filter-word w ps some = rw some refl

pub words-back : (w : List ℕ) (ws : List (List ℕ)) → is_word w ≡ true → are_words ws ≡ true
    → blank_words (w ++ after_blanks ws) ≡ w ∷ ws
words-back w [] first others =
    let parts = and_parts (has_byte w) (all_clean w) first in
    ap (filter has_byte) (ap pieces (append-nil w) ∙ piece-whole w parts.1) ∙ filter-word w [] parts.0
words-back w (v ∷ ws) first others =
    let parts = and_parts (has_byte w) (all_clean w) first in
    let rest = and_parts (is_word v) (are_words ws) others in
    ap (filter has_byte) (piece-clean w (v ++ after_blanks ws) parts.1)
    ∙ filter-word w (pieces (v ++ after_blanks ws)) parts.0
    ∙ ap (λ xs. w ∷ xs) (words-back v ws rest.0 rest.1)

-- ---- a blank at the end

abbrev add-piece : List (List ℕ) → List (List ℕ)
add-piece ps = ps ++ ([] ∷ [])

first-added : (b : ℕ) (ps : List (List ℕ)) → ps ≢ [] → in_first b (add-piece ps) ≡ add-piece (in_first b ps)
first-added b [] some = absurd (some refl)
first-added b (p ∷ ps) some = refl

some-pieces : (bs : List ℕ) → pieces bs ≢ []
some-pieces [] is = cc is
some-pieces (b ∷ bs) is = by_blank (is_blank b) is
  where
    by_first : (ps : List (List ℕ)) → in_first b ps ≡ [] → ⊥
    by_first [] same = cc same
    by_first (p ∷ ps) same = cc same

    by_blank : (t : Bool) → (if t then [] ∷ pieces bs else in_first b (pieces bs)) ≡ [] → ⊥
    by_blank true same = cc same
    by_blank false same = by_first (pieces bs) same

pieces-added : (bs : List ℕ) → pieces (bs ++ (32 ∷ [])) ≡ add-piece (pieces bs)
pieces-added [] = refl
pieces-added (b ∷ bs) = by_blank (is_blank b) refl (pieces-added bs)
  where
    by_blank : (t : Bool) → is_blank b ≡ t → pieces (bs ++ (32 ∷ [])) ≡ add-piece (pieces bs)
        → pieces (b ∷ bs ++ (32 ∷ [])) ≡ add-piece (pieces (b ∷ bs))
    by_blank true is rest = rw is (ap (λ ps. [] ∷ ps) rest)
    by_blank false is rest = rw is (ap (in_first b) rest ∙ first-added b (pieces bs) (some-pieces bs))

filter-added : (ps : List (List ℕ)) → filter has_byte (ps ++ ([] ∷ [])) ≡ filter has_byte ps
filter-added [] = refl
filter-added (p ∷ ps) = by_byte (has_byte p) refl (filter-added ps)
  where
    by_byte : (t : Bool) → has_byte p ≡ t → filter has_byte (ps ++ ([] ∷ [])) ≡ filter has_byte ps
        → filter has_byte (p ∷ ps ++ ([] ∷ [])) ≡ filter has_byte (p ∷ ps)
    by_byte true is rest = rw is (ap (λ xs. p ∷ xs) rest)
    by_byte false is rest = rw is rest

pub words-added : (bs : List ℕ) → blank_words (bs ++ (32 ∷ [])) ≡ blank_words bs
words-added bs = ap (filter has_byte) (pieces-added bs) ∙ filter-added (pieces bs)
