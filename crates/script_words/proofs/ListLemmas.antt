-- Loops over values, and pages.
use Rattle.std.proofs.Common.{◌≡◌, ℕ, zero, suc, ◌+◌, ◌-◌, ◌*◌, ◌<◌, ◌≤◌, true, false, List, [], ◌∷◌, ◌++◌, length, take, drop, get_or, map, replicate, Some, refl, sym, ap, ◌∙◌, arith, append-nil, append_assoc, length-append, length-take, inl, inr}
use Rattle.std.specs.Prelude.{min}
use Rattle.std.proofs.lemmas.Bool.{cases_lt}
use Rattle.std.proofs.lemmas.List.{take_all, take_more}
use Rattle.std.proofs.lemmas.List.{map-append}
use Rattle.byteorder.specs.Endian.{little_number}
use Rattle.block_codec.specs.Words.{word_of, words_of}
use Rattle.block_codec.proofs.WordLemmas.{get_or-words_of, length-words_of}
use Rattle.uf2_place.specs.declared.block.Uf2.{Uf2}
use Rattle.uf2_place.specs.declared.block.TheConstants.{END, PAYLOAD, SECOND, START}
use Rattle.uf2_place.specs.Blocks.{number_bytes, place_bytes, word_bytes as block_word, written_block}
use Rattle.script_words.specs.declared.rows.Row.{Row}
use Rattle.script_words.specs.declared.rows.Row.TheVariants as rows
use Rattle.script_words.specs.declared.values.Value.TheVariants as rust
use Rattle.script_words.specs.Made.{made, made_command, made_of_image, made_own}
use Rattle.script_words.specs.declared.values.Value.{Value}
use Rattle.script_words.specs.Rows.{form_at}
use Rattle.script_words.specs.Values.{ValueView, Number, value_from}
use Rattle.script_words.specs.Naming.{fit_from, fits}
use Rattle.script_words.specs.Spelling.{spelled, value_texts}

-- a value that fits, and those that are left
pub fit-step : (row : Row) (i : ℕ) (left rest : List Value) (v : Value) → left ≡ v ∷ rest
    → fits (form_at row i) (value_from v) ≡ true
    → fit_from row i (map value_from left) ≡ fit_from row (i + 1) (map value_from rest)
fit-step row i left rest v is fit =
    ap (λ vs. fit_from row i (map value_from vs)) is ∙ rw fit refl

pub fit-stop : (row : Row) (i : ℕ) (left rest : List Value) (v : Value) → left ≡ v ∷ rest
    → fits (form_at row i) (value_from v) ≡ false → fit_from row i (map value_from left) ≡ false
fit-stop row i left rest v is fit = ap (λ vs. fit_from row i (map value_from vs)) is ∙ rw fit refl

pub fit-end : (row : Row) (i : ℕ) (left : List Value) → left ≡ [] → fit_from row i (map value_from left) ≡ true
fit-end row i left none = ap (λ vs. fit_from row i (map value_from vs)) none

-- the words of values that are left
pub texts-step : (row : Row) (i : ℕ) (left rest : List Value) (v : Value) (text : List ℕ) → left ≡ v ∷ rest
    → text ++ value_texts row i (map value_from left)
    ≡ (text ++ (32 ∷ []) ++ spelled (form_at row i) (value_from v)) ++ value_texts row (i + 1) (map value_from rest)
texts-step row i left rest v text is =
    ap (λ vs. text ++ value_texts row i (map value_from vs)) is ∙ sym (simp append_assoc)

pub texts-end : (row : Row) (i : ℕ) (left : List Value) (text : List ℕ) → left ≡ []
    → text ++ value_texts row i (map value_from left) ≡ text
texts-end row i left text none =
    ap (λ vs. text ++ value_texts row i (map value_from vs)) none ∙ append-nil text

-- ---- pages

drop-same : (n m b : ℕ) → drop n (replicate m b) ≡ replicate (m - n) b
drop-same zero m b = let e : m - 0 ≡ m = omega arith in ap (λ (k : ℕ). replicate k b) (sym e)
drop-same (suc n) zero b = let e : 0 - suc n ≡ 0 = omega arith in ap (λ (k : ℕ). replicate k b) (sym e)
drop-same (suc n) (suc m) b =
    let e : suc m - suc n ≡ m - n = omega arith in drop-same n m b ∙ ap (λ (k : ℕ). replicate k b) (sym e)

pub page-filled : (n : ℕ) (front bytes page : List ℕ) → front ≡ take n bytes
    → page ≡ front ++ drop (length front) (replicate n 255)
    → page ≡ take n bytes ++ replicate (n - length bytes) 255
page-filled n front bytes page is filled =
    filled ∙ ap (λ f. f ++ drop (length f) (replicate n 255)) is
    ∙ ap (λ xs. take n bytes ++ xs) (drop-same (length (take n bytes)) n 255
    ∙ ap (λ m. replicate m 255) (omega (arith, length-take n bytes)))

-- as many bytes as there are, and at most so many
pub front-min : (n count : ℕ) (bs : List ℕ) → count ≡ min (length bs) n → take count bs ≡ take n bs
front-min n count bs is = elim (cases_lt n (length bs)) [
  | inl more ↦ ap (λ k. take k bs) (omega arith)
  | inr few ↦ take_all count bs (omega arith) ∙ sym (take_all n bs few)
]

word-long : (w : ℕ) → length (block_word w) ≡ 4
unfolding block_word
word-long w = refl

zeros-long : (k : ℕ) → length {A = ℕ} (replicate k 0) ≡ k
zeros-long zero = refl
zeros-long (suc k) = ap suc (zeros-long k)

four-long : (a b c d : ℕ) → length (block_word a ++ (block_word b ++ (block_word c ++ block_word d))) ≡ 16
four-long a b c d =
    omega (
      arith,
      length-append (block_word a) (block_word b ++ (block_word c ++ block_word d)),
      length-append (block_word b) (block_word c ++ block_word d),
      length-append (block_word c) (block_word d),
      word-long a,
      word-long b,
      word-long c,
      word-long d,
    )

pub block-long : (b : Uf2) → length b.page ≡ 256 → length (written_block b) ≡ 512
unfolding written_block
block-long b page =
    let rest = b.page ++ (replicate 220 0 ++ block_word END) in
    omega (
      arith,
      page,
      length-append (place_bytes b) (number_bytes b ++ rest),
      length-append (number_bytes b) rest,
      length-append b.page (replicate 220 0 ++ block_word END),
      length-append (replicate 220 0) (block_word END),
      zeros-long 220,
      word-long END,
      four-long START SECOND b.flags b.address,
      four-long PAYLOAD b.number b.count b.family,
    )

-- ---- rows

pub image-other : (row : Row) (values : List ValueView) (token : ℕ) (bytes : List ℕ)
    → (row ≡ rows.ImageBlock → ⊥)
    → made_of_image row values token bytes ≡ made_command row values token bytes
image-other rows.ImageBlock values token bytes other = absurd (other refl)
image-other _ values token bytes other = refl

pub made-rest : (row : Row) (values : List ValueView) (token : ℕ) (image : List ℕ)
    → (row ≡ rows.WriteRange → ⊥) → (row ≡ rows.WriteRest → ⊥) → (row ≡ rows.ImageBlock → ⊥)
    → made row values token image ≡ Some (made_own row values token)
made-rest rows.WriteRange values token image a b c = absurd (a refl)
made-rest rows.WriteRest values token image a b c = absurd (b refl)
made-rest rows.ImageBlock values token image a b c = absurd (c refl)
made-rest _ values token image a b c = refl

-- ---- the words of a payload

word-number : (xs : List ℕ) → word_of xs ≡ little_number 4 xs
unfolding word_of
word-number xs = refl

pub words-step : (vs : List Value) (old : List ValueView) (bs : List ℕ) (k word : ℕ) (new : List Value)
    → 4 * k + 4 ≤ length bs → word ≡ little_number 4 (drop (4 * k) bs) → new ≡ vs ++ rust.Number word ∷ []
    → map value_from vs ≡ old ++ map Number (take k (words_of bs))
    → map value_from new ≡ old ++ map Number (take (k + 1) (words_of bs))
words-step vs old bs k word new few is added so_far =
    let inside : k < length (words_of bs) = omega (arith, length-words_of bs) in
    let here : get_or (words_of bs) k 0 ≡ word = get_or-words_of bs k few ∙ word-number (drop (4 * k) bs) ∙ sym is in
    ap (map value_from) added ∙ map-append value_from vs (rust.Number word ∷ [])
    ∙ ap (λ xs. xs ++ (Number word ∷ [])) so_far
    ∙ append_assoc old (map Number (take k (words_of bs))) (Number word ∷ [])
    ∙ ap (λ xs. old ++ xs) (sym (map-append Number (take k (words_of bs)) (word ∷ [])))
    ∙ ap (λ xs. old ++ map Number xs) (sym (take_more (words_of bs) k 0 inside
    ∙ ap (λ w. take k (words_of bs) ++ (w ∷ [])) here))
