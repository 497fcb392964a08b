-- The words between blanks, one after another.
use Rattle.std.proofs.Common.{◌≡◌, ℕ, zero, suc, ◌-◌, ◌<◌, ◌≤◌, true, false, List, [], ◌∷◌, ◌++◌, length, take, drop, get_or, map, refl, sym, ap, ◌∙◌, arith, append_assoc, length-append, length-drop, inl, inr}
use Rattle.std.specs.Prelude.{filter}
use Rattle.std.proofs.lemmas.Bool.{cases_lt}
use Rattle.std.proofs.lemmas.List.{take_all, drop_all}
use Rattle.std.proofs.lemmas.List.{map-append}
use Rattle.script_words.specs.declared.splitting.Word.{Word}
use Rattle.script_words.specs.Splitting.{word_bytes, words_in, before_mark, blank_at, blank_words, has_byte, in_first, is_blank, pieces}

pub piece-blank : (b : ℕ) (bs : List ℕ) → is_blank b ≡ true → pieces (b ∷ bs) ≡ [] ∷ pieces bs
piece-blank b bs is = rw is refl

pub piece-more : (b : ℕ) (bs : List ℕ) → is_blank b ≡ false → pieces (b ∷ bs) ≡ in_first b (pieces bs)
piece-more b bs is = rw is refl

-- blanks in front do not count
pub words-skip : (bs : List ℕ) (k : ℕ) → k ≤ length bs → ((j : ℕ) → j < k → blank_at bs j ≡ true)
    → blank_words bs ≡ blank_words (drop k bs)
words-skip bs zero few all = refl
words-skip [] (suc k) few all = absurd (omega (arith, few))
words-skip (b ∷ bs) (suc k) few all =
    ap (filter has_byte) (piece-blank b bs (all 0 (omega arith)))
    ∙ words-skip bs k (omega (arith, few)) (λ j lt. all (suc j) (omega (arith, lt)))

-- the first piece ends at the first blank
pub piece-first : (bs : List ℕ) (k : ℕ) → k < length bs → blank_at bs k ≡ true
    → ((j : ℕ) → j < k → blank_at bs j ≡ false) → pieces bs ≡ take k bs ∷ pieces (drop (suc k) bs)
piece-first [] k few is none = absurd (omega (arith, few))
piece-first (b ∷ bs) zero few is none = piece-blank b bs is
piece-first (b ∷ bs) (suc k) few is none =
    piece-more b bs (none 0 (omega arith))
    ∙ ap (in_first b) (piece-first bs k (omega (arith, few)) is (λ j lt. none (suc j) (omega (arith, lt))))

-- without a blank there is one piece
pub piece-only : (bs : List ℕ) → ((j : ℕ) → j < length bs → blank_at bs j ≡ false) → pieces bs ≡ bs ∷ []
piece-only [] none = refl
piece-only (b ∷ bs) none =
    piece-more b bs (none 0 (omega arith))
    ∙ ap (in_first b) (piece-only bs (λ j lt. none (suc j) (omega (arith, lt))))

-- a first word and those behind its blank
pub word-first : (bs : List ℕ) (k : ℕ) → 0 < k → k < length bs → blank_at bs k ≡ true
    → ((j : ℕ) → j < k → blank_at bs j ≡ false)
    → blank_words bs ≡ take k bs ∷ blank_words (drop k bs)
word-first [] k some few is none = absurd (omega (arith, few))
word-first (b ∷ bs) zero some few is none = absurd (omega (arith, some))
word-first (b ∷ bs) (suc k) some few is none =
    ap (filter has_byte) (piece-first (b ∷ bs) (suc k) few is none)
    ∙ ap (λ ws. take (suc k) (b ∷ bs) ∷ ws) (sym (behind bs k (omega (arith, few)) is))
  where
    behind : (cs : List ℕ) (i : ℕ) → i < length cs → blank_at cs i ≡ true
        → blank_words (drop i cs) ≡ blank_words (drop (suc i) cs)
    behind [] i lt blank = absurd (omega (arith, lt))
    behind (c ∷ cs) zero lt blank = ap (filter has_byte) (piece-blank c cs blank)
    behind (c ∷ cs) (suc i) lt blank = behind cs i (omega (arith, lt)) blank

pub word-only : (bs : List ℕ) → 0 < length bs → ((j : ℕ) → j < length bs → blank_at bs j ≡ false)
    → blank_words bs ≡ bs ∷ []
word-only [] some none = absurd (omega (arith, some))
word-only (b ∷ bs) some none = ap (filter has_byte) (piece-only (b ∷ bs) none)

-- ---- the next word

first-drop : (bs : List ℕ) (k : ℕ) → get_or (drop k bs) 0 0 ≡ get_or bs k 0
first-drop bs zero = refl
first-drop [] (suc k) = refl
first-drop (b ∷ bs) (suc k) = first-drop bs k

some-end : (rest : List ℕ) (end : ℕ) → 0 < length rest → blank_at rest 0 ≡ false
    → (end < length rest → blank_at rest end ≡ true) → 0 < end
some-end rest zero some first next = absurd (cc (sym first ∙ next some))
some-end rest (suc end) some first next = omega arith

-- the word behind blanks, and what follows it
pub word-next : (text rest more : List ℕ) (start end : ℕ) → start < length text
    → ((j : ℕ) → j < start → blank_at text j ≡ true) → blank_at text start ≡ false → rest ≡ drop start text
    → end ≤ length rest → ((j : ℕ) → j < end → blank_at rest j ≡ false)
    → (end < length rest → blank_at rest end ≡ true) → more ≡ drop end rest
    → blank_words text ≡ take end rest ∷ blank_words more
word-next text rest more start end inside blanks other is few bytes next is_more =
    let some : 0 < length rest = omega (arith, ap length is, length-drop start text) in
    let first : blank_at rest 0 ≡ false = ap (λ xs. blank_at xs 0) is ∙ ap is_blank (first-drop text start) ∙ other in
    let one = some-end rest end some first next in
    words-skip text start (omega (arith, inside)) blanks ∙ ap blank_words (sym is)
    ∙ elim (cases_lt end (length rest)) [
      | inl lt ↦ word-first rest end one lt (next lt) bytes ∙ ap (λ m. take end rest ∷ blank_words m) (sym is_more)
      | inr whole ↦
          word-only rest some (λ j lt. bytes j (omega arith))
          ∙ ap (λ w. w ∷ []) (sym (take_all end rest whole))
          ∙ ap (λ m. take end rest ∷ blank_words m) (sym (is_more ∙ drop_all end rest whole))
    ]

-- without a word there are blanks alone
pub word-none : (text : List ℕ) (start : ℕ) → start ≡ length text
    → ((j : ℕ) → j < start → blank_at text j ≡ true) → blank_words text ≡ []
word-none text start is blanks =
    words-skip text start (omega arith) blanks ∙ ap blank_words (drop_all start text (omega arith))

-- one word more
pub split-step : (n : ℕ) (ws : List Word) (text rest : List ℕ) (word : Word) (all : List (List ℕ))
    → length ws < n → blank_words text ≡ word_bytes word ∷ blank_words rest
    → all ≡ map word_bytes ws ++ take (n - length ws) (blank_words text)
    → all ≡ map word_bytes (ws ++ word ∷ []) ++ take (n - length (ws ++ word ∷ [])) (blank_words rest)
split-step n ws text rest word all few next so_far =
    let left : n - length ws ≡ suc (n - length (ws ++ word ∷ [])) =
    omega (arith, length-append ws (word ∷ [])) in
    so_far ∙ ap (λ xs. map word_bytes ws ++ take (n - length ws) xs) next
    ∙ ap (λ k. map word_bytes ws ++ take k (word_bytes word ∷ blank_words rest)) left
    ∙ sym (append_assoc (map word_bytes ws) (word_bytes word ∷ []) (take (n - length (ws ++ word ∷ [])) (blank_words rest)))
    ∙ ap (λ xs. xs ++ take (n - length (ws ++ word ∷ [])) (blank_words rest)) (sym (map-append word_bytes ws (word ∷ [])))

pub split-next : (n : ℕ) (ws new : List Word) (word : Word) (text rest : List ℕ) (all : List (List ℕ))
    → length ws < n → new ≡ ws ++ word ∷ [] → blank_words text ≡ word_bytes word ∷ blank_words rest
    → all ≡ map word_bytes ws ++ take (n - length ws) (blank_words text)
    → all ≡ map word_bytes new ++ take (n - length new) (blank_words rest)
split-next n ws new word text rest all few added next so_far =
    rw added (split-step n ws text rest word all few next so_far)

-- no word yet
pub split-start : (n : ℕ) (ws : List Word) (before line : List ℕ) → ws ≡ [] → before ≡ before_mark 35 line
    → take n (words_in line) ≡ map word_bytes ws ++ take (n - length ws) (blank_words before)
split-start n ws before line none is =
    let all : n - length ws ≡ n = omega (arith, ap length none) in
    sym (ap (λ vs. map word_bytes vs ++ take (n - length ws) (blank_words before)) none
    ∙ ap (λ k. take k (blank_words before)) all ∙ ap (λ b. take n (blank_words b)) is)
