-- How words and their bytes go into one another, four bytes at a time.
use Rattle.std.proofs.Common.{◌≡◌, ℕ, zero, suc, ◌+◌, ◌*◌, ◌/◌, ◌^◌, ◌<◌, ◌≤◌, true, List, [], ◌∷◌, ◌++◌, length, take, drop, get_or, refl, sym, ap, subst, ◌∙◌, arith, length-append, append_assoc}
use Rattle.byteorder.specs.Numbers.{little_number-reads_back, little_from-lt}
use Rattle.block_codec.specs.Words.{word_bytes, bytes_of, word_of, words_of, AreWords, are_bytes}

-- each element is a byte
abbrev pub AreBytes : List ℕ → Type 0
AreBytes bs = (i : ℕ) → get_or bs i 0 < 256

pub AreBytes-tail : (b : ℕ) (bs : List ℕ) → AreBytes (b ∷ bs) → AreBytes bs
AreBytes-tail b bs h i = h (suc i)

pub AreBytes-take : (n : ℕ) (bs : List ℕ) → AreBytes bs → AreBytes (take n bs)
AreBytes-take zero bs h i = omega arith
AreBytes-take (suc n) [] h i = omega arith
AreBytes-take (suc n) (b ∷ bs) h zero = h 0
AreBytes-take (suc n) (b ∷ bs) h (suc i) = AreBytes-take n bs (AreBytes-tail b bs h) i

pub AreBytes-drop : (n : ℕ) (bs : List ℕ) → AreBytes bs → AreBytes (drop n bs)
AreBytes-drop zero bs h i = h i
AreBytes-drop (suc n) [] h i = omega arith
AreBytes-drop (suc n) (b ∷ bs) h i = AreBytes-drop n bs (AreBytes-tail b bs h) i

-- the test `are_bytes` says that each element is a byte
pub are_bytes-true : (bs : List ℕ) → AreBytes bs → are_bytes bs ≡ true
are_bytes-true [] h = refl
are_bytes-true (b ∷ bs) h =
    let first = h 0 in
    let rest = are_bytes-true bs (AreBytes-tail b bs h) in
    grind (arith, rest, first)

pub AreBytes-from_test : (bs : List ℕ) → are_bytes bs ≡ true → AreBytes bs
AreBytes-from_test [] h i = omega arith
AreBytes-from_test (b ∷ bs) h zero = grind arith
AreBytes-from_test (b ∷ bs) h (suc i) = AreBytes-from_test bs (grind arith) i

-- a word has four bytes
pub length-word_bytes : (w : ℕ) → length (word_bytes w) ≡ 4
unfolding word_bytes
length-word_bytes w = refl

pub AreBytes-word_bytes : (w : ℕ) (bs : List ℕ) → AreBytes bs → AreBytes (word_bytes w ++ bs)
unfolding word_bytes
AreBytes-word_bytes w bs h zero = omega arith
AreBytes-word_bytes w bs h (suc zero) = omega arith
AreBytes-word_bytes w bs h (suc (suc zero)) = omega arith
AreBytes-word_bytes w bs h (suc (suc (suc zero))) = omega arith
AreBytes-word_bytes w bs h (suc (suc (suc (suc i)))) = h i

pub AreBytes-bytes_of : (ws : List ℕ) → AreBytes (bytes_of ws)
AreBytes-bytes_of [] i = omega arith
AreBytes-bytes_of (w ∷ ws) i = AreBytes-word_bytes w (bytes_of ws) (AreBytes-bytes_of ws) i

-- the bytes of a word read as that word
pub word_of-word_bytes : (w : ℕ) (bs : List ℕ) → w < 2 ^ 32 → word_of (word_bytes w ++ bs) ≡ w
unfolding word_bytes word_of
word_of-word_bytes w bs h = little_number-reads_back 4 w bs h

pub word_of-lt : (bs : List ℕ) → AreBytes bs → word_of bs < 2 ^ 32
unfolding word_of
word_of-lt bs h = little_from-lt 0 4 bs h

-- a word reads the first four bytes alone
pub word_of-append : (a b c d : ℕ) (bs : List ℕ) → word_of (a ∷ b ∷ c ∷ d ∷ bs) ≡ word_of (a ∷ b ∷ c ∷ d ∷ [])
unfolding word_of
word_of-append a b c d bs = refl

words_of-cells : (w : ℕ) (bs : List ℕ) → words_of (word_bytes w ++ bs) ≡ word_of (word_bytes w ++ []) ∷ words_of bs
unfolding word_bytes
words_of-cells w bs = refl

four_cells : (x y z w a b c d : ℕ) → x ≡ a → y ≡ b → z ≡ c → w ≡ d → x ∷ y ∷ z ∷ w ∷ [] ≡ a ∷ b ∷ c ∷ d ∷ []
four_cells x y z w a b c d e f g h = cc

-- the bytes of the word in four bytes are those bytes
pub word_bytes-word_of : (a b c d : ℕ) → a < 256 → b < 256 → c < 256 → d < 256
    → word_bytes (word_of (a ∷ b ∷ c ∷ d ∷ [])) ≡ a ∷ b ∷ c ∷ d ∷ []
unfolding word_bytes word_of
word_bytes-word_of a b c d ha hb hc hd =
    four_cells _ _ _ _ a b c d (omega arith) (omega arith) (omega arith) (omega arith)

pub length-bytes_of : (ws : List ℕ) → length (bytes_of ws) ≡ 4 * length ws
length-bytes_of [] = refl
length-bytes_of (w ∷ ws) =
    length-append (word_bytes w) (bytes_of ws)
    ∙ (rw length-word_bytes (let ih = length-bytes_of ws in omega (arith, ih)))

pub length-words_of : (bs : List ℕ) → length (words_of bs) ≡ length bs / 4
length-words_of [] = refl
length-words_of (a ∷ []) = omega arith
length-words_of (a ∷ b ∷ []) = omega arith
length-words_of (a ∷ b ∷ c ∷ []) = omega arith
length-words_of (a ∷ b ∷ c ∷ d ∷ bs) = let ih = length-words_of bs in omega (arith, ih)

-- the word at a place of the bytes
pub get_or-words_of : (bs : List ℕ) (k : ℕ) → 4 * k + 4 ≤ length bs
    → get_or (words_of bs) k 0 ≡ word_of (drop (4 * k) bs)
get_or-words_of [] k h = absurd (omega arith)
get_or-words_of (a ∷ []) k h = absurd (omega arith)
get_or-words_of (a ∷ b ∷ []) k h = absurd (omega arith)
get_or-words_of (a ∷ b ∷ c ∷ []) k h = absurd (omega arith)
get_or-words_of (a ∷ b ∷ c ∷ d ∷ bs) zero h = sym (word_of-append a b c d bs)
get_or-words_of (a ∷ b ∷ c ∷ d ∷ bs) (suc k) h =
    let e : 4 * suc k ≡ suc (suc (suc (suc (4 * k)))) = omega arith in
    rw e (get_or-words_of bs k (omega arith))

words_of-word : (w : ℕ) (bs : List ℕ) → w < 2 ^ 32 → words_of (word_bytes w ++ bs) ≡ w ∷ words_of bs
words_of-word w bs h = words_of-cells w bs ∙ ap (λ x. x ∷ words_of bs) (word_of-word_bytes w [] h)

-- bytes that begin with those of words read as these words
pub words_of-append : (ws bs : List ℕ) → AreWords ws → words_of (bytes_of ws ++ bs) ≡ ws ++ words_of bs
words_of-append [] bs h = refl
words_of-append (w ∷ ws) bs h =
    ap words_of (append_assoc (word_bytes w) (bytes_of ws) bs)
    ∙ words_of-word w (bytes_of ws ++ bs) h.0 ∙ ap (λ xs. w ∷ xs) (words_of-append ws bs h.1)

pub words_of-take : (n : ℕ) (bs : List ℕ) → words_of (take (4 * n) bs) ≡ take n (words_of bs)
words_of-take zero bs = refl
words_of-take (suc n) [] = let e : 4 * suc n ≡ suc (suc (suc (suc (4 * n)))) = omega arith in rw e refl
words_of-take (suc n) (a ∷ []) = let e : 4 * suc n ≡ suc (suc (suc (suc (4 * n)))) = omega arith in rw e refl
words_of-take (suc n) (a ∷ b ∷ []) = let e : 4 * suc n ≡ suc (suc (suc (suc (4 * n)))) = omega arith in rw e refl
words_of-take (suc n) (a ∷ b ∷ c ∷ []) = let e : 4 * suc n ≡ suc (suc (suc (suc (4 * n)))) = omega arith in rw e refl
words_of-take (suc n) (a ∷ b ∷ c ∷ d ∷ bs) =
    let e : 4 * suc n ≡ suc (suc (suc (suc (4 * n)))) = omega arith in
    rw e (ap (λ ws. word_of (a ∷ b ∷ c ∷ d ∷ []) ∷ ws) (words_of-take n bs))

pub words_of-drop : (n : ℕ) (bs : List ℕ) → words_of (drop (4 * n) bs) ≡ drop n (words_of bs)
words_of-drop zero bs = refl
words_of-drop (suc n) [] = let e : 4 * suc n ≡ suc (suc (suc (suc (4 * n)))) = omega arith in rw e refl
words_of-drop (suc n) (a ∷ []) = let e : 4 * suc n ≡ suc (suc (suc (suc (4 * n)))) = omega arith in rw e refl
words_of-drop (suc n) (a ∷ b ∷ []) = let e : 4 * suc n ≡ suc (suc (suc (suc (4 * n)))) = omega arith in rw e refl
words_of-drop (suc n) (a ∷ b ∷ c ∷ []) = let e : 4 * suc n ≡ suc (suc (suc (suc (4 * n)))) = omega arith in rw e refl
words_of-drop (suc n) (a ∷ b ∷ c ∷ d ∷ bs) =
    let e : 4 * suc n ≡ suc (suc (suc (suc (4 * n)))) = omega arith in
    rw e (words_of-drop n bs)

-- the bytes of the first n words are the first bytes
pub bytes_of-words_of : (n : ℕ) (bs : List ℕ) → 4 * n ≤ length bs → AreBytes (take (4 * n) bs)
    → bytes_of (take n (words_of bs)) ≡ take (4 * n) bs
bytes_of-words_of zero bs h bytes = refl
bytes_of-words_of (suc n) [] h bytes = absurd (omega arith)
bytes_of-words_of (suc n) (a ∷ []) h bytes = absurd (omega arith)
bytes_of-words_of (suc n) (a ∷ b ∷ []) h bytes = absurd (omega arith)
bytes_of-words_of (suc n) (a ∷ b ∷ c ∷ []) h bytes = absurd (omega arith)
bytes_of-words_of (suc n) (a ∷ b ∷ c ∷ d ∷ bs) h bytes =
    let e : 4 * suc n ≡ suc (suc (suc (suc (4 * n)))) = omega arith in
    let all : AreBytes (a ∷ b ∷ c ∷ d ∷ take (4 * n) bs) =
    subst (λ m. AreBytes (take m (a ∷ b ∷ c ∷ d ∷ bs))) e bytes in
    let ih = bytes_of-words_of n bs (omega arith) (λ i. all (suc (suc (suc (suc i))))) in
    rw e (ap (λ xs. xs ++ bytes_of (take n (words_of bs))) (word_bytes-word_of a b c d (all 0) (all 1) (all 2) (all 3))
    ∙ ap (λ xs. a ∷ b ∷ c ∷ d ∷ xs) ih)

pub AreWords-words_of : (bs : List ℕ) → AreBytes bs → AreWords (words_of bs)
AreWords-words_of [] h = tt
AreWords-words_of (a ∷ []) h = tt
AreWords-words_of (a ∷ b ∷ []) h = tt
AreWords-words_of (a ∷ b ∷ c ∷ []) h = tt
AreWords-words_of (a ∷ b ∷ c ∷ d ∷ bs) h = (
  let e = word_of-append a b c d bs in let lt = word_of-lt (a ∷ b ∷ c ∷ d ∷ bs) h in
      rw e at lt,
  AreWords-words_of bs (λ i. h (suc (suc (suc (suc i))))),
)
