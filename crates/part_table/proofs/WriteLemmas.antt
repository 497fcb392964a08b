-- What the writers of a table's words keep.
use Rattle.std.proofs.Common.{◌≡◌, ℕ, zero, suc, ◌+◌, ◌-◌, ◌*◌, ◌<◌, ◌≤◌, List, [], ◌∷◌, ◌++◌, length, take, drop, get_or, sym, ◌∙◌, ap, arith, Some, slice_get, append_assoc, length-append}
use Rattle.std.specs.List.{flat_map}
use Rattle.std.proofs.lemmas.List.{append-nil, take_rest, take_more}
use Rattle.std.proofs.lemmas.Grind.{flat_map-append}
use Rattle.std.proofs.lemmas.Option.{none-some, same_Some}
use Rattle.byteorder.specs.Endian.{little_number}
use Rattle.block_codec.specs.Words.{word_of, words_of}
use Rattle.block_codec.proofs.WordLemmas.{get_or-words_of, length-words_of}

-- a word more of the words of bytes
read_word : (bytes : List ℕ) (k word : ℕ) → word ≡ little_number 4 (take (length bytes - 4 * k) (drop (4 * k) bytes))
    → word ≡ word_of (drop (4 * k) bytes)
unfolding word_of
read_word bytes k word is = is ∙ ap (λ bs. little_number 4 bs) (take_rest bytes (4 * k))

pub one_word_more : (first before after bytes : List ℕ) (k word : ℕ) → 4 * k + 4 ≤ length bytes
    → word ≡ little_number 4 (take (length bytes - 4 * k) (drop (4 * k) bytes))
    → before ≡ first ++ take k (words_of bytes) → after ≡ before ++ word ∷ []
    → after ≡ first ++ take (k + 1) (words_of bytes)
one_word_more first before after bytes k word room is so_far pushed =
    let here : get_or (words_of bytes) k 0 ≡ word = get_or-words_of bytes k room ∙ sym (read_word bytes k word is) in
    let within : k < length (words_of bytes) = let long = length-words_of bytes in omega (arith, long) in
    pushed
    ∙ ap (λ ws. ws ++ word ∷ []) so_far
    ∙ append_assoc first (take k (words_of bytes)) (word ∷ [])
    ∙ ap (λ ws. first ++ ws)
    (ap (λ w. take k (words_of bytes) ++ w ∷ []) (sym here) ∙ sym (take_more (words_of bytes) k 0 within))

-- what is written for one element and those before it is a part of what is written for all
pub text_within : {X : Type 0} (text : X → List ℕ) (xs : List X) (i : ℕ) (x : X) → slice_get xs i ≡ Some x
    → length (flat_map text (take i xs)) + length (text x) ≤ length (flat_map text xs)
text_within text [] i x at = absurd (none-some x at)
text_within text (y ∷ ys) zero x at =
    let all : length (text y ++ flat_map text ys) ≡ length (text y) + length (flat_map text ys) =
    length-append (text y) (flat_map text ys) in
    let same : length (text y) ≡ length (text x) = ap (λ z. length (text z)) (same_Some y x at) in
    omega arith
text_within text (y ∷ ys) (suc i) x at =
    let all : length (text y ++ flat_map text ys) ≡ length (text y) + length (flat_map text ys) =
    length-append (text y) (flat_map text ys) in
    let some : length (text y ++ flat_map text (take i ys)) ≡ length (text y) + length (flat_map text (take i ys)) =
    length-append (text y) (flat_map text (take i ys)) in
    let rest : length (flat_map text (take i ys)) + length (text x) ≤ length (flat_map text ys) =
    text_within text ys i x at in
    omega arith

-- how long the text of one element more is
pub text_more : {X : Type 0} (text : X → List ℕ) (xs : List X) (k : ℕ) (x : X) → k < length xs → x ≡ get_or xs k x
    → length (flat_map text (take (k + 1) xs)) ≡ length (flat_map text (take k xs)) + length (text x)
text_more text xs k x lt is =
    ap (λ ys. length (flat_map text ys)) (take_more xs k x lt ∙ ap (λ y. take k xs ++ y ∷ []) (sym is))
    ∙ ap (λ ws. length ws)
    (flat_map-append text (take k xs) (x ∷ []) ∙ ap (λ ws. flat_map text (take k xs) ++ ws) (append-nil (text x)))
    ∙ length-append (flat_map text (take k xs)) (text x)
