-- The half words of a VERSION item.
use Rattle.std.proofs.Common.{◌≡◌, ℕ, zero, suc, ◌+◌, ◌*◌, ◌/◌, ◌%◌, ◌<◌, List, [], ◌∷◌, length, drop, get_or, refl, sym, ap, ◌∙◌, arith, length-drop}
use Rattle.std.proofs.lemmas.List.{get_or-drop}
use Rattle.block_codec.specs.declared.items.Item.{Item}
use Rattle.image_def.specs.Rows.{halves_of, version_tail}

pub length-halves : (ws : List ℕ) → length (halves_of ws) ≡ 2 * length ws
length-halves [] = refl
length-halves (w ∷ ws) = let rest = length-halves ws in omega (arith, rest)

half-low : (ws : List ℕ) (j k : ℕ) → k ≡ 2 * j → get_or (halves_of ws) k 0 ≡ get_or ws j 0 % 65536
half-low [] j k e = refl
half-low (w ∷ ws) zero k e = ap (λ n. get_or (halves_of (w ∷ ws)) n 0) e
half-low (w ∷ ws) (suc j) k e =
    let at : k ≡ suc (suc (2 * j)) = omega arith in
    ap (λ n. get_or (halves_of (w ∷ ws)) n 0) at ∙ half-low ws j (2 * j) refl

half-high : (ws : List ℕ) (j k : ℕ) → k ≡ 2 * j + 1 → get_or (halves_of ws) k 0 ≡ get_or ws j 0 / 65536
half-high [] j k e = refl
half-high (w ∷ ws) zero k e = ap (λ n. get_or (halves_of (w ∷ ws)) n 0) e
half-high (w ∷ ws) (suc j) k e =
    let at : k ≡ suc (suc (2 * j + 1)) = omega arith in
    ap (λ n. get_or (halves_of (w ∷ ws)) n 0) at ∙ half-high ws j (2 * j + 1) refl

pub tail-low : (words : List ℕ) (item : Item) (k m : ℕ) → m ≡ 2 + k / 2 → k % 2 ≡ 0
    → get_or words (item.first + m) 0 % 65536 ≡ get_or (version_tail words item) k 0
tail-low words item k m e even =
    let place : item.first + m ≡ item.first + 2 + k / 2 = omega arith in
    ap (λ n. get_or words n 0 % 65536) place ∙ ap (λ w. w % 65536) (sym (get_or-drop (item.first + 2) words (k / 2) 0))
    ∙ sym (half-low (drop (item.first + 2) words) (k / 2) k (omega arith))

pub tail-high : (words : List ℕ) (item : Item) (k m : ℕ) → m ≡ 2 + k / 2 → k % 2 ≡ 1
    → get_or words (item.first + m) 0 / 65536 ≡ get_or (version_tail words item) k 0
tail-high words item k m e odd =
    let place : item.first + m ≡ item.first + 2 + k / 2 = omega arith in
    ap (λ n. get_or words n 0 / 65536) place ∙ ap (λ w. w / 65536) (sym (get_or-drop (item.first + 2) words (k / 2) 0))
    ∙ sym (half-high (drop (item.first + 2) words) (k / 2) k (omega arith))

pub tail-inside : (words : List ℕ) (item : Item) (k m : ℕ) → m ≡ 2 + k / 2 → item.first + m < length words
    → k < length (version_tail words item)
tail-inside words item k m e lt =
    let long = length-halves (drop (item.first + 2) words) in
    let left = length-drop (item.first + 2) words in
    omega (arith, long, left)
