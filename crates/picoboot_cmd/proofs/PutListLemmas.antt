-- What is put, piece by piece.
use Rattle.std.proofs.Common.{◌≡◌, ℕ, ◌+◌, ◌-◌, ◌<◌, ◌≤◌, List, [], ◌∷◌, ◌++◌, length, take, drop, get_or, arith, sym, ap, ◌∙◌, append_assoc}
use Rattle.std.specs.Prelude.{slice_range, slice_index}
use Rattle.std.proofs.lemmas.List.{drop_more, append-nil}
use Rattle.std.proofs.lemmas.Grind.{flat_map-append}
use Rattle.block_codec.specs.Words.{bytes_of, word_bytes}
use Rattle.pico_board.proofs.PieceLemmas.{range-add}

-- a range of one element
one-element : (xs : List ℕ) (s : ℕ) → s < length xs → slice_range xs s (s + 1) ≡ get_or xs s 0 ∷ []
one-element xs s lt =
    let one : s + 1 - s ≡ 1 = omega arith in
    ap (λ n. take n (drop s xs)) one ∙ ap (take 1) (drop_more xs s 0 lt)

-- what is put before a row, and the four bytes of the row
pub row-put : (otp before bytes : List ℕ) (first row value : ℕ) → first ≤ row → row < length otp
    → value ≡ slice_index otp row → bytes ≡ word_bytes value
    → (before ++ bytes_of (slice_range otp first row)) ++ bytes ≡ before ++ bytes_of (slice_range otp first (row + 1))
row-put otp before bytes first row value le lt value_is is =
    let here : first + (row - first) ≡ row = omega arith in
    let next : first + (row - first + 1) ≡ row + 1 = omega arith in
    let more : slice_range otp first (row + 1) ≡ slice_range otp first row ++ (value ∷ []) =
    ap (slice_range otp first) (sym next) ∙ range-add otp first (row - first) 1
    ∙ ap (λ r. slice_range otp first r ++ slice_range otp r (r + 1)) here
    ∙ ap (λ xs. slice_range otp first row ++ xs) (one-element otp row lt ∙ ap (λ v. v ∷ []) (sym value_is)) in
    append_assoc before (bytes_of (slice_range otp first row)) bytes
    ∙ ap (λ bs. before ++ (bytes_of (slice_range otp first row) ++ bs)) (is ∙ sym (append-nil (word_bytes value)))
    ∙ ap (λ bs. before ++ bs) (sym (flat_map-append word_bytes (slice_range otp first row) (value ∷ [])))
    ∙ ap (λ xs. before ++ bytes_of xs) (sym more)
