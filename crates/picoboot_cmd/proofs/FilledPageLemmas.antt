-- A page that bytes are written over the front of.
use Rattle.std.proofs.Common.{◌≡◌, ℕ, ◌-◌, List, ◌++◌, length, take, drop, replicate, min, ◌∙◌, ap, arith}
use Rattle.std.proofs.lemmas.List.{drop-replicate, take_min}
use Rattle.picoboot_cmd.specs.Pages.{padded_page}

over-zeros : (bytes piece : List ℕ) (m n : ℕ) → m ≡ min (length bytes) n
    → piece ≡ take m bytes ++ drop (length (take m bytes)) (replicate n 0)
    → piece ≡ take n bytes ++ replicate (n - length (take n bytes)) 0
over-zeros bytes piece m n least is =
    let same : take m bytes ≡ take n bytes = ap (λ k. take k bytes) (omega (arith, least)) ∙ take_min n bytes in
    is ∙ ap (λ xs. xs ++ drop (length xs) (replicate n 0)) same
    ∙ ap (λ zeros. take n bytes ++ zeros) (drop-replicate (length (take n bytes)) n 0)

pub page-filled : (bytes page : List ℕ) (m : ℕ) → m ≡ min (length bytes) 256
    → page ≡ take m bytes ++ drop (length (take m bytes)) (replicate 256 0) → page ≡ padded_page (take 256 bytes)
unfolding padded_page
page-filled bytes page m least is = over-zeros bytes page m 256 least is
