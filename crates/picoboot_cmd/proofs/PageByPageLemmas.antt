-- Bytes that are programmed a page at a time.
use Rattle.std.proofs.Common.{◌≡◌, ℕ, suc, ◌+◌, ◌-◌, ◌/◌, ◌<◌, ◌≤◌, List, [], ◌∷◌, ◌++◌, length, replicate, refl, ◌∙◌, ap, ap₂, arith, length-append}
use Rattle.std.proofs.lemmas.List.{take_at, drop_at, take_all, append-nil}
use Rattle.pico_board.specs.declared.Step.TheVariants.{Program}
use Rattle.picoboot_cmd.specs.Pages.{padded_page, programs, programs_of}

filled-whole : (n : ℕ) (first : List ℕ) → length first ≡ n → first ++ replicate (n - length first) 0 ≡ first
filled-whole n first long =
    let none : n - length first ≡ 0 = omega arith in ap (λ k. first ++ replicate k 0) none ∙ append-nil first

filled-page : (first : List ℕ) → length first ≡ 256 → padded_page first ≡ first
unfolding padded_page
filled-page first long = filled-whole 256 first long

filled-spelled : (bytes : List ℕ) → padded_page bytes ≡ bytes ++ replicate (256 - length bytes) 0
unfolding padded_page
filled-spelled bytes = refl

pub programs-page : (page : ℕ) (first rest : List ℕ) → length first ≡ 256
    → programs page (first ++ rest) ≡ Program page first ∷ programs (page + 1) rest
programs-page page first rest long =
    let count : (length (first ++ rest) + 255) / 256 ≡ suc ((length rest + 255) / 256) =
    (let whole = length-append first rest in omega (arith, whole, long)) in
    ap (λ n. programs_of n page (first ++ rest)) count
    ∙ ap₂ (λ piece left. Program page (padded_page piece) ∷ programs_of ((length rest + 255) / 256) (page + 1) left)
    (take_at first rest 256 long) (drop_at first rest 256 long)
    ∙ ap (λ piece. Program page piece ∷ programs (page + 1) rest) (filled-page first long)

pub programs-last : (page : ℕ) (bytes : List ℕ) → 0 < length bytes → length bytes ≤ 256
    → programs page bytes ≡ Program page (bytes ++ replicate (256 - length bytes) 0) ∷ []
programs-last page bytes some few =
    let count : (length bytes + 255) / 256 ≡ 1 = omega arith in
    ap (λ n. programs_of n page bytes) count
    ∙ ap (λ piece. Program page (padded_page piece) ∷ []) (take_all 256 bytes few)
    ∙ ap (λ piece. Program page piece ∷ []) (filled-spelled bytes)
