-- The one error of a board that is made of files with their forms.
use Rattle.std.proofs.Common.{ℕ, ◌≡◌, ◌^◌, ◌<◌, List, [], All, ◌-◌, ◌++◌, length, replicate, ◌∙◌, ap, sym, subst, refl, arith}
use Rattle.std.proofs.lemmas.List.Elements.{All-append, All-replicate}
use Rattle.pico_board.specs.declared.mem_board.BoardError.{BoardError}
use Rattle.pico_board.specs.declared.mem_board.BoardError.TheVariants.{BadFlashLength, BadOtpLength, OtpRowWide, Memory}
use Rattle.pico_board.specs.Content.{IsFlashLength}
use Rattle.pico_board.specs.Rows.{IsFirstWide}
use Rattle.cli_inputs.specs.Forms.{otp_of}

pub only-memory : (e : BoardError) (n m : ℕ) (rows : List ℕ) → IsFlashLength n → m ≡ 4096
    → All (λ row. row < 2 ^ 24) rows
    → (e ≡ BadFlashLength → IsFlashLength n → ⊥) → (e ≡ BadOtpLength → m ≡ 4096 → ⊥)
    → ((row : ℕ) → e ≡ OtpRowWide row → IsFirstWide rows row) → e ≡ Memory
only-memory BadFlashLength n m rows flash otp narrow a b wide = absurd (a refl flash)
only-memory BadOtpLength n m rows flash otp narrow a b wide = absurd (b refl otp)
only-memory (OtpRowWide row) n m rows flash otp narrow a b wide = let w = wide row refl in let small =
    narrow row (0) w.inside in absurd (omega (arith, w.wide, small))
only-memory Memory n m rows flash otp narrow a b wide = refl

-- rows of 24 bits, filled with 0
pub narrow-padded : (rows more : List ℕ) (n : ℕ) → All (λ row. row < 2 ^ 24) rows → more ≡ rows ++ replicate n 0
    → All (λ row. row < 2 ^ 24) more
narrow-padded rows more n narrow is =
    let P : ℕ → Type 0 = λ row. row < 2 ^ 24 in
    subst (All P) (sym is) (All-append P rows (replicate n 0) narrow (All-replicate P n 0 (omega arith)))

-- an OTP of zeros is that of an empty file
pub no-rows : (none rows : List ℕ) → none ≡ [] → rows ≡ none ++ replicate (4096 - length none) 0 → rows ≡ otp_of []
unfolding otp_of
no-rows none rows empty is = is ∙ ap (λ xs. xs ++ replicate (4096 - length xs) 0) empty
