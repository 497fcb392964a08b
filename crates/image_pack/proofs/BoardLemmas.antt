-- A board with an OTP of zeros.
use Rattle.std.proofs.Common.{◌≡◌, ℕ, ◌^◌, ◌<◌, List, All, length, replicate, refl, sym, ap, subst, ◌∙◌, arith}
use Rattle.std.proofs.lemmas.List.{length-replicate}
use Rattle.std.proofs.lemmas.List.Elements.{All-replicate}
use Rattle.pico_board.specs.declared.mem_board.BoardError.{BoardError}
use Rattle.pico_board.specs.declared.mem_board.BoardError.TheVariants.{BadFlashLength, BadOtpLength, OtpRowWide, Memory}
use Rattle.pico_board.specs.Content.{IsFlashLength}
use Rattle.pico_board.specs.Rows.{IsFirstWide}
use Rattle.image_pack.specs.Faults.{zero_otp}

zeros-length : (n : ℕ) (rows : List ℕ) → rows ≡ replicate n 0 → length rows ≡ n
zeros-length n rows is = ap length is ∙ length-replicate n 0

zeros-narrow : (n : ℕ) (rows : List ℕ) → rows ≡ replicate n 0 → All (λ row. row < 2 ^ 24) rows
zeros-narrow n rows is =
    let P : ℕ → Type 0 = λ row. row < 2 ^ 24 in
    subst (λ (xs : List ℕ). All P xs) (sym is) (All-replicate P n 0 (omega arith))

otp-length : (rows : List ℕ) → rows ≡ zero_otp → length rows ≡ 4096
unfolding zero_otp
otp-length rows is = zeros-length 4096 rows is

otp-narrow : (rows : List ℕ) → rows ≡ zero_otp → All (λ row. row < 2 ^ 24) rows
unfolding zero_otp
otp-narrow rows is = zeros-narrow 4096 rows is

-- the one error that such a board can have
pub only-memory : (e : BoardError) (n : ℕ) (rows : List ℕ) → IsFlashLength n → rows ≡ zero_otp
    → (e ≡ BadFlashLength → IsFlashLength n → ⊥) → (e ≡ BadOtpLength → length rows ≡ 4096 → ⊥)
    → ((row : ℕ) → e ≡ OtpRowWide row → IsFirstWide rows row) → e ≡ Memory
only-memory BadFlashLength n rows flash is a b wide = absurd (a refl flash)
only-memory BadOtpLength n rows flash is a b wide = absurd (b refl (otp-length rows is))
only-memory (OtpRowWide at) n rows flash is a b wide =
    let w = wide at refl in
    let small = otp-narrow rows is at 0 w.inside in
    absurd (omega (arith, w.wide, small))
only-memory Memory n rows flash is a b wide = refl
