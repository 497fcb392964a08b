-- A number in decimal, by its last digit, and how long it is.
use Rattle.std.proofs.Common.{◌≡◌, ℕ, ◌+◌, ◌/◌, ◌%◌, ◌^◌, ◌<◌, ◌≤◌, false, [], ◌∷◌, ◌++◌, length, decimal, refl, ap, ◌∙◌, arith, length-append}
use Rattle.std.specs.Fmt.{digit_glyph}
use Rattle.std.proofs.lemmas.Bool.{lt-ltb}
use Rattle.std.proofs.lemmas.Fmt.{decimal_digit, decimal_step, length-decimal-le}

glyph_low : (n : ℕ) → n < 10 → 48 + n ≡ digit_glyph false n
glyph_low n small = rw (lt-ltb n 10 small) refl

pub decimal_last : (n : ℕ) → n < 10 → decimal n ≡ digit_glyph false n ∷ []
decimal_last n small = decimal_digit n small ∙ ap (λ d. d ∷ []) (glyph_low n small)

pub decimal_more : (n : ℕ) → 10 ≤ n → n < 2 ^ 64
    → decimal n ≡ decimal (n / 10) ++ (digit_glyph false (n % 10) ∷ [])
decimal_more n large most =
    decimal_step n large most ∙ ap (λ d. decimal (n / 10) ++ (d ∷ [])) (glyph_low (n % 10) (omega arith))

pub length_more : (n : ℕ) → 10 ≤ n → n < 2 ^ 64 → length (decimal n) ≡ length (decimal (n / 10)) + 1
length_more n large most =
    ap length (decimal_more n large most) ∙ length-append (decimal (n / 10)) (digit_glyph false (n % 10) ∷ [])

pub length_number : (n : ℕ) → n < 2 ^ 32 → length (decimal n) ≤ 10
length_number n small = length-decimal-le 10 n (omega arith) (omega arith) (omega arith)

pub length_short : (n : ℕ) → n < 2 ^ 16 → length (decimal n) ≤ 5
length_short n small = length-decimal-le 5 n (omega arith) (omega arith) (omega arith)
