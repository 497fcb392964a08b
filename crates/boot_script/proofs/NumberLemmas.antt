-- Little-endian numbers of four bytes and of two.
use Rattle.std.proofs.Common.{◌≡◌, ℕ, zero, suc, ◌+◌, ◌*◌, ◌/◌, ◌%◌, ◌<◌, ◌≤◌, List, [], ◌∷◌, length, take, drop, get_or, arith, refl}
use Rattle.byteorder.specs.Endian.{little_number, little_bytes}

abbrev pub AreBytes : List ℕ → Type 0
AreBytes xs = (i : ℕ) → get_or xs i 0 < 256

pub word-cells : (a b c d : ℕ) → a < 256 → b < 256 → c < 256 → d < 256
    → little_bytes 4 (a + 256 * (b + 256 * (c + 256 * (d + 0)))) ≡ a ∷ b ∷ c ∷ d ∷ []
word-cells a b c d a_low b_low c_low d_low =
    let first : (a + 256 * (b + 256 * (c + 256 * (d + 0)))) % 256 ≡ a = omega arith in
    let second : (a + 256 * (b + 256 * (c + 256 * (d + 0)))) / 256 % 256 ≡ b = omega arith in
    let third : (a + 256 * (b + 256 * (c + 256 * (d + 0)))) / 65536 % 256 ≡ c = omega arith in
    let fourth : (a + 256 * (b + 256 * (c + 256 * (d + 0)))) / 16777216 % 256 ≡ d = omega arith in
    rw (first, second, third, fourth) refl

pub word-back : (xs : List ℕ) → 4 ≤ length xs → AreBytes xs → little_bytes 4 (little_number 4 xs) ≡ take 4 xs
word-back [] long bytes = absurd (omega arith)
word-back (a ∷ []) long bytes = absurd (omega arith)
word-back (a ∷ b ∷ []) long bytes = absurd (omega arith)
word-back (a ∷ b ∷ c ∷ []) long bytes = absurd (omega arith)
word-back (a ∷ b ∷ c ∷ d ∷ xs) long bytes = word-cells a b c d (bytes 0) (bytes 1) (bytes 2) (bytes 3)

pub half-cells : (a b : ℕ) → a < 256 → b < 256 → little_bytes 2 (a + 256 * (b + 0)) ≡ a ∷ b ∷ []
half-cells a b a_low b_low =
    let first : (a + 256 * (b + 0)) % 256 ≡ a = omega arith in
    let second : (a + 256 * (b + 0)) / 256 % 256 ≡ b = omega arith in
    rw (first, second) refl

pub half-back : (xs : List ℕ) → 2 ≤ length xs → AreBytes xs → little_bytes 2 (little_number 2 xs) ≡ take 2 xs
half-back [] long bytes = absurd (omega arith)
half-back (a ∷ []) long bytes = absurd (omega arith)
half-back (a ∷ b ∷ xs) long bytes = half-cells a b (bytes 0) (bytes 1)

pub bytes-drop : (n : ℕ) (xs : List ℕ) → AreBytes xs → AreBytes (drop n xs)
bytes-drop zero xs bytes = bytes
bytes-drop (suc n) [] bytes = bytes
bytes-drop (suc n) (x ∷ xs) bytes = bytes-drop n xs (λ i. bytes (suc i))
