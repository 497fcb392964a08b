use Rattle.std.proofs.Common.{◌≡◌, ◌*◌, ◌^◌, ◌%◌, ◌≤◌, ℕ, arith, refl, ap, sym, ◌∙◌}
use Rattle.std.proofs.Math.Nat.{pow-le-pow_right}
use Rattle.std.proofs.lemmas.Nat.{and_mask}
use Rattle.std.proofs.lemmas.Bool.{le-leb}
use Rattle.otp_roll.specs.Flags.{slot_size_of}
use Rattle.otp_roll.proofs.flags.slot_size.Goals as goal

size-small : (n : ℕ) → n ≤ 11 → 4096 * 2 ^ n % 4294967296 ≡ 4096 * 2 ^ n
size-small n small = let low : 2 ^ n ≤ 2 ^ 11 =
    pow-le-pow_right {n = 2} (omega arith) {i = n} {j = 11} small in omega arith

size-fits : (n len : ℕ) → n ≤ 11 → 2 * (4096 * 2 ^ n) ≤ len → slot_size_of n len ≡ 4096 * 2 ^ n
size-fits n len small fits = rw (le-leb n 11 small, le-leb (2 * (4096 * 2 ^ n)) len fits) refl

size-read : (n m len : ℕ) → n ≡ m → n ≤ 11 → 2 * (4096 * 2 ^ n % 4294967296) ≤ len
    → 4096 * 2 ^ n % 4294967296 ≡ slot_size_of m len
size-read n m len is small fits =
    let whole = size-small n small in
    whole ∙ sym (size-fits n len small (omega (arith, whole, fits))) ∙ ap (λ k. slot_size_of k len) is

pub returns-then-size-flash_len : goal.returns-then-size-flash_len
returns-then-size-flash_len g c =
    size-read _ _ _ (and_mask c.otp_read-exponent.result 4 ∙ ap (λ v. v % 16) c.otp_read-exponent.ensures.value)
    c.if-exponent-gt11.false
    (omega (arith, c.if-size-flash_len.true, c.flash_len.ensures))
