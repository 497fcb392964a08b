-- By the length and the first byte.
use Rattle.std.proofs.Common.{◌≡◌, ℕ, suc, ◌<◌, ◌∷◌, refl, ap, ◌∙◌, arith}
use Rattle.std.specs.Prelude.{replicate}
use Rattle.std.proofs.lemmas.List.{length-replicate}
use Rattle.std.proofs.lemmas.List.Elements.{All-cons, All-head, All-replicate}
use Rattle.ram_start.specs.Sram.{IsSram, zero_ram}
use Rattle.ram_start.proofs.RamLemmas.{zeros-right}
use Rattle.ram_start.proofs.examples.what_the_sram_is.Goals as goal

short : (n : ℕ) → n < 532480 → IsSram (replicate n 0) → ⊥
short n low is = let a = length-replicate {A = ℕ} n 0 in let b = is.long in omega (arith, a, b)

long : (n : ℕ) → 532480 < n → IsSram (replicate n 0) → ⊥
long n high is = let a = length-replicate {A = ℕ} n 0 in let b = is.long in omega (arith, a, b)

greatest : (n : ℕ) → suc n ≡ 532480 → IsSram (255 ∷ replicate n 0)
greatest n e = record {
  long = ap suc (length-replicate n 0) ∙ e;
  bytes = All-cons (λ b. b < 256) 255 (replicate n 0) (omega arith)
      (All-replicate (λ b. b < 256) n 0 (omega arith));
}

past : (n : ℕ) → IsSram (256 ∷ replicate n 0) → ⊥
past n is = let low = All-head (λ b. b < 256) 256 (replicate n 0) is.bytes in omega (arith, low)

pub returns-clause-zeros : goal.returns-clause-zeros
unfolding zero_ram
returns-clause-zeros c = zeros-right 532480 zero_ram refl refl

pub returns-clause-shorter : goal.returns-clause-shorter
returns-clause-shorter c = short 532479 (omega arith)

pub returns-clause-longer : goal.returns-clause-longer
returns-clause-longer c = long 532481 (omega arith)

pub returns-clause-greatest : goal.returns-clause-greatest
returns-clause-greatest c = greatest 532479 refl

pub returns-clause-no_byte : goal.returns-clause-no_byte
returns-clause-no_byte c = past 532479
