-- What steps make of one byte of the flash.
use Rattle.std.proofs.Common.{◌≡◌, inl, inr, ℕ, ◌-◌, ◌*◌, ◌/◌, ◌%◌, ◌<◌, true, ◌==◌, List, [], ◌∷◌, ◌++◌, length, get_or, refl, sym, ap, ◌∙◌, arith}
use Rattle.std.specs.Prelude.{if◌then◌else◌, bit_and, slice_index}
use Rattle.std.proofs.lemmas.Bool.Decides.{nat_tests}
use Rattle.std.proofs.lemmas.Bool.{cases_eq, ne_eqb}
use Rattle.pico_board.specs.declared.Step.{Step}
use Rattle.pico_board.specs.declared.Step.TheVariants.{Erase, Program, Raise}
use Rattle.pico_board.specs.Content.{Content}
use Rattle.pico_board.specs.Steps.{after, after_all}
use Rattle.pico_board.proofs.ChangedLemmas.{changed-inside, changed-outside, length-changed}

-- what an erase and a program make of byte k
abbrev pub erased : ℕ → ℕ → ℕ → ℕ
erased k sector b = if k / 4096 == sector then 255 else b

abbrev pub programmed : ℕ → ℕ → List ℕ → ℕ → ℕ
programmed k page bytes b = if k / 256 == page then bit_and b (slice_index bytes (k % 256)) else b

-- what steps make of byte k
abbrev pub byte_after : ℕ → List Step → ℕ → ℕ
byte_after k [] b = b
byte_after k (Erase s ∷ steps) b = byte_after k steps (erased k s b)
byte_after k (Program p d ∷ steps) b = byte_after k steps (programmed k p d b)
byte_after k (Raise r x ∷ steps) b = byte_after k steps b

pub byte_after-append : (k : ℕ) (xs ys : List Step) (b : ℕ)
    → byte_after k (xs ++ ys) b ≡ byte_after k ys (byte_after k xs b)
byte_after-append k [] ys b = refl
byte_after-append k (Erase s ∷ xs) ys b = byte_after-append k xs ys (erased k s b)
byte_after-append k (Program p d ∷ xs) ys b = byte_after-append k xs ys (programmed k p d b)
byte_after-append k (Raise r x ∷ xs) ys b = byte_after-append k xs ys b

test-here : (x y : ℕ) → x ≡ y → (x == y) ≡ true
test-here x y e = grind (arith, nat_tests, e)

erase-byte : (k s : ℕ) (c : Content) → k < length c.flash
    → get_or (after c (Erase s)).flash k 0 ≡ erased k s (get_or c.flash k 0)
erase-byte k s c lt = elim (cases_eq (k / 4096) s) [
  | inl here ↦
      changed-inside (λ i b. 255) (4096 * s) 4096 c.flash k (omega (arith, here)) (omega (arith, here)) lt
      ∙ sym (ap (λ t. if t then 255 else get_or c.flash k 0) (test-here (k / 4096) s here))
  | inr away ↦
      changed-outside (λ i b. 255) (4096 * s) 4096 c.flash k (grind (arith, away))
      ∙ sym (ap (λ t. if t then 255 else get_or c.flash k 0) (ne_eqb (k / 4096) s away))
]

program-byte : (k p : ℕ) (d : List ℕ) (c : Content) → k < length c.flash
    → get_or (after c (Program p d)).flash k 0 ≡ programmed k p d (get_or c.flash k 0)
program-byte k p d c lt = elim (cases_eq (k / 256) p) [
  | inl here ↦
      let place : k - 256 * p ≡ k % 256 = omega (arith, here) in
      changed-inside (λ i b. bit_and b (slice_index d i)) (256 * p) 256 c.flash k (omega (arith, here))
      (omega (arith, here)) lt
      ∙ ap (λ i. bit_and (get_or c.flash k 0) (slice_index d i)) place
      ∙ sym (ap (λ t. if t then bit_and (get_or c.flash k 0) (slice_index d (k % 256)) else get_or c.flash k 0)
      (test-here (k / 256) p here))
  | inr away ↦
      changed-outside (λ i b. bit_and b (slice_index d i)) (256 * p) 256 c.flash k (grind (arith, away))
      ∙ sym (ap (λ t. if t then bit_and (get_or c.flash k 0) (slice_index d (k % 256)) else get_or c.flash k 0)
      (ne_eqb (k / 256) p away))
]

-- a byte of the flash after steps
pub byte-is : (k : ℕ) (c : Content) (steps : List Step) → k < length c.flash
    → get_or (after_all c steps).flash k 0 ≡ byte_after k steps (get_or c.flash k 0)
byte-is k c [] lt = refl
byte-is k c (Erase s ∷ steps) lt =
    byte-is k (after c (Erase s)) steps (omega (arith, lt, length-changed (λ i b. 255) (4096 * s) 4096 c.flash))
    ∙ ap (byte_after k steps) (erase-byte k s c lt)
byte-is k c (Program p d ∷ steps) lt =
    byte-is k (after c (Program p d)) steps
    (omega (arith, lt, length-changed (λ i b. bit_and b (slice_index d i)) (256 * p) 256 c.flash))
    ∙ ap (byte_after k steps) (program-byte k p d c lt)
byte-is k c (Raise r x ∷ steps) lt = byte-is k (after c (Raise r x)) steps lt
