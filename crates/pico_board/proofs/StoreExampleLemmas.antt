-- The worked examples of writes.
use Rattle.std.proofs.Common.{◌≡◌, ◌≢◌, ℕ, Option, None, Some, List, [], ◌∷◌, slice_index, ap, arith}
use Rattle.pico_board.specs.Files.{KeepsOthers}
use Rattle.pico_board.specs.Examples.{name_a, name_b, of_a, of_b}

b_not_a : name_b ≢ name_a
b_not_a e = let same : 98 ≡ 97 = ap (λ (xs : List ℕ). slice_index xs 0) e in absurd (omega (arith, same))

no_file : {bytes : List ℕ} → None ≡ Some bytes → ⊥
no_file e = absurd cc

a_file : {bytes : List ℕ} → Some bytes ≡ None → ⊥
a_file e = absurd cc

other_byte : (let bytes : Option (List ℕ) = Some (7 ∷ []) in bytes) ≡ Some (2 ∷ []) → ⊥
other_byte e = absurd cc

pub not_lost : (byte : ℕ) → ¬ (KeepsOthers (of_a 1 ∷ of_b 2 ∷ []) name_a (of_a byte ∷ []))
not_lost byte keeps = no_file (keeps name_b b_not_a)

pub not_changed : (byte : ℕ) → ¬ (KeepsOthers (of_a 1 ∷ of_b 2 ∷ []) name_a (of_a byte ∷ of_b 7 ∷ []))
not_changed byte keeps = other_byte (keeps name_b b_not_a)

pub not_made : ¬ (KeepsOthers (of_a 1 ∷ []) name_a (of_a 1 ∷ of_b 2 ∷ []))
not_made keeps = a_file (keeps name_b b_not_a)
