-- A number that stays at its greatest value is 0 just where there is nothing.
use Rattle.std.proofs.Common.{arith, refl, ◌≡◌, ◌↔◌, min, List, [], ◌∷◌, length}

pub none-lost : {X : Type 0} (xs : List X) → (min (length xs) 0xffff_ffff ≡ 0) ↔ (xs ≡ [])
none-lost [] = (λ zero. refl, λ none. refl)
none-lost (x ∷ xs) = (λ zero. absurd (omega (arith, zero)), λ none. cc none)
