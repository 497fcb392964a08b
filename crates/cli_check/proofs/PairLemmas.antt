-- What is made of two lists, pair by pair, ends with the shorter one.
use Rattle.std.proofs.Common.{◌≡◌, arith, refl, sym, subst, ◌⊎◌, inl, inr, ℕ, ◌<◌, ◌≤◌, min, List, [], ◌∷◌, drop, length}
use Rattle.std.proofs.lemmas.Bool.{cases_lt}
use Rattle.std.proofs.lemmas.List.{drop_all}
use Rattle.check_data.specs.declared.found.DataWindow.{DataWindow}
use Rattle.cli_check.specs.CheckTexts.{data_lines}
use Rattle.cli_check.specs.Reporting.{data_each}

-- F makes nothing where one of the lists is at its end
module _ {X Y Z : Type 0} (F : List X → List Y → List Z) (first : (ys : List Y) → F [] ys ≡ [])
    (second : (xs : List X) → F xs [] ≡ []) where
  pairs-end : (xs : List X) (ys : List Y) (i : ℕ) → i ≡ min (length xs) (length ys)
      → F (drop i xs) (drop i ys) ≡ []
  pairs-end xs ys i is = go (cases_lt (length xs) (length ys))
    where
      go : (length xs < length ys) ⊎ (length ys ≤ length xs) → F (drop i xs) (drop i ys) ≡ []
      go (inl lt) =
          subst (λ (rest : List X). F rest (drop i ys) ≡ []) (sym (drop_all i xs (omega (arith, is, lt))))
          (first (drop i ys))
      go (inr le) =
          subst (λ (rest : List Y). F (drop i xs) rest ≡ []) (sym (drop_all i ys (omega (arith, is, le))))
          (second (drop i xs))

pub lines-end : (windows : List DataWindow) (torn : List ℕ) (i : ℕ) → i ≡ min (length windows) (length torn)
    → data_lines (drop i windows) (drop i torn) ≡ []
lines-end = pairs-end data_lines (λ torn. refl) none
  where
    none : (windows : List DataWindow) → data_lines windows [] ≡ []
    none [] = refl
    none (w ∷ windows) = refl

pub found-end : (windows : List DataWindow) (torn : List ℕ) (i : ℕ) → i ≡ min (length windows) (length torn)
    → data_each (drop i windows) (drop i torn) ≡ []
found-end = pairs-end data_each (λ torn. refl) none
  where
    none : (windows : List DataWindow) → data_each windows [] ≡ []
    none [] = refl
    none (w ∷ windows) = refl
