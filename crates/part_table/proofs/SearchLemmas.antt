-- How many elements of a list pass, and what stands in the list.
use Rattle.std.proofs.Common.{◌≡◌, ℕ, ◌+◌, Bool, List, length, take, ap, ◌∙◌, cond, subst, Some, filter, slice_get, Contains}
use Rattle.std.proofs.lemmas.Option.{slice_get_within, get_or_from_slice_get}
use Rattle.std.proofs.lemmas.List.Filters.{length-filter_more}
use Rattle.std.proofs.lemmas.List.Elements.{Contains-get_or}

module _ {X : Type 0} (p : X → Bool) where
  -- how many pass, with one element more
  pub counted_more : (xs : List X) (i : ℕ) (x : X) → slice_get xs i ≡ Some x
      → length (filter p (take (i + 1) xs)) ≡ length (filter p (take i xs)) + cond (p x) 1 0
  counted_more xs i x at =
      length-filter_more p xs i x (slice_get_within xs i x at)
      ∙ ap (λ y. length (filter p (take i xs)) + cond (p y) 1 0) (get_or_from_slice_get xs i x x at)

-- what stands at a place is of the list
pub contained : {X : Type 0} (xs : List X) (i : ℕ) (x : X) → slice_get xs i ≡ Some x → Contains xs x
contained xs i x at =
    subst (Contains xs) (get_or_from_slice_get xs i x x at) (Contains-get_or xs i x (slice_get_within xs i x at))
