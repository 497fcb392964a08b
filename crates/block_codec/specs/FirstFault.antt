-- The first fault of a list whose elements are judged in order, each by the elements before it:
-- this project's own way to say "the first of these applies" (rows, items, entries, partitions).
use Rattle.std.specs.Prelude.{◌≡◌, ℕ, ◌<◌, List, [], ◌∷◌, ◌++◌, take, slice_get, Option, Some, None, Result, Ok, Err}
use Rattle.std.specs.Option.{option_or}

-- the first fault among the elements, where the list `before` was judged already
abbrev pub first_from : {X F : Type 0} → (List X → X → Option F) → List X → List X → Option F
first_from judge before [] = None
first_from judge before (x ∷ xs) =
    option_or (judge before x) (first_from judge (before ++ x ∷ []) xs)

-- the first fault of a list
abbrev pub first_fault : {X F : Type 0} → (List X → X → Option F) → List X → Option F
first_fault judge xs = first_from judge [] xs

-- the value, unless there is a fault
abbrev pub ok_unless : {A F : Type 0} → Option F → A → Result A F
ok_unless None value = Ok value
ok_unless (Some fault) value = Err fault

module _ {X F : Type 0} (judge : List X → X → Option F) where
  -- the element at place i has the fault f, and none before it has one
  pub record IsFirst (xs : List X) (i : ℕ) (f : F) : Type 0 where
    pub here : (x : X) × (slice_get xs i ≡ Some x) × (judge (take i xs) x ≡ Some f)
    pub before : (j : ℕ) (x : X) → j < i → slice_get xs j ≡ Some x → judge (take j xs) x ≡ None

  -- none of the first n elements has a fault
  abbrev pub AreSound : List X → ℕ → Type 0
  AreSound xs n = (j : ℕ) (x : X) → j < n → slice_get xs j ≡ Some x → judge (take j xs) x ≡ None
