-- How conditions make lists of caveats, in the order of the conditions.
use Rattle.std.specs.Prelude.{◌≡◌, ◌⊎◌, Bool, true, false, List, [], ◌∷◌, ◌++◌, Option, Some, None}
use Rattle.std.specs.List.{AllByRecursion}
use Rattle.slot_caveats.specs.declared.caveat.Caveat.{Caveat}

-- the caveat where a test says so
abbrev pub caveat_if : Bool → Caveat → Option Caveat
caveat_if true caveat = Some caveat
caveat_if false caveat = None

-- the list has just this caveat where the condition holds, and no caveat where it does not
abbrev pub IsWhere : Type 0 → Caveat → List Caveat → Type 0
IsWhere P caveat list = (P × (list ≡ caveat ∷ [])) ⊎ ((P → ⊥) × (list ≡ []))

-- the list has just the caveat of what meets the condition, and none where nothing meets it
abbrev pub IsOfOne : {X : Type 0} → (X → Type 0) → (X → Caveat) → List Caveat → Type 0
IsOfOne {X} P told list =
    ((x : X) × P x × (list ≡ told x ∷ [])) ⊎ (((x : X) → P x → ⊥) × (list ≡ []))

-- a list, and after it another one
abbrev pub AreBoth : (List Caveat → Type 0) → (List Caveat → Type 0) → List Caveat → Type 0
AreBoth P Q list =
    (first : List Caveat) × (second : List Caveat) × P first × Q second × (list ≡ first ++ second)

-- the lists of the elements, in their order
abbrev pub AreOfEach : {X : Type 0} → (X → List Caveat → Type 0) → List X → List Caveat → Type 0
AreOfEach P [] list = list ≡ []
AreOfEach P (x ∷ xs) list = AreBoth (P x) (AreOfEach P xs) list

-- x is the first element that passes the test: it passes, and those before it do not
pub record IsFirstWith {X : Type 0} (passes : X → Bool) (xs : List X) (x : X) : Type 0 where
  pub before : List X
  pub behind : List X
  pub whole : xs ≡ before ++ x ∷ behind
  pub here : passes x ≡ true
  pub earlier : AllByRecursion (λ y. passes y ≡ false) before
