-- The steps that program a page whose sector no step before them erases.
use Rattle.std.specs.Prelude.{◌≡◌, ℕ, ◌+◌, ◌/◌, ◌<◌, ◌==◌, Bool, false, not, if◌then◌else◌, List, [], ◌∷◌, ◌++◌, length, Option, Some, None}
use Rattle.std.specs.List.{AllByRecursion, list_any}
use Rattle.pico_board.specs.declared.Step.{Step}
use Rattle.pico_board.specs.declared.Step.TheVariants.{Erase, Program, Raise}

-- the step erases this sector
abbrev pub erases : ℕ → Step → Bool
erases sector (Erase s) = s == sector
erases sector (Program p d) = false
erases sector (Raise r b) = false

-- the step programs a page whose sector none of the steps before it erases
abbrev pub is_unerased : List Step → Step → Bool
is_unerased before (Program p d) = not (list_any (erases (p / 16)) before)
is_unerased before (Erase s) = false
is_unerased before (Raise r b) = false

-- the number of the first of the steps that does, behind those before, where the first has this
-- number
abbrev pub unerased_from : List Step → ℕ → List Step → Option ℕ
unerased_from before k [] = None
unerased_from before k (step ∷ steps) =
    if is_unerased before step then Some k else unerased_from (before ++ step ∷ []) (k + 1) steps

abbrev pub first_unerased : List Step → Option ℕ
first_unerased steps = unerased_from [] 0 steps

-- step k programs a page, and none of the steps before it erases the page's sector
pub record IsUnerased (steps : List Step) (k : ℕ) : Type 0 where
  pub before : List Step
  pub page : ℕ
  pub bytes : List ℕ
  pub behind : List Step
  pub whole : steps ≡ before ++ Program page bytes ∷ behind
  pub number : length before ≡ k
  pub bare : AllByRecursion (λ (step : Step). step ≡ Erase (page / 16) → ⊥) before

-- it is the first one that does
pub record IsFirstUnerased (steps : List Step) (k : ℕ) : Type 0 where
  pub here : IsUnerased steps k
  pub first : (j : ℕ) → j < k → IsUnerased steps j → ⊥
