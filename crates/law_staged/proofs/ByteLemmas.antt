-- The page of the first block stays erased until the last step.
use Rattle.std.proofs.Common.{◌≡◌, ◌≢◌, inl, inr, ℕ, ◌+◌, ◌*◌, ◌<◌, ◌≤◌, List, [], ◌∷◌, ◌++◌, slice_index, refl, ap, ◌∙◌, arith}
use Rattle.std.specs.Prelude.{⊤, bit_and}
use Rattle.std.specs.List.{AllByRecursion}
use Rattle.std.proofs.lemmas.Bool.{cases_lt}
use Rattle.pico_board.specs.Content.{Content}
use Rattle.pico_board.specs.Sessions.{IsElsewhere, IsProgramIn}
use Rattle.pico_board.specs.declared.Step.{Step}
use Rattle.pico_board.specs.declared.step.Step.TheVariants.{Erase, Program, Raise}
use Rattle.pico_board.specs.Steps.{Torn, after, after_all}
use Rattle.pico_board.proofs.ChangedLemmas.{changed-outside}
use Rattle.law_staged.specs.Staged.{IsOffPage}

-- a step that comes after the first erase of sector s
abbrev pub IsLater : ℕ → Step → Type 0
IsLater s (Erase t) = t ≢ s
IsLater s (Program p bytes) = ⊤
IsLater s (Raise r bits) = ⊥

pub later-elsewhere : (s : ℕ) (steps : List Step) → AllByRecursion (IsElsewhere s) steps → AllByRecursion (IsLater s) steps
later-elsewhere s [] all = tt
later-elsewhere s (Erase t ∷ steps) all = (all.0, later-elsewhere s steps all.1)
later-elsewhere s (Program p bytes ∷ steps) all = (tt, later-elsewhere s steps all.1)
later-elsewhere s (Raise r bits ∷ steps) all = absurd all.0

pub later-programs : (s : ℕ) (steps : List Step) → AllByRecursion (IsProgramIn s) steps → AllByRecursion (IsLater s) steps
later-programs s [] all = tt
later-programs s (Erase t ∷ steps) all = absurd all.0
later-programs s (Program p bytes ∷ steps) all = (tt, later-programs s steps all.1)
later-programs s (Raise r bits ∷ steps) all = absurd all.0

pub later-both : (s : ℕ) (xs ys : List Step) → AllByRecursion (IsLater s) xs → AllByRecursion (IsLater s) ys
    → AllByRecursion (IsLater s) (xs ++ ys)
later-both s [] ys one two = two
later-both s (x ∷ xs) ys one two = (one.0, later-both s xs ys one.1 two)

-- what holds of all elements of two lists holds of those of the second
pub AllByRecursion-right : {X : Type 0} (P : X → Type 0) (xs ys : List X) → AllByRecursion P (xs ++ ys) → AllByRecursion P ys
AllByRecursion-right P [] ys all = all
AllByRecursion-right P (x ∷ xs) ys all = AllByRecursion-right P xs ys all.1

-- steps but the last one are some of those before it
pub front-of : (done : List Step) (step : Step) (others before : List Step) (last : Step)
    → done ++ step ∷ others ≡ before ++ last ∷ [] → (rest : List Step) × (before ≡ done ++ rest)
front-of [] step others before last e = (before, refl)
front-of (x ∷ []) step others [] last e = cc
front-of (x ∷ (y ∷ done)) step others [] last e = cc
front-of (x ∷ done) step others (y ∷ before) last e =
    let head : y ≡ x = cc in
    let tail : done ++ step ∷ others ≡ before ++ last ∷ [] = cc in
    let r = front-of done step others before last tail in
    (r.0, ap (λ z. z ∷ before) head ∙ ap (λ zs. x ∷ zs) r.1)

-- a byte of page p in sector s is kept by steps that neither erase the sector nor program the page
module _ (s page i : ℕ) (low : 4096 * s ≤ i) (high : i < 4096 * s + 4096) (from : 256 * page ≤ i)
    (to : i < 256 * page + 256) where
  kept-one : (c : Content) (step : Step) → IsLater s step → IsOffPage page step
      → slice_index (after c step).flash i ≡ slice_index c.flash i
  kept-one c (Erase t) other off =
      changed-outside (λ j b. 255) (4096 * t) 4096 c.flash i (elim (cases_lt s t) [
        | inl below ↦ inl (omega (arith, below, high))
        | inr above ↦ inr (omega (arith, above, other, low))
      ])
  kept-one c (Program p bytes) later off =
      changed-outside (λ j b. bit_and b (slice_index bytes j)) (256 * p) 256 c.flash i (elim (cases_lt page p) [
        | inl below ↦ inl (omega (arith, below, to))
        | inr above ↦ inr (omega (arith, above, off, from))
      ])
  kept-one c (Raise r bits) never off = absurd never

  -- so does the loss of power in one
  pub kept-torn : (c : Content) (step : Step) (d : Content) → IsLater s step → IsOffPage page step → Torn c step d
      → slice_index d.flash i ≡ slice_index c.flash i
  kept-torn c (Erase t) d other off torn = elim (cases_lt s t) [
    | inl below ↦ torn.outside.below i (omega (arith, below, high))
    | inr above ↦ torn.outside.above i (omega (arith, above, other, low))
  ]
  kept-torn c (Program p bytes) d later off torn = elim (cases_lt page p) [
    | inl below ↦ torn.outside.below i (omega (arith, below, to))
    | inr above ↦ torn.outside.above i (omega (arith, above, off, from))
  ]
  kept-torn c (Raise r bits) d never off torn = absurd never

  pub kept-byte : (c : Content) (steps : List Step) → AllByRecursion (IsLater s) steps
      → AllByRecursion (IsOffPage page) steps → slice_index (after_all c steps).flash i ≡ slice_index c.flash i
  kept-byte c [] later off = refl
  kept-byte c (step ∷ steps) later off =
      kept-byte (after c step) steps later.1 off.1 ∙ kept-one c step later.0 off.0
