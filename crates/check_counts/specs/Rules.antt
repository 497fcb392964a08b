-- The caveats of the contents that the cuts of a script leave, with those of its two ends, as rules.
-- `first` and `last` are the lists of the content before the script and of the one after it, and
-- `cuts` has the list of each cut.
use Rattle.std.specs.Prelude.{◌≡◌, ◌⊎◌, ◌↔◌, ⊤, ℕ, ◌+◌, true, List, [], ◌∷◌, ◌++◌, Contains}
use Rattle.std.specs.List.{AllByRecursion, flat_map}
use Rattle.pico_board.specs.declared.boot.Cpu.{Cpu}
use Rattle.pico_board.specs.declared.boot.BootKind.TheVariants.{Normal}
use Rattle.pico_board.specs.Content.{Content}
use Rattle.slot_caveats.specs.declared.caveat.Caveat.{Caveat}
use Rattle.boot_caveats.specs.Rules.{AreCaveats}
use Rattle.check_counts.specs.declared.seen.CaveatSeen.{CaveatSeen}

-- each list is that of a normal boot on the content at its place
abbrev pub AreListsOf : Cpu → List Content → List (List Caveat) → Type 0
AreListsOf cpu [] [] = ⊤
AreListsOf cpu [] (list ∷ lists) = ⊥
AreListsOf cpu (d ∷ ds) [] = ⊥
AreListsOf cpu (d ∷ ds) (list ∷ lists) = AreCaveats d cpu Normal list × AreListsOf cpu ds lists

-- the caveat is in so many of the lists
abbrev pub IsInSoMany : Caveat → List (List Caveat) → ℕ → Type 0
IsInSoMany x [] n = n ≡ 0
IsInSoMany x (list ∷ lists) n =
    (Contains list x × ((m : ℕ) × (n ≡ 1 + m) × IsInSoMany x lists m))
    ⊎ ((Contains list x → ⊥) × IsInSoMany x lists n)

-- where the caveat holds, and at how many cuts, is told right
pub record IsToldRight (first last : List Caveat) (cuts : List (List Caveat)) (s : CaveatSeen)
    : Type 0 where
  pub former : (s.former ≡ true) ↔ Contains first s.caveat
  pub end_ : (s.end ≡ true) ↔ Contains last s.caveat
  pub number : IsInSoMany s.caveat cuts s.cuts

-- the caveat is told
abbrev pub IsTold : List CaveatSeen → Caveat → Type 0
IsTold seen x = (s : CaveatSeen) × Contains seen s × (s.caveat ≡ x)

-- the list has x, and no y up to there
pub record ComesFirst (list : List Caveat) (x y : Caveat) : Type 0 where
  pub before : List Caveat
  pub behind : List Caveat
  pub whole : list ≡ before ++ x ∷ behind
  pub later : Contains (before ++ x ∷ []) y → ⊥

-- each comes first before those that follow it
abbrev pub AreInOrder : List Caveat → List CaveatSeen → Type 0
AreInOrder list [] = ⊤
AreInOrder list (s ∷ seen) =
    AllByRecursion (λ (t : CaveatSeen). ComesFirst list s.caveat t.caveat) seen × AreInOrder list seen

-- Each caveat that holds of c, of z, or of what a cut leaves is told once, in the order in which
-- they come first: those of c in their order, those of z, those of each cut.
pub record AreCaveatsSeen (c z : Content) (cpu : Cpu) (contents : List Content)
    (seen : List CaveatSeen) : Type 0 where
  pub first : List Caveat
  pub last : List Caveat
  pub cuts : List (List Caveat)
  pub are_first : AreCaveats c cpu Normal first
  pub are_last : AreCaveats z cpu Normal last
  pub are_cuts : AreListsOf cpu contents cuts
  pub right : AllByRecursion (IsToldRight first last cuts) seen
  pub told : (x : Caveat)
      → IsTold seen x ↔ Contains (first ++ (last ++ flat_map (λ list. list) cuts)) x
  pub order : AreInOrder (first ++ (last ++ flat_map (λ list. list) cuts)) seen
