-- The sectors that steps have erased, as a set.
use Rattle.std.specs.Prelude.{◌≡◌, ℕ, List}
use Rattle.std.specs.BTreeSet.{BTreeSet, contains}
use Rattle.std.specs.List.{list_any}
use Rattle.std.specs.Ordering.{nat_cmp}
use Rattle.pico_board.specs.declared.Step.{Step}
use Rattle.check_records.specs.Unerased.{erases}

-- the set has just the sectors that these steps erase
abbrev pub HasErased : BTreeSet ℕ → List Step → Type 0
HasErased erased before = (s : ℕ) → contains nat_cmp erased s ≡ list_any (erases s) before
