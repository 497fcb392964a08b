-- Counts for worked examples.
use Rattle.std.specs.Prelude.{ℕ, false, []}
use Rattle.check_counts.specs.Tallies.{Tally}

-- so many cuts of each class, and so many that fall; nothing else is counted
abbrev pub counts_so : ℕ → ℕ → ℕ → ℕ → ℕ → ℕ → ℕ → Tally
counts_so former finished whole tail mixed bootsel falls = record {
  former = former;
  finished = finished;
  whole = whole;
  tail = tail;
  mixed = mixed;
  bootsel = bootsel;
  falls = falls;
  early = 0;
  other_data = [];
  by_mixed = 0;
  other_table = false;
  other_class = false;
  caveats = [];
}
