-- Runs that the worked examples take.
use Rattle.std.specs.Prelude.{ℕ}
use Rattle.equal_runs.specs.Runs.{RunOf}

-- the run of a number from one place to another
abbrev pub run_to : ℕ → ℕ → ℕ → RunOf ℕ
run_to first last entry = record { first = first; last = last; entry = entry }
