use Rattle.std.proofs.Common.{◌≡◌, ℕ, ◌<◌, true}
use Rattle.script_words.specs.Splitting.{blank_at}
use Rattle.script_words.proofs.splitting.blanks_before.Given as goal

abbrev pub invariant-loop-count : goal.invariant-loop-count
invariant-loop-count l = (j : ℕ) → j < l.count → blank_at l.text j ≡ true
