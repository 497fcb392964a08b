use Rattle.std.proofs.Common.{◌≡◌, ℕ, ◌<◌, false}
use Rattle.script_words.specs.Splitting.{blank_at}
use Rattle.script_words.proofs.splitting.word_size.Given as goal

abbrev pub invariant-loop-count : goal.invariant-loop-count
invariant-loop-count l = (j : ℕ) → j < l.count → blank_at l.text j ≡ false
