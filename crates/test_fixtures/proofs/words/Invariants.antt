use Rattle.std.proofs.Common.{◌≡◌, length}
use Rattle.test_fixtures.proofs.words.Given as goal

-- one word for each text so far
abbrev pub invariant-loop-text : goal.invariant-loop-text
invariant-loop-text l = length l.words.items ≡ l.text-index
