use Rattle.std.proofs.Common.{◌≡◌, ◌++◌, drop}
use Rattle.check_require.specs.Requires.{allowed_of}
use Rattle.check_require.proofs.reading.allowed_of.Given as goal

abbrev pub invariant-loop-name : goal.invariant-loop-name
invariant-loop-name l = l.caveats.items ++ allowed_of (drop l.name-index l.names) ≡ allowed_of l.names
