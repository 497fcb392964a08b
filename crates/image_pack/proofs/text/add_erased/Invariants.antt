-- So many bytes were fed.
use Rattle.std.proofs.Common.{ℕ, List, ◌++◌, replicate}
use Rattle.sha2.specs.Hashers.{Holds256}
use Rattle.image_pack.proofs.text.add_erased.Given as goal

abbrev pub invariant-loop-i : goal.invariant-loop-i
invariant-loop-i l = (m : List ℕ) → Holds256 l.fn.hasher m → Holds256 l.hasher (m ++ replicate l._i 255)
