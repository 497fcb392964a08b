-- Four bytes for each word so far.
use Rattle.std.proofs.Common.{◌≡◌, ◌*◌, length}
use Rattle.test_images.proofs.making.binary.Given as goal

abbrev pub invariant-loop-place : goal.invariant-loop-place
invariant-loop-place l = length l.bytes.items ≡ 4 * l.place
