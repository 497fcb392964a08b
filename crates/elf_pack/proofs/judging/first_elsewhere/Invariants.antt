-- None of the segments so far passes the test.
use Rattle.std.proofs.Common.{◌≡◌, take, find, None}
use Rattle.elf_pack.specs.Judging.{are_mixed}
use Rattle.elf_pack.proofs.judging.first_elsewhere.Given as goal

abbrev pub invariant-loop-segment : goal.invariant-loop-segment
invariant-loop-segment l = find (are_mixed l.first) (take l.segment-index l.segments) ≡ None
