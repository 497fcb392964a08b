-- None of the segments so far passes the test.
use Rattle.std.proofs.Common.{◌≡◌, take, find, None}
use Rattle.elf_pack.specs.Judging.{do_overlap}
use Rattle.elf_pack.proofs.judging.first_over.Given as goal

abbrev pub invariant-loop-segment : goal.invariant-loop-segment
invariant-loop-segment l = find (do_overlap l.one) (take l.segment-index l.segments) ≡ None
