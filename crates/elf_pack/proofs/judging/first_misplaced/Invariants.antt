-- None of the segments so far passes the test.
use Rattle.std.proofs.Common.{◌≡◌, take, find, None}
use Rattle.elf_pack.specs.Judging.{is_misplaced_segment}
use Rattle.elf_pack.proofs.judging.first_misplaced.Given as goal

abbrev pub invariant-loop-segment : goal.invariant-loop-segment
invariant-loop-segment l = find (is_misplaced_segment l.len) (take l.segment-index l.segments) ≡ None
