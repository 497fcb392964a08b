-- The segments so far are placed.
use Rattle.std.proofs.Common.{◌≡◌, take, length}
use Rattle.elf_pack.specs.Binaries.{flash_bytes}
use Rattle.elf_pack.proofs.placing.put_segments.Given as goal

abbrev pub invariant-loop-segment : goal.invariant-loop-segment
invariant-loop-segment l = l.bytes ≡ flash_bytes l.elf (take l.segment-index l.segments) (length l.bytes)
