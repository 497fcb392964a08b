-- The segments of the headers so far are found.
use Rattle.std.proofs.Common.{◌≡◌, ◌≤◌, length}
use Rattle.std.specs.Prelude.{filter_map}
use Rattle.std.specs.List.{range_with_len}
use Rattle.elf_pack.specs.Segments.{segment_at}
use Rattle.elf_pack.proofs.segment.segments.Given as goal

abbrev pub invariant-loop-number : goal.invariant-loop-number
invariant-loop-number l = record {
  so_far : l.found.items ≡ filter_map (segment_at l.elf) (range_with_len 0 l.number);
  few : length l.found.items ≤ l.number;
}
