-- The segments so far are stored behind the block.
use Rattle.std.proofs.Common.{◌≡◌, ◌+◌, ◌*◌, ◌≤◌, ◌++◌, take, length, pos}
use Rattle.std.specs.List.{flat_map}
use Rattle.block_codec.specs.Blocks.{frame}
use Rattle.block_codec.specs.Words.{bytes_of}
use Rattle.image_pack.specs.Filling.{padded, whole_words}
use Rattle.elf_pack.specs.Binaries.{sram_items, first_storage}
use Rattle.elf_pack.specs.Segments.{segment_bytes}
use Rattle.elf_pack.proofs.storing.sram_binary.Given as goal

abbrev pub invariant-loop-segment : goal.invariant-loop-segment
invariant-loop-segment l = record {
  so_far : l.bytes.items
      ≡ padded first_storage (bytes_of (frame (sram_items l.fn.cpu l.entry l.segments) (pos 0)))
      ++ flat_map (λ s. whole_words (segment_bytes l.elf s)) (take l.segment-index l.segments);
  few : length l.bytes.items ≤ 640 + 532484 * l.segment-index;
}
