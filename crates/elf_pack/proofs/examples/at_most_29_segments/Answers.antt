-- By computing.
use Rattle.std.proofs.Common.{refl}
use Rattle.block_codec.specs.Blocks.{frame}
use Rattle.block_codec.specs.Words.{word_bytes}
use Rattle.elf_pack.specs.Binaries.{elf_binary, flash_bytes, sram_items}
use Rattle.elf_pack.specs.Fields.{half_at, word_at}
use Rattle.elf_pack.specs.Judging.{count_fault, head_fault, misplaced_fault, mixed_fault, segment_overlap_fault, segments_fault}
use Rattle.elf_pack.specs.Segments.{segment_at}
use Rattle.elf_pack.proofs.examples.at_most_29_segments.Goals as goal

pub returns-clause-few : goal.returns-clause-few
unfolding frame word_bytes elf_binary flash_bytes sram_items half_at word_at count_fault head_fault misplaced_fault
    mixed_fault segment_overlap_fault segments_fault segment_at
returns-clause-few c = refl

pub returns-clause-many : goal.returns-clause-many
unfolding frame word_bytes elf_binary flash_bytes sram_items half_at word_at count_fault head_fault misplaced_fault
    mixed_fault segment_overlap_fault segments_fault segment_at
returns-clause-many c = refl

pub returns-clause-before_mixed : goal.returns-clause-before_mixed
unfolding frame word_bytes elf_binary flash_bytes sram_items half_at word_at count_fault head_fault misplaced_fault
    mixed_fault segment_overlap_fault segments_fault segment_at
returns-clause-before_mixed c = refl

pub returns-clause-misplaced : goal.returns-clause-misplaced
unfolding frame word_bytes elf_binary flash_bytes sram_items half_at word_at count_fault head_fault misplaced_fault
    mixed_fault segment_overlap_fault segments_fault segment_at
returns-clause-misplaced c = refl
