-- By computing.
use Rattle.std.proofs.Common.{refl}
use Rattle.block_codec.specs.Blocks.{frame}
use Rattle.block_codec.specs.Words.{word_bytes}
use Rattle.elf_pack.specs.Binaries.{elf_binary, flash_bytes, sram_items}
use Rattle.elf_pack.specs.Fields.{half_at, word_at}
use Rattle.elf_pack.specs.Judging.{count_fault, head_fault, misplaced_fault, mixed_fault, segment_overlap_fault, segments_fault}
use Rattle.elf_pack.specs.Segments.{segment_at}
use Rattle.elf_pack.proofs.examples.the_first_of_two_faults.Goals as goal

pub returns-clause-not_elf : goal.returns-clause-not_elf
unfolding frame word_bytes elf_binary flash_bytes sram_items half_at word_at count_fault head_fault misplaced_fault
    mixed_fault segment_overlap_fault segments_fault segment_at
returns-clause-not_elf c = refl

pub returns-clause-other_class : goal.returns-clause-other_class
unfolding frame word_bytes elf_binary flash_bytes sram_items half_at word_at count_fault head_fault misplaced_fault
    mixed_fault segment_overlap_fault segments_fault segment_at
returns-clause-other_class c = refl

pub returns-clause-other_version : goal.returns-clause-other_version
unfolding frame word_bytes elf_binary flash_bytes sram_items half_at word_at count_fault head_fault misplaced_fault
    mixed_fault segment_overlap_fault segments_fault segment_at
returns-clause-other_version c = refl

pub returns-clause-file_type : goal.returns-clause-file_type
unfolding frame word_bytes elf_binary flash_bytes sram_items half_at word_at count_fault head_fault misplaced_fault
    mixed_fault segment_overlap_fault segments_fault segment_at
returns-clause-file_type c = refl

pub returns-clause-processor : goal.returns-clause-processor
unfolding frame word_bytes elf_binary flash_bytes sram_items half_at word_at count_fault head_fault misplaced_fault
    mixed_fault segment_overlap_fault segments_fault segment_at
returns-clause-processor c = refl

pub returns-clause-processor_riscv : goal.returns-clause-processor_riscv
unfolding frame word_bytes elf_binary flash_bytes sram_items half_at word_at count_fault head_fault misplaced_fault
    mixed_fault segment_overlap_fault segments_fault segment_at
returns-clause-processor_riscv c = refl

pub returns-clause-headers : goal.returns-clause-headers
unfolding frame word_bytes elf_binary flash_bytes sram_items half_at word_at count_fault head_fault misplaced_fault
    mixed_fault segment_overlap_fault segments_fault segment_at
returns-clause-headers c = refl

pub returns-clause-headers_size : goal.returns-clause-headers_size
unfolding frame word_bytes elf_binary flash_bytes sram_items half_at word_at count_fault head_fault misplaced_fault
    mixed_fault segment_overlap_fault segments_fault segment_at
returns-clause-headers_size c = refl

pub returns-clause-segment : goal.returns-clause-segment
unfolding frame word_bytes elf_binary flash_bytes sram_items half_at word_at count_fault head_fault misplaced_fault
    mixed_fault segment_overlap_fault segments_fault segment_at
returns-clause-segment c = refl

pub returns-clause-mixed : goal.returns-clause-mixed
unfolding frame word_bytes elf_binary flash_bytes sram_items half_at word_at count_fault head_fault misplaced_fault
    mixed_fault segment_overlap_fault segments_fault segment_at
returns-clause-mixed c = refl

pub returns-clause-overlap : goal.returns-clause-overlap
unfolding frame word_bytes elf_binary flash_bytes sram_items half_at word_at count_fault head_fault misplaced_fault
    mixed_fault segment_overlap_fault segments_fault segment_at
returns-clause-overlap c = refl
