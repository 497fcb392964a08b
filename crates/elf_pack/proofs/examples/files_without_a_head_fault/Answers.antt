-- By computing.
use Rattle.std.proofs.Common.{refl}
use Rattle.block_codec.specs.Blocks.{frame}
use Rattle.block_codec.specs.Words.{word_bytes}
use Rattle.elf_pack.specs.Binaries.{elf_binary, flash_bytes, sram_items}
use Rattle.elf_pack.specs.Fields.{half_at, word_at}
use Rattle.elf_pack.specs.Judging.{count_fault, head_fault, misplaced_fault, mixed_fault, segment_overlap_fault, segments_fault}
use Rattle.elf_pack.specs.Segments.{segment_at}
use Rattle.elf_pack.proofs.examples.files_without_a_head_fault.Goals as goal

pub returns-clause-unread_size : goal.returns-clause-unread_size
unfolding frame word_bytes elf_binary flash_bytes sram_items half_at word_at count_fault head_fault misplaced_fault
    mixed_fault segment_overlap_fault segments_fault segment_at
returns-clause-unread_size c = refl

pub returns-clause-no_segment : goal.returns-clause-no_segment
unfolding frame word_bytes elf_binary flash_bytes sram_items half_at word_at count_fault head_fault misplaced_fault
    mixed_fault segment_overlap_fault segments_fault segment_at
returns-clause-no_segment c = refl

pub returns-clause-none : goal.returns-clause-none
unfolding frame word_bytes elf_binary flash_bytes sram_items half_at word_at count_fault head_fault misplaced_fault
    mixed_fault segment_overlap_fault segments_fault segment_at
returns-clause-none c = refl

pub returns-clause-riscv : goal.returns-clause-riscv
unfolding frame word_bytes elf_binary flash_bytes sram_items half_at word_at count_fault head_fault misplaced_fault
    mixed_fault segment_overlap_fault segments_fault segment_at
returns-clause-riscv c = refl

pub returns-clause-other_memory : goal.returns-clause-other_memory
unfolding frame word_bytes elf_binary flash_bytes sram_items half_at word_at count_fault head_fault misplaced_fault
    mixed_fault segment_overlap_fault segments_fault segment_at
returns-clause-other_memory c = refl
