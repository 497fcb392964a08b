-- By computing.
use Rattle.std.proofs.Common.{refl}
use Rattle.block_codec.specs.Blocks.{frame}
use Rattle.block_codec.specs.Words.{word_bytes}
use Rattle.elf_pack.specs.Binaries.{elf_binary, flash_bytes, sram_items}
use Rattle.elf_pack.specs.Fields.{half_at, word_at}
use Rattle.elf_pack.specs.Judging.{count_fault, head_fault, misplaced_fault, mixed_fault, segment_overlap_fault, segments_fault}
use Rattle.elf_pack.specs.Segments.{segment_at}
use Rattle.elf_pack.proofs.examples.the_places_of_segments.Goals as goal

pub returns-clause-file_end : goal.returns-clause-file_end
unfolding frame word_bytes elf_binary flash_bytes sram_items half_at word_at count_fault head_fault misplaced_fault
    mixed_fault segment_overlap_fault segments_fault segment_at
returns-clause-file_end c = refl

pub returns-clause-past_file : goal.returns-clause-past_file
unfolding frame word_bytes elf_binary flash_bytes sram_items half_at word_at count_fault head_fault misplaced_fault
    mixed_fault segment_overlap_fault segments_fault segment_at
returns-clause-past_file c = refl

pub returns-clause-before_flash : goal.returns-clause-before_flash
unfolding frame word_bytes elf_binary flash_bytes sram_items half_at word_at count_fault head_fault misplaced_fault
    mixed_fault segment_overlap_fault segments_fault segment_at
returns-clause-before_flash c = refl

pub returns-clause-flash_end : goal.returns-clause-flash_end
unfolding frame word_bytes elf_binary flash_bytes sram_items half_at word_at count_fault head_fault misplaced_fault
    mixed_fault segment_overlap_fault segments_fault segment_at
returns-clause-flash_end c = refl

pub returns-clause-past_flash : goal.returns-clause-past_flash
unfolding frame word_bytes elf_binary flash_bytes sram_items half_at word_at count_fault head_fault misplaced_fault
    mixed_fault segment_overlap_fault segments_fault segment_at
returns-clause-past_flash c = refl

pub returns-clause-before_sram : goal.returns-clause-before_sram
unfolding frame word_bytes elf_binary flash_bytes sram_items half_at word_at count_fault head_fault misplaced_fault
    mixed_fault segment_overlap_fault segments_fault segment_at
returns-clause-before_sram c = refl

pub returns-clause-sram_start : goal.returns-clause-sram_start
unfolding frame word_bytes elf_binary flash_bytes sram_items half_at word_at count_fault head_fault misplaced_fault
    mixed_fault segment_overlap_fault segments_fault segment_at
returns-clause-sram_start c = refl

pub returns-clause-sram_end : goal.returns-clause-sram_end
unfolding frame word_bytes elf_binary flash_bytes sram_items half_at word_at count_fault head_fault misplaced_fault
    mixed_fault segment_overlap_fault segments_fault segment_at
returns-clause-sram_end c = refl

pub returns-clause-past_sram : goal.returns-clause-past_sram
unfolding frame word_bytes elf_binary flash_bytes sram_items half_at word_at count_fault head_fault misplaced_fault
    mixed_fault segment_overlap_fault segments_fault segment_at
returns-clause-past_sram c = refl

pub returns-clause-touch : goal.returns-clause-touch
unfolding frame word_bytes elf_binary flash_bytes sram_items half_at word_at count_fault head_fault misplaced_fault
    mixed_fault segment_overlap_fault segments_fault segment_at
returns-clause-touch c = refl

pub returns-clause-touched : goal.returns-clause-touched
unfolding frame word_bytes elf_binary flash_bytes sram_items half_at word_at count_fault head_fault misplaced_fault
    mixed_fault segment_overlap_fault segments_fault segment_at
returns-clause-touched c = refl

pub returns-clause-first_byte : goal.returns-clause-first_byte
unfolding frame word_bytes elf_binary flash_bytes sram_items half_at word_at count_fault head_fault misplaced_fault
    mixed_fault segment_overlap_fault segments_fault segment_at
returns-clause-first_byte c = refl

pub returns-clause-last_byte : goal.returns-clause-last_byte
unfolding frame word_bytes elf_binary flash_bytes sram_items half_at word_at count_fault head_fault misplaced_fault
    mixed_fault segment_overlap_fault segments_fault segment_at
returns-clause-last_byte c = refl
