-- By computing.
use Rattle.std.proofs.Common.{refl, arith, inl, inr}
use Rattle.slot_choice.specs.declared.unit.Member.TheVariants.{B}
use Rattle.worked_flashes.specs.Tables.{pair_unit}
use Rattle.slot_choice.specs.Examples.{window_at}
use Rattle.boot_rules.specs.Examples.{found_in_slot}
use Rattle.law_targets.specs.Examples.{flags_table, pair_flash}
use Rattle.law_targets.proofs.HomeLemmas.{home-words, not-both}
use Rattle.boot_rules.proofs.TableLemmas.{found-sound}
use Rattle.pico_board.specs.declared.boot.Cpu.TheVariants.{Riscv}
use Rattle.boot_rules.specs.Tables.{table_in}
use Rattle.boot_rules.specs.Choosing.{decision_in}
use Rattle.image_check.specs.Image.{image_in}
use Rattle.image_def.specs.Definition.{def_of}
use Rattle.block_loop.specs.Loop.{loop_of, follow, block_from}
use Rattle.block_codec.specs.Blocks.{frame}
use Rattle.block_codec.specs.Reading.{block_at, front_block, item_words}
use Rattle.block_codec.specs.Items.{size_of}
use Rattle.block_codec.specs.Words.{word_of, word_bytes}
use Rattle.law_targets.proofs.examples.the_flags_of_a_second.Goals as goal

pub returns-clause-boot_member : goal.returns-clause-boot_member
unfolding table_in decision_in image_in def_of loop_of follow block_from block_at front_block item_words frame size_of
    word_of word_bytes
returns-clause-boot_member c = record {
  place = 0;
  unit = pair_unit (window_at 0x2000 0x2000) 0 (window_at 0x4000 0x2000) 1;
  member = B;
  other = window_at 0x2000 0x2000;
  tried = refl;
  stands = refl;
  pair = refl;
}

pub returns-clause-of_a_kept_unit : goal.returns-clause-of_a_kept_unit
unfolding table_in decision_in image_in def_of loop_of follow block_from block_at front_block item_words frame size_of
    word_of word_bytes
returns-clause-of_a_kept_unit c = record {
  found = found_in_slot 0 (flags_table 0 0x400);
  part = 1;
  table = refl;
  within = omega arith;
  member = inl refl;
  kept = inr refl;
}

pub returns-clause-in_no_kept_pair : goal.returns-clause-in_no_kept_pair
unfolding table_in decision_in image_in def_of loop_of follow block_from block_at front_block item_words frame size_of
    word_of word_bytes
returns-clause-in_no_kept_pair c = λ kept. not-both (flags_table 0 0x400) 6
    (found-sound (pair_flash 0 0x400) (found_in_slot 0 (flags_table 0 0x400)) refl) Riscv (window_at 0x4000 0x2000)
    (home-words (pair_flash 0 0x400) Riscv (window_at 0x4000 0x2000) (found_in_slot 0 (flags_table 0 0x400)) refl
    (record {
      place = 0;
      unit = pair_unit (window_at 0x2000 0x2000) 0 (window_at 0x4000 0x2000) 1;
      member = B;
      other = window_at 0x2000 0x2000;
      tried = refl;
      stands = refl;
      pair = refl;
    })) kept
