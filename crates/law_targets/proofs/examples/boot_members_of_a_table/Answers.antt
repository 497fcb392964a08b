-- By computing.
use Rattle.std.proofs.Common.{ℕ, zero, suc, ap, ◌∙◌, ◌≡◌, refl, Some, None, arith, inl, inr}
use Rattle.slot_choice.specs.declared.unit.Member.TheVariants.{A, B}
use Rattle.worked_flashes.specs.Tables.{pair_unit}
use Rattle.slot_choice.specs.Examples.{window_at}
use Rattle.std.proofs.lemmas.Option.{same_Some}
use Rattle.part_table.specs.declared.partition.Partition.{Partition}
use Rattle.part_table.specs.Fields.{link_type}
use Rattle.worked_flashes.specs.Tables.{plain_partition, sectors}
use Rattle.boot_rules.specs.Examples.{found_in_slot}
use Rattle.law_targets.specs.Examples.{flags_table, lone_flash, lone_target_table, pair_flash}
use Rattle.law_targets.specs.Pairs.{IsSecondOf}
use Rattle.law_targets.proofs.HomeLemmas.{home-words, lone-not, not-both}
use Rattle.boot_rules.proofs.TableLemmas.{found-sound}
use Rattle.pico_board.specs.declared.boot.Cpu.TheVariants.{Arm, Riscv}
use Rattle.boot_rules.specs.Tables.{table_in}
use Rattle.boot_rules.specs.Choosing.{decision_in}
use Rattle.image_check.specs.Image.{image_in}
use Rattle.image_def.specs.Definition.{def_of}
use Rattle.block_loop.specs.Loop.{loop_of, follow, block_from}
use Rattle.block_codec.specs.Blocks.{frame}
use Rattle.block_codec.specs.Reading.{block_at, front_block, item_words}
use Rattle.block_codec.specs.Items.{size_of}
use Rattle.block_codec.specs.Words.{word_of, word_bytes}
use Rattle.law_targets.proofs.examples.boot_members_of_a_table.Goals as goal

alone : (j : ℕ) (q : Partition) → IsSecondOf lone_target_table 0 j q → ⊥
alone zero q is =
    let same : plain_partition (sectors 2 3) 0xfc020000 ≡ q = same_Some _ q is.stands in
    let one : 0 ≡ 1 = ap link_type same ∙ (is.says).0 in
    omega (arith, one)
alone (suc j) q is = let none : None ≡ Some q = is.stands in cc

pub returns-clause-table : goal.returns-clause-table
unfolding table_in decision_in image_in def_of loop_of follow block_from block_at front_block item_words frame size_of
    word_of word_bytes
returns-clause-table c = refl

pub returns-clause-first : goal.returns-clause-first
unfolding table_in decision_in image_in def_of loop_of follow block_from block_at front_block item_words frame size_of
    word_of word_bytes
returns-clause-first c = record {
  place = 0;
  unit = pair_unit (window_at 0x2000 0x2000) 0 (window_at 0x4000 0x2000) 1;
  member = A;
  other = window_at 0x4000 0x2000;
  tried = refl;
  stands = refl;
  pair = refl;
}

pub returns-clause-second : goal.returns-clause-second
unfolding table_in decision_in image_in def_of loop_of follow block_from block_at front_block item_words frame size_of
    word_of word_bytes
returns-clause-second c = record {
  place = 0;
  unit = pair_unit (window_at 0x2000 0x2000) 0 (window_at 0x4000 0x2000) 1;
  member = B;
  other = window_at 0x2000 0x2000;
  tried = refl;
  stands = refl;
  pair = refl;
}

pub returns-clause-ignored : goal.returns-clause-ignored
unfolding table_in decision_in image_in def_of loop_of follow block_from block_at front_block item_words frame size_of
    word_of word_bytes
returns-clause-ignored c = λ boot_member. not-both (flags_table 0x400 0) 6
    (found-sound (pair_flash 0x400 0) (found_in_slot 0 (flags_table 0x400 0)) refl)
    Riscv (window_at 0x2000 0x2000)
    (home-words (pair_flash 0x400 0) Riscv (window_at 0x2000 0x2000)
    (found_in_slot 0 (flags_table 0x400 0)) refl boot_member)
    (record {
      number = 0;
      first = plain_partition (sectors 2 3) 0xfc020400;
      stands = refl;
      no_second = λ same. absurd (omega (arith, same));
      kept = inr refl;
      other = 1;
      second = plain_partition (sectors 4 5) 0xfc020002;
      pair = record { stands = refl; says = (refl, refl) };
      member = inl refl;
    })

pub returns-clause-kept : goal.returns-clause-kept
unfolding table_in decision_in image_in def_of loop_of follow block_from block_at front_block item_words frame size_of
    word_of word_bytes
returns-clause-kept c = record {
  number = 0;
  first = plain_partition (sectors 2 3) 0xfc020400;
  stands = refl;
  no_second = λ same. absurd (omega (arith, same));
  kept = inr refl;
  other = 1;
  second = plain_partition (sectors 4 5) 0xfc020002;
  pair = record { stands = refl; says = (refl, refl) };
  member = inl refl;
}

pub returns-clause-gated : goal.returns-clause-gated
unfolding table_in decision_in image_in def_of loop_of follow block_from block_at front_block item_words frame size_of
    word_of word_bytes
returns-clause-gated c = refl

pub returns-clause-stays : goal.returns-clause-stays
unfolding table_in decision_in image_in def_of loop_of follow block_from block_at front_block item_words frame size_of
    word_of word_bytes
returns-clause-stays c = refl

pub returns-clause-not_by_the_second : goal.returns-clause-not_by_the_second
unfolding table_in decision_in image_in def_of loop_of follow block_from block_at front_block item_words frame size_of
    word_of word_bytes
returns-clause-not_by_the_second c = refl

pub returns-clause-lone_table : goal.returns-clause-lone_table
unfolding table_in decision_in image_in def_of loop_of follow block_from block_at front_block item_words frame size_of
    word_of word_bytes
returns-clause-lone_table c = refl

pub returns-clause-lone : goal.returns-clause-lone
unfolding table_in decision_in image_in def_of loop_of follow block_from block_at front_block item_words frame size_of
    word_of word_bytes
returns-clause-lone c = λ boot_member. lone-not lone_target_table 6
    (found-sound lone_flash (found_in_slot 0 lone_target_table) refl) Arm 0
    (plain_partition (sectors 2 3) 0xfc020000) refl (λ same. absurd (omega (arith, same))) alone
    (home-words lone_flash Arm (window_at 0x2000 0x2000) (found_in_slot 0 lone_target_table) refl boot_member)

pub returns-clause-lone_target : goal.returns-clause-lone_target
unfolding table_in decision_in image_in def_of loop_of follow block_from block_at front_block item_words frame size_of
    word_of word_bytes
returns-clause-lone_target c = refl
