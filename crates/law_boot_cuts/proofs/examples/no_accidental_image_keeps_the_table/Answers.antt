-- By computing.
use Rattle.std.proofs.Common.{◌≡◌, false, None, Some, refl, sym, ◌∙◌}
use Rattle.boot_rules.specs.Tables.{table_in}
use Rattle.image_check.specs.Image.{image_in}
use Rattle.image_def.specs.Definition.{def_of}
use Rattle.block_loop.specs.Loop.{loop_of, follow, block_from}
use Rattle.block_codec.specs.Blocks.{frame}
use Rattle.block_codec.specs.Reading.{block_at, front_block, item_words}
use Rattle.block_codec.specs.Items.{size_of}
use Rattle.block_codec.specs.Words.{word_of, word_bytes}
use Rattle.pico_board.specs.declared.boot.Cpu.TheVariants.{Arm}
use Rattle.slot_choice.specs.Examples.{window_at}
use Rattle.worked_flashes.specs.Flashes.{empty_table}
use Rattle.boot_rules.specs.Examples.{found_in_slot}
use Rattle.worked_flashes.specs.Flashes.{bare_sector, one_sector, table_and_bare}
use Rattle.boot_rules.proofs.AccidentalImageLemmas.{former-free}
use Rattle.law_boot_cuts.proofs.examples.no_accidental_image_keeps_the_table.Goals as goal

table-there : table_in table_and_bare ≡ Some (found_in_slot 0 (empty_table false 0 0))
unfolding table_in image_in def_of loop_of follow block_from block_at front_block item_words frame size_of word_of
    word_bytes
table-there = refl

table-bare : table_in (one_sector bare_sector) ≡ None
unfolding table_in image_in def_of loop_of follow block_from block_at front_block item_words frame size_of word_of
    word_bytes
table-bare = refl

differ : table_in table_and_bare ≡ table_in (one_sector bare_sector) → ⊥
differ e = let h : Some (found_in_slot 0 (empty_table false 0 0)) ≡ None = sym table-there ∙ e ∙ table-bare in cc

pub returns-clause-gone : goal.returns-clause-gone
returns-clause-gone c = λ z w no_accident. differ (sym no_accident.table)

pub returns-clause-came : goal.returns-clause-came
returns-clause-came c = λ z w no_accident. differ no_accident.table

pub returns-clause-kept : goal.returns-clause-kept
returns-clause-kept c = λ z. former-free table_and_bare z table_and_bare (window_at 0x1000 0x1000) Arm refl refl refl
