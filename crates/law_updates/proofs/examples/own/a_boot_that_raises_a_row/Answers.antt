-- By computing.
use Rattle.std.proofs.Common.{◌≡◌, [], ◌∷◌, refl}
use Rattle.sha2.specs.Sha256.{compress, digest_bytes, first_words, hash_after, rounds, schedule, sha256}
use Rattle.std.specs.Int.Count.{ones, ones_in}
use Rattle.trial_buy.specs.Buying.{page_programs}
use Rattle.boot_rules.specs.Tables.{table_in}
use Rattle.boot_rules.specs.Choosing.{decision_in}
use Rattle.image_check.specs.Image.{image_in}
use Rattle.image_def.specs.Definition.{def_of}
use Rattle.block_loop.specs.Loop.{loop_of, follow, block_from}
use Rattle.block_codec.specs.Blocks.{frame}
use Rattle.block_codec.specs.Reading.{block_at, front_block, item_words}
use Rattle.block_codec.specs.Items.{size_of}
use Rattle.block_codec.specs.Words.{word_of, word_bytes}
use Rattle.otp_roll.specs.Raises.{lowest_clear}
use Rattle.pico_board.specs.declared.Step.TheVariants.{Raise}
use Rattle.pico_board.specs.declared.boot.BootKind.TheVariants.{Normal}
use Rattle.pico_board.specs.declared.boot.Cpu.TheVariants.{Arm}
use Rattle.boot_rules.specs.declared.decision.Decision.TheVariants.{Start}
use Rattle.boot_rules.specs.Chosen.{Chosen}
use Rattle.boot_rules.proofs.DecisionLemmas.{chosen-exactly}
use Rattle.trial_buy.specs.Starting.{start_steps}
use Rattle.law_boot_cuts.specs.Examples.{three_raises}
use Rattle.law_updates.specs.Rising.{rising_choice, rising_images}
use Rattle.law_updates.proofs.examples.own.a_boot_that_raises_a_row.Goals as goal

starts : Start rising_choice ≡ decision_in (rising_images 0 0 0) Arm Normal
unfolding first_words schedule rounds compress hash_after digest_bytes sha256 page_programs ones ones_in
    lowest_clear table_in decision_in image_in def_of loop_of follow block_from block_at front_block item_words frame
    size_of word_of word_bytes
starts = refl

chosen : Chosen (rising_images 0 0 0) Arm Normal (Start rising_choice)
chosen = (chosen-exactly (rising_images 0 0 0) Arm Normal (Start rising_choice)).1 starts

steps : start_steps (rising_images 0 0 0) Arm rising_choice ≡ three_raises
unfolding first_words schedule rounds compress hash_after digest_bytes sha256 page_programs ones ones_in
    lowest_clear table_in decision_in image_in def_of loop_of follow block_from block_at front_block item_words frame
    size_of word_of word_bytes
steps = refl

pub returns-clause-whole : goal.returns-clause-whole
returns-clause-whole c = record { chosen = chosen; rest = []; begins = steps }

pub returns-clause-cut : goal.returns-clause-cut
returns-clause-cut c =
    record { chosen = chosen; rest = Raise 0x0c1 3 ∷ (Raise 0x0c2 3 ∷ []); begins = steps }

pub returns-clause-same : goal.returns-clause-same
returns-clause-same c = record {
  choice = rising_choice;
  chosen = chosen;
  normal = rising_choice;
  would = chosen;
  same = refl;
  raises = (tt, (tt, (tt, tt)));
}
