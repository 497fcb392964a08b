-- By computing.
use Rattle.std.proofs.Common.{◌≡◌, [], true, refl, sym, append-nil, lit<}
use Rattle.sha2.specs.Sha256.{compress, digest_bytes, first_words, hash_after, rounds, schedule, sha256}
use Rattle.std.specs.Int.Count.{ones, ones_in}
use Rattle.trial_buy.specs.Buying.{page_programs}
use Rattle.boot_rules.specs.Tables.{table_in}
use Rattle.boot_rules.specs.Choosing.{decision_in}
use Rattle.image_check.specs.Image.{image_in}
use Rattle.image_def.specs.Definition.{def_of}
use Rattle.block_loop.specs.Loop.{loop_of, follow, block_from}
use Rattle.block_codec.specs.Blocks.{frame}
use Rattle.block_codec.specs.Reading.{block_at, front_block, item_words}
use Rattle.block_codec.specs.Items.{size_of}
use Rattle.block_codec.specs.Words.{word_of, word_bytes}
use Rattle.otp_roll.specs.Raises.{lowest_clear}
use Rattle.pico_board.specs.declared.boot.Cpu.TheVariants.{Arm}
use Rattle.check_laws.specs.OwnLaws.{raises_own}
use Rattle.check_laws.proofs.OwnLemmas.{buy-kept}
use Rattle.law_updates.specs.Rising.{a_rising_buy, rising_trial, rising_trial_choice}
use Rattle.law_updates.proofs.examples.own.a_buy_that_raises_rows.Goals as goal

raises-own : true ≡ raises_own rising_trial Arm rising_trial_choice.image a_rising_buy.done
unfolding first_words schedule rounds compress hash_after digest_bytes sha256 page_programs ones ones_in
    lowest_clear table_in decision_in image_in def_of loop_of follow block_from block_at front_block item_words frame
    size_of word_of word_bytes
raises-own = refl

pub returns-clause-begins : goal.returns-clause-begins
returns-clause-begins c = record { before = refl; rest = []; begins = sym (append-nil a_rising_buy.done) }

pub returns-clause-raises : goal.returns-clause-raises
unfolding first_words schedule rounds compress hash_after digest_bytes sha256 page_programs ones ones_in
    lowest_clear table_in decision_in image_in def_of loop_of follow block_from block_at front_block item_words frame
    size_of word_of word_bytes
returns-clause-raises c = (17, lit< tt, refl)

pub returns-clause-kept : goal.returns-clause-kept
returns-clause-kept c =
    (buy-kept rising_trial Arm rising_trial_choice.image a_rising_buy.done true raises-own rising_trial_choice refl).0 refl
