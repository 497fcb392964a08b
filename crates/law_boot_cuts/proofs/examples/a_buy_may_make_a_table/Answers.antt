-- By computing.
use Rattle.std.proofs.Common.{◌≡◌, ◌⊎◌, false, Option, None, Some, refl, sym, subst, inl, inr}
use Rattle.std.proofs.Math.Dec.{lit≤}
use Rattle.sha2.specs.Sha256.{compress, digest_bytes, first_words, hash_after, rounds, schedule, sha256}
use Rattle.std.specs.Int.Count.{ones, ones_in}
use Rattle.trial_buy.specs.Buying.{page_programs}
use Rattle.boot_rules.specs.Tables.{table_in}
use Rattle.boot_rules.specs.Choosing.{decision_in}
use Rattle.image_check.specs.Image.{image_in}
use Rattle.image_def.specs.Definition.{def_of}
use Rattle.block_loop.specs.Loop.{loop_of, follow, block_from}
use Rattle.block_codec.specs.Blocks.{frame}
use Rattle.block_codec.specs.Reading.{block_at, front_block, item_words}
use Rattle.block_codec.specs.Items.{size_of}
use Rattle.block_codec.specs.Words.{word_of, word_bytes}
use Rattle.otp_roll.specs.Raises.{lowest_clear}
use Rattle.pico_board.specs.declared.boot.Cpu.TheVariants.{Arm}
use Rattle.pico_board.specs.declared.window.Window.{Window}
use Rattle.pico_board.specs.Content.{Content, window_bytes}
use Rattle.image_check.specs.Valid.{Valid}
use Rattle.image_check.specs.SameImage.{SameImage}
use Rattle.image_check.proofs.HoldLemmas.{hold-same, same-range}
use Rattle.image_check.proofs.LawLemmas.{valid-at, valid-holds}
use Rattle.slot_choice.specs.Examples.{window_at}
use Rattle.boot_rules.specs.AccidentalImages.{HasNoAccidentalImage}
use Rattle.law_boot_cuts.specs.Examples.{hidden_table, table_sector, torn_sector, whole_image}
use Rattle.worked_flashes.proofs.ContentLemmas.{all_below, content-by, torn-before}
use Rattle.law_boot_cuts.proofs.examples.a_buy_may_make_a_table.Goals as goal

abbrev before : Content
before = hidden_table (table_sector 0x90210142)

abbrev after : Content
after = hidden_table (table_sector 0x10210142)

abbrev torn : Content
torn = hidden_table torn_sector

pub returns-clause-tableless : goal.returns-clause-tableless
unfolding all_below first_words schedule rounds compress hash_after digest_bytes sha256 page_programs ones ones_in
    lowest_clear table_in decision_in image_in def_of loop_of follow block_from block_at front_block item_words frame
    size_of word_of word_bytes
returns-clause-tableless c = refl

pub returns-clause-before : goal.returns-clause-before
unfolding all_below first_words schedule rounds compress hash_after digest_bytes sha256 page_programs ones ones_in
    lowest_clear table_in decision_in image_in def_of loop_of follow block_from block_at front_block item_words frame
    size_of word_of word_bytes
returns-clause-before c = refl

pub returns-clause-started : goal.returns-clause-started
unfolding all_below first_words schedule rounds compress hash_after digest_bytes sha256 page_programs ones ones_in
    lowest_clear table_in decision_in image_in def_of loop_of follow block_from block_at front_block item_words frame
    size_of word_of word_bytes
returns-clause-started c = refl

pub returns-clause-done : goal.returns-clause-done
unfolding all_below first_words schedule rounds compress hash_after digest_bytes sha256 page_programs ones ones_in
    lowest_clear table_in decision_in image_in def_of loop_of follow block_from block_at front_block item_words frame
    size_of word_of word_bytes
returns-clause-done c = refl

pub returns-clause-table : goal.returns-clause-table
unfolding all_below first_words schedule rounds compress hash_after digest_bytes sha256 page_programs ones ones_in
    lowest_clear table_in decision_in image_in def_of loop_of follow block_from block_at front_block item_words frame
    size_of word_of word_bytes
returns-clause-table c = refl

pub returns-clause-after : goal.returns-clause-after
unfolding all_below first_words schedule rounds compress hash_after digest_bytes sha256 page_programs ones ones_in
    lowest_clear table_in decision_in image_in def_of loop_of follow block_from block_at front_block item_words frame
    size_of word_of word_bytes
returns-clause-after c = refl

pub returns-clause-torn_table : goal.returns-clause-torn_table
unfolding all_below first_words schedule rounds compress hash_after digest_bytes sha256 page_programs ones ones_in
    lowest_clear table_in decision_in image_in def_of loop_of follow block_from block_at front_block item_words frame
    size_of word_of word_bytes
returns-clause-torn_table c = refl

pub returns-clause-torn : goal.returns-clause-torn
unfolding all_below first_words schedule rounds compress hash_after digest_bytes sha256 page_programs ones ones_in
    lowest_clear table_in decision_in image_in def_of loop_of follow block_from block_at front_block item_words frame
    size_of word_of word_bytes
returns-clause-torn c = refl

pub returns-clause-content : goal.returns-clause-content
unfolding all_below first_words schedule rounds compress hash_after digest_bytes sha256 page_programs ones ones_in
    lowest_clear table_in decision_in image_in def_of loop_of follow block_from block_at front_block item_words frame
    size_of word_of word_bytes
returns-clause-content c = content-by before 0x3000 refl refl refl refl refl refl refl

pub returns-clause-cut : goal.returns-clause-cut
unfolding all_below first_words schedule rounds compress hash_after digest_bytes sha256 page_programs ones ones_in
    lowest_clear table_in decision_in image_in def_of loop_of follow block_from block_at front_block item_words frame
    size_of word_of word_bytes
returns-clause-cut c = record { stands = refl; torn = torn-before _ torn 17 _ refl }

image-torn : Valid torn (window_at 0 0x3000) Arm false (whole_image false)
unfolding all_below first_words schedule rounds compress hash_after digest_bytes sha256 page_programs ones ones_in
    lowest_clear table_in decision_in image_in def_of loop_of follow block_from block_at front_block item_words frame
    size_of word_of word_bytes
image-torn = valid-at torn (window_at 0 0x3000) Arm false (whole_image false) refl

image-after : Valid after (window_at 0 0x3000) Arm false (whole_image false)
unfolding all_below first_words schedule rounds compress hash_after digest_bytes sha256 page_programs ones ones_in
    lowest_clear table_in decision_in image_in def_of loop_of follow block_from block_at front_block item_words frame
    size_of word_of word_bytes
image-after = valid-at after (window_at 0 0x3000) Arm false (whole_image false) refl

same-after : SameImage torn after (whole_image false) Arm
unfolding all_below first_words schedule rounds compress hash_after digest_bytes sha256 page_programs ones ones_in
    lowest_clear table_in decision_in image_in def_of loop_of follow block_from block_at front_block item_words frame
    size_of word_of word_bytes
same-after =
    let one = window_bytes torn (window_at 0 0x3000) in
    let two = window_bytes after (window_at 0 0x3000) in
    hold-same Arm one two (whole_image false) _ _ _
    (valid-holds torn (window_at 0 0x3000) Arm false (whole_image false) image-torn) refl refl refl refl
    (same-range one two 0 20 (lit≤ tt) (lit≤ tt) refl, (same-range one two 0x10d8 36 (lit≤ tt) (lit≤ tt) refl, tt))
    tt

same-tables : table_in torn ≡ table_in before
unfolding all_below first_words schedule rounds compress hash_after digest_bytes sha256 page_programs ones ones_in
    lowest_clear table_in decision_in image_in def_of loop_of follow block_from block_at front_block item_words frame
    size_of word_of word_bytes
same-tables = refl

accident_free : HasNoAccidentalImage before after torn (window_at 0 0x3000) Arm
accident_free = record {
  table = same-tables;
  image = inr (
    whole_image false,
    record {
      valid = image-torn;
      known = inr (record { valid = image-after; same = same-after });
    },
  );
}

pub returns-clause-no_accident : goal.returns-clause-no_accident
returns-clause-no_accident c = λ v is confined. go v is
  where
    go : (v : Window) → (v ≡ window_at 0 0x3000) ⊎ (let o : Option Window = None in o ≡ Some v)
        → HasNoAccidentalImage before after torn v Arm
    go v (inl same) = subst (λ w. HasNoAccidentalImage before after torn w Arm) (sym same) accident_free
    go v (inr other) = cc

pub returns-clause-own : goal.returns-clause-own
returns-clause-own c = inr (refl, refl)
