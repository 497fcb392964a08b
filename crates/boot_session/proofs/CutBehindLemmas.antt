-- The session that is cut behind its image, by computing.
use Rattle.std.proofs.Common.{◌≡◌, ◌++◌, inl, inr, false, [], ◌∷◌, refl, ap, ◌∙◌, arith}
use Rattle.std.proofs.Math.Dec.{lit≤, lit<}
use Rattle.pico_board.specs.declared.boot.BootKind.TheVariants.{Normal}
use Rattle.pico_board.specs.declared.boot.Cpu.TheVariants.{Arm}
use Rattle.pico_board.specs.Content.{Content, window_bytes}
use Rattle.pico_board.specs.Sessions.{Unfinished}
use Rattle.pico_board.specs.declared.Step.TheVariants.{Erase, Program}
use Rattle.pico_board.specs.Steps.{CutOf, after, after_all}
use Rattle.block_codec.specs.Blocks.{frame}
use Rattle.block_codec.specs.Items.{size_of}
use Rattle.block_codec.specs.Reading.{block_at, front_block, item_words}
use Rattle.block_codec.specs.Words.{word_bytes, word_of}
use Rattle.block_loop.specs.Loop.{block_from, follow, loop_of}
use Rattle.image_def.specs.Definition.{def_of}
use Rattle.image_check.specs.Image.{image_in}
use Rattle.image_check.specs.SameImage.{SameImage}
use Rattle.image_check.specs.Valid.{Valid}
use Rattle.image_check.proofs.HoldLemmas.{hold-same, same-range}
use Rattle.image_check.proofs.LawLemmas.{valid-at, valid-holds}
use Rattle.boot_rules.specs.declared.decision.Decision.TheVariants.{Start}
use Rattle.boot_rules.specs.Choosing.{decision_in}
use Rattle.boot_rules.specs.Tables.{table_in}
use Rattle.boot_rules.specs.AccidentalImages.{HasNoAccidentalImage}
use Rattle.worked_flashes.proofs.ContentLemmas.{torn-before}
use Rattle.worked_flashes.specs.Flashes.{small_with, beside_small, data_page, mapped_page, vector_page}
use Rattle.worked_flashes.specs.Choices.{small_finished, small_slot}
use Rattle.worked_flashes.specs.Writes.{mapped_steps}
use Rattle.boot_session.proofs.ExampleLemmas.{small_before, differ}

abbrev pub cut_short : Content
cut_short = beside_small (small_with (vector_page ++ mapped_page 0x0001000a))

abbrev pub finished : Content
finished = beside_small (small_with (vector_page ++ (mapped_page 0x0001000a ++ data_page)))

-- the steps but the last, and the last one
pub first-three : after_all small_before (Erase 4 ∷ Program 64 vector_page ∷ Program 65 (mapped_page 0x0001000a) ∷ [])
    ≡ cut_short
unfolding word_bytes
first-three = refl

pub last-one : after cut_short (Program 66 data_page) ≡ finished
unfolding word_bytes
last-one = refl

pub done : after_all small_before mapped_steps ≡ finished
done = ap (λ (x : Content). after x (Program 66 data_page)) first-three ∙ last-one

pub cut : CutOf small_before mapped_steps cut_short
cut = inr (inr (inr (inl (torn-before _ cut_short 66 data_page first-three))))

pub starts-short : decision_in cut_short Arm Normal ≡ Start small_finished
unfolding table_in decision_in image_in def_of loop_of follow block_from block_at front_block item_words frame size_of
    word_of word_bytes
starts-short = refl

pub starts-finished : decision_in finished Arm Normal ≡ Start small_finished
unfolding table_in decision_in image_in def_of loop_of follow block_from block_at front_block item_words frame size_of
    word_of word_bytes
starts-finished = refl

pub same-table : table_in cut_short ≡ table_in small_before
unfolding table_in loop_of follow block_from block_at front_block item_words frame size_of word_of word_bytes
same-table = refl

pub table-after : table_in finished ≡ table_in small_before
unfolding table_in loop_of follow block_from block_at front_block item_words frame size_of word_of word_bytes
table-after = refl

pub valid-short : Valid cut_short small_slot Arm false small_finished.image
unfolding image_in def_of loop_of follow block_from block_at front_block item_words frame size_of word_of word_bytes
valid-short = valid-at cut_short small_slot Arm false small_finished.image refl

pub valid-finished : Valid finished small_slot Arm false small_finished.image
unfolding image_in def_of loop_of follow block_from block_at front_block item_words frame size_of word_of word_bytes
valid-finished = valid-at finished small_slot Arm false small_finished.image refl

pub same-image : SameImage cut_short finished small_finished.image Arm
unfolding image_in def_of loop_of follow block_from block_at front_block item_words frame size_of word_of word_bytes
same-image =
    let one = window_bytes cut_short small_slot in
    let two = window_bytes finished small_slot in
    hold-same Arm one two small_finished.image _ _ _
    (valid-holds cut_short small_slot Arm false small_finished.image valid-short) refl refl refl refl
    (same-range one two 0x100 32 (lit≤ tt) (lit≤ tt) refl, tt)
    tt

pub accident_free : HasNoAccidentalImage small_before finished cut_short small_slot Arm
accident_free = record {
  table = same-table;
  image = inr (
    small_finished.image,
    record { valid = valid-short; known = inr (record { valid = valid-finished; same = same-image }) },
  );
}

pub unfinished : Unfinished small_before mapped_steps small_slot cut_short
unfolding word_bytes
unfinished = record {
  moved = differ cut_short small_before 0x4000 0 255 refl refl (λ e. omega (arith, e));
  short = λ same. differ cut_short finished 0x4200 255 0x55 refl refl (λ e. omega (arith, e)) (same ∙ done);
  touched = (0, lit< tt, λ e. omega (arith, e));
}
