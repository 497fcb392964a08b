-- The session that is cut within its image, by computing.
use Rattle.std.proofs.Common.{◌≡◌, ◌⊎◌, ◌++◌, inl, inr, false, [], ◌∷◌, None, Some, refl, sym, ap, ◌∙◌, subst, arith}
use Rattle.std.specs.Prelude.{slice_index}
use Rattle.std.proofs.Math.Dec.{lit≤, lit<}
use Rattle.std.proofs.lemmas.Option.{same_Some}
use Rattle.pico_board.specs.declared.boot.BootKind.TheVariants.{Normal}
use Rattle.pico_board.specs.declared.boot.Cpu.TheVariants.{Arm}
use Rattle.pico_board.specs.Content.{Content, window_bytes}
use Rattle.pico_board.specs.Sessions.{Unfinished}
use Rattle.pico_board.specs.declared.Step.TheVariants.{Erase, Program}
use Rattle.pico_board.specs.Steps.{after, after_all}
use Rattle.block_codec.specs.Blocks.{frame}
use Rattle.block_codec.specs.Items.{size_of}
use Rattle.block_codec.specs.Reading.{block_at, front_block, item_words}
use Rattle.block_codec.specs.Words.{word_bytes, word_of}
use Rattle.block_loop.specs.Loop.{block_from, follow, loop_of}
use Rattle.image_def.specs.Definition.{def_of}
use Rattle.image_def.specs.declared.started.Started.{Started}
use Rattle.image_check.specs.Image.{image_in}
use Rattle.image_check.specs.SameImage.{SameImage}
use Rattle.image_check.proofs.SameLemmas.{same-storage}
use Rattle.boot_rules.specs.declared.decision.Decision.TheVariants.{Start}
use Rattle.boot_rules.specs.Choosing.{decision_in, images_in}
use Rattle.worked_flashes.specs.Flashes.{arm_slot}
use Rattle.boot_rules.specs.Tables.{table_in}
use Rattle.boot_rules.proofs.DecisionLemmas.{found-valid, valid-found}
use Rattle.boot_rules.specs.AccidentalImages.{IsKnownImage, IsSameImageIn, HasNoAccidentalImage}
use Rattle.worked_flashes.specs.Flashes.{small_with, beside_small, block_page, data_page, vector_page}
use Rattle.worked_flashes.specs.Choices.{small_finished, small_slot}
use Rattle.worked_flashes.specs.Writes.{longer_steps}
use Rattle.boot_session.proofs.ExampleLemmas.{small_before, differ, none-some}

abbrev pub cut_short : Content
cut_short = beside_small (arm_slot 0x0001000a)

abbrev pub finished : Content
finished = beside_small (small_with (vector_page ++ (block_page 0x0001000a ++ data_page)))

-- the steps but the last, and the last one
pub first-three : after_all small_before (Erase 4 ∷ Program 64 vector_page ∷ Program 65 (block_page 0x0001000a) ∷ [])
    ≡ cut_short
unfolding word_bytes
first-three = refl

pub last-one : after cut_short (Program 66 data_page) ≡ finished
unfolding word_bytes
last-one = refl

pub done : after_all small_before longer_steps ≡ finished
done = ap (λ (x : Content). after x (Program 66 data_page)) first-three ∙ last-one

pub starts-short : decision_in cut_short Arm Normal ≡ Start small_finished
unfolding table_in decision_in image_in def_of loop_of follow block_from block_at front_block item_words frame size_of
    word_of word_bytes
starts-short = refl

pub starts-finished : decision_in finished Arm Normal ≡ Start small_finished
unfolding table_in decision_in image_in def_of loop_of follow block_from block_at front_block item_words frame size_of
    word_of word_bytes
starts-finished = refl

pub image-short : images_in cut_short Arm small_slot false ≡ Some small_finished.image
unfolding image_in def_of loop_of follow block_from block_at front_block item_words frame size_of word_of word_bytes
image-short = refl

pub image-before : images_in small_before Arm small_slot false ≡ None
unfolding image_in def_of loop_of follow block_from block_at front_block item_words frame size_of word_of word_bytes
image-before = refl

-- the first byte behind the block's page
pub other-byte : SameImage cut_short finished small_finished.image Arm → ⊥
unfolding image_in def_of loop_of follow block_from block_at front_block item_words frame size_of word_of word_bytes
other-byte same =
    let one = window_bytes cut_short small_slot in
    let two = window_bytes finished small_slot in
    let agree = same-storage Arm one two small_finished.image same _ refl _ refl in
    let e : slice_index two 0x200 ≡ slice_index one 0x200 = agree 0x200 (lit≤ tt) (lit≤ tt) in
    absurd (omega (arith, e))

pub unfinished : Unfinished small_before longer_steps small_slot cut_short
unfolding word_bytes
unfinished = record {
  moved = differ cut_short small_before 0x4000 0 255 refl refl (λ e. omega (arith, e));
  short = λ same. differ cut_short finished 0x4200 255 0x55 refl refl (λ e. omega (arith, e)) (same ∙ done);
  touched = (0, lit< tt, λ e. omega (arith, e));
}

pub never-known : (s : Started) → IsKnownImage small_before finished cut_short small_slot Arm s → ⊥
never-known s known =
    go (same_Some s small_finished.image (sym (valid-found cut_short Arm small_slot false s known.valid) ∙ image-short))
    known.known
  where
    go : s ≡ small_finished.image
        → IsSameImageIn small_before cut_short small_slot Arm s ⊎ IsSameImageIn finished cut_short small_slot Arm s → ⊥
    go is (inl former) = none-some _ s image-before (valid-found small_before Arm small_slot false s former.valid)
    go is (inr after) = other-byte (subst (λ (t : Started). SameImage cut_short finished t Arm) is after.same)

pub never-free : HasNoAccidentalImage small_before finished cut_short small_slot Arm → ⊥
never-free accident_free = elim accident_free.image [
  | inl none ↦ none small_finished.image (found-valid cut_short Arm small_slot false small_finished.image image-short)
  | inr some ↦ never-known some.0 some.1
]
