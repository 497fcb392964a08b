-- By computing.
use Rattle.std.proofs.Common.{◌≡◌, false, None, Some, refl, sym, ◌∙◌, arith, inl, inr}
use Rattle.std.specs.Prelude.{slice_index}
use Rattle.std.proofs.Math.Dec.{lit≤}
use Rattle.std.specs.Int.Count.{ones, ones_in}
use Rattle.boot_rules.specs.Tables.{table_in}
use Rattle.image_check.specs.Image.{image_in}
use Rattle.image_def.specs.Definition.{def_of}
use Rattle.block_loop.specs.Loop.{loop_of, follow, block_from}
use Rattle.block_codec.specs.Blocks.{frame}
use Rattle.block_codec.specs.Reading.{block_at, front_block, item_words}
use Rattle.block_codec.specs.Items.{size_of}
use Rattle.block_codec.specs.Words.{word_of, word_bytes}
use Rattle.pico_board.specs.declared.boot.Cpu.TheVariants.{Arm}
use Rattle.pico_board.specs.declared.window.Window.{Window}
use Rattle.pico_board.specs.Content.{window_bytes}
use Rattle.image_def.specs.declared.started.Started.{Started}
use Rattle.image_check.specs.SameImage.{SameImage}
use Rattle.image_check.specs.Valid.{Valid}
use Rattle.image_check.proofs.HoldLemmas.{hold-same, same-range}
use Rattle.image_check.proofs.LawLemmas.{valid-at, valid-holds}
use Rattle.image_check.proofs.SameLemmas.{same-block, same-storage}
use Rattle.slot_choice.specs.Examples.{window_at}
use Rattle.boot_rules.specs.Choosing.{images_in}
use Rattle.boot_rules.proofs.DecisionLemmas.{valid-found}
use Rattle.worked_flashes.specs.Flashes.{bare_sector, one_sector, plain_sector}
use Rattle.law_boot_cuts.specs.Examples.{mapped_sector, rows_image, sector_image, three_images, trial_sector}
use Rattle.boot_rules.proofs.AccidentalImageLemmas.{empty-free, finished-free, former-free, free-image}
use Rattle.law_boot_cuts.proofs.examples.the_former_and_the_finished_image_are_no_accident.Goals as goal

abbrev second : Window
second = window_at 0x1000 0x1000

bare-none : images_in (one_sector bare_sector) Arm second false ≡ None
unfolding table_in image_in def_of loop_of follow block_from block_at front_block item_words frame size_of word_of
    word_bytes
bare-none = refl

no-image : (s : Started) → Valid (one_sector bare_sector) second Arm false s → ⊥
no-image s valid =
    let h : None ≡ Some s = sym bare-none ∙ valid-found (one_sector bare_sector) Arm second false s valid in cc

valid-plain : Valid (one_sector (plain_sector 0)) second Arm false sector_image
unfolding table_in image_in def_of loop_of follow block_from block_at front_block item_words frame size_of word_of
    word_bytes
valid-plain = valid-at (one_sector (plain_sector 0)) second Arm false sector_image refl

valid-other : Valid (one_sector (plain_sector 1)) second Arm false sector_image
unfolding table_in image_in def_of loop_of follow block_from block_at front_block item_words frame size_of word_of
    word_bytes
valid-other = valid-at (one_sector (plain_sector 1)) second Arm false sector_image refl

valid-mapped : Valid (one_sector (mapped_sector 0)) second Arm false sector_image
unfolding table_in image_in def_of loop_of follow block_from block_at front_block item_words frame size_of word_of
    word_bytes
valid-mapped = valid-at (one_sector (mapped_sector 0)) second Arm false sector_image refl

pub returns-clause-bare : goal.returns-clause-bare
unfolding table_in image_in def_of loop_of follow block_from block_at front_block item_words frame size_of word_of
    word_bytes
returns-clause-bare c = empty-free (one_sector (plain_sector 0)) (one_sector (plain_sector 1))
    (one_sector bare_sector) second Arm refl no-image

pub returns-clause-former : goal.returns-clause-former
returns-clause-former c = former-free (one_sector (plain_sector 0)) (one_sector bare_sector)
    (one_sector (plain_sector 0)) second Arm refl refl refl

pub returns-clause-finished : goal.returns-clause-finished
unfolding table_in image_in def_of loop_of follow block_from block_at front_block item_words frame size_of word_of
    word_bytes
returns-clause-finished c = finished-free (one_sector bare_sector) (one_sector (plain_sector 0))
    (one_sector (plain_sector 0)) second Arm refl refl refl

pub returns-clause-new : goal.returns-clause-new
returns-clause-new c = λ no_accident.
    elim (free-image (one_sector bare_sector) (one_sector bare_sector)
    (one_sector (plain_sector 0)) second Arm no_accident
    sector_image valid-plain) [
      | inl known ↦ no-image sector_image known.valid
      | inr known ↦ no-image sector_image known.valid
    ]

-- without a load map the last byte counts
last-byte : SameImage (one_sector (plain_sector 1)) (one_sector (plain_sector 0)) sector_image Arm → ⊥
unfolding table_in image_in def_of loop_of follow block_from block_at front_block item_words frame size_of word_of
    word_bytes
last-byte same =
    let one = window_bytes (one_sector (plain_sector 1)) second in
    let two = window_bytes (one_sector (plain_sector 0)) second in
    let agree = same-storage Arm one two sector_image same _ refl _ refl in
    let e : slice_index two 0xfff ≡ slice_index one 0xfff = agree 0xfff (lit≤ tt) (lit≤ tt) in
    absurd (omega (arith, e))

pub returns-clause-other_byte : goal.returns-clause-other_byte
returns-clause-other_byte c = λ no_accident.
    elim (free-image (one_sector (plain_sector 0)) (one_sector (plain_sector 0)) (one_sector (plain_sector 1)) second
    Arm no_accident sector_image valid-other) [ inl known ↦ last-byte known.same | inr known ↦ last-byte known.same ]

valid-moved : Valid (one_sector (mapped_sector 1)) second Arm false sector_image
unfolding table_in image_in def_of loop_of follow block_from block_at front_block item_words frame size_of word_of
    word_bytes
valid-moved = valid-at (one_sector (mapped_sector 1)) second Arm false sector_image refl

-- with a load map of no entry the blocks alone count
same-mapped : SameImage (one_sector (mapped_sector 1)) (one_sector (mapped_sector 0)) sector_image Arm
unfolding table_in image_in def_of loop_of follow block_from block_at front_block item_words frame size_of word_of
    word_bytes
same-mapped =
    let one = window_bytes (one_sector (mapped_sector 1)) second in
    let two = window_bytes (one_sector (mapped_sector 0)) second in
    hold-same Arm one two sector_image _ _ _
    (valid-holds (one_sector (mapped_sector 1)) second Arm false sector_image valid-moved) refl refl refl refl
    (same-range one two 8 24 (lit≤ tt) (lit≤ tt) refl, tt)
    tt

pub returns-clause-byte_outside : goal.returns-clause-byte_outside
unfolding table_in image_in def_of loop_of follow block_from block_at front_block item_words frame size_of word_of
    word_bytes
returns-clause-byte_outside c = record {
  table = refl;
  image = inr (
    sector_image,
    record {
      valid = valid-moved;
      known = inl (record { valid = valid-mapped; same = same-mapped });
    },
  );
}

-- the second item word of the blocks differs
block-word : SameImage (one_sector (mapped_sector 0)) (one_sector (plain_sector 0)) sector_image Arm → ⊥
unfolding table_in image_in def_of loop_of follow block_from block_at front_block item_words frame size_of word_of
    word_bytes
block-word same =
    let one = window_bytes (one_sector (mapped_sector 0)) second in
    let two = window_bytes (one_sector (plain_sector 0)) second in
    let agree = same-block Arm one two sector_image same _ refl 0 _ refl in
    let e : slice_index two 16 ≡ slice_index one 16 = agree 16 (lit≤ tt) (lit≤ tt) in
    absurd (omega (arith, e))

pub returns-clause-other_block : goal.returns-clause-other_block
returns-clause-other_block c = λ no_accident.
    elim (free-image (one_sector (plain_sector 0)) (one_sector bare_sector) (one_sector (mapped_sector 0)) second Arm
    no_accident sector_image valid-mapped) [
      | inl known ↦ block-word known.same
      | inr known ↦ no-image sector_image known.valid
    ]

trial-none : images_in (one_sector trial_sector) Arm second false ≡ None
unfolding table_in image_in def_of loop_of follow block_from block_at front_block item_words frame size_of
    word_of word_bytes
trial-none = refl

no-trial : (s : Started) → Valid (one_sector trial_sector) second Arm false s → ⊥
no-trial s valid =
    let h : None ≡ Some s = sym trial-none ∙ valid-found (one_sector trial_sector) Arm second false s valid in cc

pub returns-clause-trial : goal.returns-clause-trial
unfolding table_in image_in def_of loop_of follow block_from block_at front_block item_words frame size_of
    word_of word_bytes
returns-clause-trial c = empty-free (one_sector bare_sector) (one_sector bare_sector) (one_sector trial_sector) second
    Arm refl no-trial

pub returns-clause-was_trial : goal.returns-clause-was_trial
returns-clause-was_trial c = λ no_accident.
    elim (free-image (one_sector trial_sector) (one_sector bare_sector)
    (one_sector (plain_sector 0)) second Arm no_accident
    sector_image valid-plain) [
      | inl known ↦ no-trial sector_image known.valid
      | inr known ↦ no-image sector_image known.valid
    ]

-- on rows of a count of 2 the first of three images is below them
below-none : images_in (three_images 0x0c0 3 3 3) Arm (window_at 0x2000 0x1000) false ≡ None
unfolding ones ones_in table_in image_in def_of loop_of follow block_from block_at front_block item_words frame size_of
    word_of word_bytes
below-none = refl

valid-first : Valid (three_images 0x0c0 0 0 0) (window_at 0x2000 0x1000) Arm false
    (rows_image (window_at 0x2000 0x1000) 0 0x0c0)
unfolding ones ones_in table_in image_in def_of loop_of follow block_from block_at front_block item_words frame size_of
    word_of word_bytes
valid-first = valid-at (three_images 0x0c0 0 0 0) (window_at 0x2000 0x1000) Arm false
    (rows_image (window_at 0x2000 0x1000) 0 0x0c0) refl

not-below : (s : Started) → Valid (three_images 0x0c0 3 3 3) (window_at 0x2000 0x1000) Arm false s → ⊥
not-below s valid =
    let h : None ≡ Some s = sym below-none
    ∙ valid-found (three_images 0x0c0 3 3 3) Arm (window_at 0x2000 0x1000) false s
    valid in cc

pub returns-clause-was_below : goal.returns-clause-was_below
returns-clause-was_below c = λ no_accident.
    elim (free-image (three_images 0x0c0 3 3 3) (three_images 0x0c0 3 3 3) (three_images 0x0c0 0 0 0)
    (window_at 0x2000 0x1000) Arm no_accident
    (rows_image (window_at 0x2000 0x1000) 0 0x0c0) valid-first) [
      | inl known ↦ not-below (rows_image (window_at 0x2000 0x1000) 0 0x0c0) known.valid
      | inr known ↦ not-below (rows_image (window_at 0x2000 0x1000) 0 0x0c0) known.valid
    ]
