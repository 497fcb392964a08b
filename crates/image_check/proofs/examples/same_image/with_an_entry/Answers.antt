-- By computing.
use Rattle.std.proofs.Common.{◌≡◌, [], ◌∷◌, ◌++◌, refl, arith}
use Rattle.std.specs.Prelude.{false, slice_index}
use Rattle.pico_board.specs.declared.boot.Cpu.TheVariants.{Arm}
use Rattle.block_codec.specs.Blocks.{frame}
use Rattle.block_codec.specs.Reading.{block_at, front_block, item_words}
use Rattle.block_codec.specs.Items.{size_of}
use Rattle.block_codec.specs.Words.{word_bytes, word_of}
use Rattle.block_loop.specs.Loop.{block_from, follow, loop_of}
use Rattle.image_def.specs.Definition.{def_of}
use Rattle.image_check.specs.Image.{image_in}
use Rattle.image_check.specs.Examples.{record_at, map_of, right_pc}
use Rattle.worked_flashes.specs.Images.{arm_type, window_with}
use Rattle.worked_flashes.specs.Flashes.{otp_with}
use Rattle.image_check.proofs.HoldLemmas.{answered-held, hold-same, same-range}
use Rattle.image_check.proofs.SameLemmas.{same-storage}
use Rattle.image_check.proofs.examples.same_image.with_an_entry.Goals as goal

pub returns-clause-clear : goal.returns-clause-clear
unfolding image_in def_of loop_of follow block_from block_at front_block item_words frame size_of word_of word_bytes
returns-clause-clear c =
    let one = window_with right_pc (arm_type ∷ map_of 0 0x20000000 16) 0 in
    let two = window_with 0x20000005 (arm_type ∷ map_of 0 0x20000000 16) 0 in
    hold-same Arm one two (record_at right_pc false) _ _ _
    (answered-held Arm false (otp_with 0 0 0 0) one (record_at right_pc false) refl) refl refl refl refl
    (same-range one two 8 36 (omega arith) (omega arith) refl, tt)
    (tt, tt)

pub returns-clause-stored : goal.returns-clause-stored
unfolding image_in def_of loop_of follow block_from block_at front_block item_words frame size_of word_of word_bytes
returns-clause-stored c =
    let one = window_with right_pc (arm_type ∷ map_of 0xfffffff0 0x10000000 8) 0 ++ 7 ∷ [] in
    let two = window_with right_pc (arm_type ∷ map_of 0xfffffff0 0x10000000 8) 0 ++ 8 ∷ [] in
    hold-same Arm one two (record_at right_pc false) _ _ _
    (answered-held Arm false (otp_with 0 0 0 0) one (record_at right_pc false) refl) refl refl refl refl
    (same-range one two 8 36 (omega arith) (omega arith) refl, tt)
    (same-range one two 0 8 (omega arith) (omega arith) refl, tt)

pub returns-clause-other : goal.returns-clause-other
unfolding image_in def_of loop_of follow block_from block_at front_block item_words frame size_of word_of word_bytes
returns-clause-other c = λ s h.
    let one = window_with right_pc (arm_type ∷ map_of 0xfffffff0 0x10000000 8) 0 in
    let two = window_with 0x20000005 (arm_type ∷ map_of 0xfffffff0 0x10000000 8) 0 in
    let agree = same-storage Arm one two s h _ refl _ refl in
    let e : slice_index two 4 ≡ slice_index one 4 = agree.0 4 (omega arith) (omega arith) in
    absurd (omega (arith, e))
