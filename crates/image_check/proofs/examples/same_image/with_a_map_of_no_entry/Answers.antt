-- By computing.
use Rattle.std.proofs.Common.{◌≡◌, [], ◌∷◌, ◌++◌, refl, arith}
use Rattle.std.specs.Prelude.{false, slice_index}
use Rattle.pico_board.specs.declared.boot.Cpu.TheVariants.{Arm}
use Rattle.block_codec.specs.Blocks.{frame}
use Rattle.block_codec.specs.Reading.{block_at, front_block, item_words}
use Rattle.block_codec.specs.Items.{size_of}
use Rattle.block_codec.specs.Words.{word_bytes, word_of}
use Rattle.block_loop.specs.Loop.{block_from, follow, loop_of}
use Rattle.image_def.specs.Definition.{def_of}
use Rattle.image_check.specs.Image.{image_in}
use Rattle.image_check.specs.Examples.{record_at, right_pc}
use Rattle.worked_flashes.specs.Images.{arm_type, window_with}
use Rattle.worked_flashes.specs.Flashes.{otp_with}
use Rattle.image_check.proofs.HoldLemmas.{answered-held, hold-same, same-range}
use Rattle.image_check.proofs.SameLemmas.{same-block}
use Rattle.image_check.proofs.examples.same_image.with_a_map_of_no_entry.Goals as goal

pub returns-clause-same : goal.returns-clause-same
unfolding image_in def_of loop_of follow block_from block_at front_block item_words frame size_of word_of word_bytes
returns-clause-same c =
    let one = window_with right_pc (arm_type ∷ 0x00000106 ∷ []) 0 ++ 7 ∷ [] in
    let two = window_with 0x20000005 (arm_type ∷ 0x00000106 ∷ []) 0 ++ 8 ∷ [] in
    hold-same Arm one two (record_at right_pc false) _ _ _
    (answered-held Arm false (otp_with 0 0 0 0) one (record_at right_pc false) refl) refl refl refl refl
    (same-range one two 8 24 (omega arith) (omega arith) refl, tt)
    tt

pub returns-clause-block : goal.returns-clause-block
unfolding image_in def_of loop_of follow block_from block_at front_block item_words frame size_of word_of word_bytes
returns-clause-block c = λ s h.
    let one = window_with right_pc (arm_type ∷ 0x00000106 ∷ []) 0 in
    let two = window_with right_pc (arm_type ∷ 0x00000106 ∷ []) 4 in
    let agree = same-block Arm one two s h _ refl 0 _ refl in
    let e : slice_index two 24 ≡ slice_index one 24 = agree 24 (omega arith) (omega arith) in
    absurd (omega (arith, e))
