use Rattle.std.proofs.Common.{◌≡◌, false, Ok, Err, refl, sym, ◌∙◌}
use Rattle.pico_board.specs.declared.boot.Cpu.TheVariants.{Arm}
use Rattle.block_codec.specs.Blocks.{frame}
use Rattle.block_codec.specs.Items.{size_of}
use Rattle.block_codec.specs.Reading.{block_at, front_block, item_words}
use Rattle.block_codec.specs.Words.{word_bytes, word_of}
use Rattle.block_loop.specs.Loop.{block_from, follow, loop_of}
use Rattle.image_def.specs.Definition.{def_of}
use Rattle.image_check.specs.declared.why.Why.TheVariants.{NoBlock}
use Rattle.image_check.specs.Image.{image_at, image_in}
use Rattle.image_check.proofs.LawLemmas.{at-valid, valid-at}
use Rattle.worked_flashes.specs.Flashes.{arm_member, bare, beside_former}
use Rattle.worked_flashes.specs.Images.{in_b}
use Rattle.worked_flashes.specs.Writes.{slot}
use Rattle.law_premises.proofs.examples.boots.a_slot_without_an_image.Goals as goal

none : image_at (beside_former bare) slot Arm false ≡ Err NoBlock
unfolding image_in def_of loop_of follow block_from block_at front_block item_words frame size_of word_of word_bytes
none = refl

there : image_at (beside_former (arm_member 0x0001000a)) slot Arm false ≡ Ok (in_b 1 10 false)
unfolding image_in def_of loop_of follow block_from block_at front_block item_words frame size_of word_of word_bytes
there = refl

pub returns-clause-bare : goal.returns-clause-bare
returns-clause-bare c = λ s valid.
    let e : Err NoBlock ≡ Ok s = sym none ∙ at-valid (beside_former bare) slot Arm false s valid in cc

pub returns-clause-written : goal.returns-clause-written
returns-clause-written c = λ empty.
    empty (in_b 1 10 false) (valid-at (beside_former (arm_member 0x0001000a)) slot Arm false (in_b 1 10 false) there)
