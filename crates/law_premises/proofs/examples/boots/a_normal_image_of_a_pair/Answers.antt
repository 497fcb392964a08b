use Rattle.std.proofs.Common.{◌≡◌, false, Ok, Err, refl, sym, subst, ◌∙◌}
use Rattle.std.proofs.lemmas.Option.{same_Some}
use Rattle.pico_board.specs.declared.boot.Cpu.TheVariants.{Arm}
use Rattle.pico_board.specs.declared.window.Window.{Window}
use Rattle.block_codec.specs.Blocks.{frame}
use Rattle.block_codec.specs.Items.{size_of}
use Rattle.block_codec.specs.Reading.{block_at, front_block, item_words}
use Rattle.block_codec.specs.Words.{word_bytes, word_of}
use Rattle.block_loop.specs.Loop.{block_from, follow, loop_of}
use Rattle.image_def.specs.Definition.{def_of}
use Rattle.image_check.specs.declared.why.Why.TheVariants.{NoBlock}
use Rattle.image_check.specs.Image.{image_at, image_in}
use Rattle.image_check.specs.Valid.{Valid}
use Rattle.image_check.proofs.LawLemmas.{at-valid, valid-at}
use Rattle.slot_choice.specs.Examples.{window_at}
use Rattle.worked_flashes.specs.Flashes.{bare, beside_former}
use Rattle.worked_flashes.specs.Images.{in_a}
use Rattle.worked_flashes.specs.Writes.{slot}
use Rattle.law_premises.proofs.examples.boots.a_normal_image_of_a_pair.Goals as goal

none : image_at (beside_former bare) slot Arm false ≡ Err NoBlock
unfolding image_in def_of loop_of follow block_from block_at front_block item_words frame size_of word_of word_bytes
none = refl

there : image_at (beside_former bare) (window_at 0x2000 0x1e000) Arm false ≡ Ok (in_a 1 9 false)
unfolding image_in def_of loop_of follow block_from block_at front_block item_words frame size_of word_of word_bytes
there = refl

pub returns-clause-first : goal.returns-clause-first
returns-clause-first c = record {
  window = window_at 0x2000 0x1e000;
  stands = refl;
  valid = valid-at (beside_former bare) (window_at 0x2000 0x1e000) Arm false (in_a 1 9 false) there;
}

pub returns-clause-second : goal.returns-clause-second
returns-clause-second c = λ s image.
    let valid = subst (λ (w : Window). Valid (beside_former bare) w Arm false s)
    (sym (same_Some slot image.window image.stands)) image.valid in
    let e : Err NoBlock ≡ Ok s = sym none ∙ at-valid (beside_former bare) slot Arm false s valid in cc
