-- A worked staged session, by computing.
use Rattle.std.proofs.Common.{◌≡◌, inl, inr, ℕ, ◌<◌, true, List, [], ◌∷◌, drop, None, Some, Ok, refl, sym, subst, arith, pos}
use Rattle.std.proofs.lemmas.Bool.{cases_lt}
use Rattle.pico_board.specs.declared.boot.Cpu.TheVariants.{Arm}
use Rattle.pico_board.specs.declared.step.Step.TheVariants.{Erase, Program}
use Rattle.pico_board.specs.Content.{Content, window_bytes}
use Rattle.pico_board.specs.Sessions.{Gated}
use Rattle.pico_board.specs.Steps.{after_all}
use Rattle.block_codec.specs.Blocks.{BlockAt, BlockView, frame}
use Rattle.block_codec.specs.Items.{size_of}
use Rattle.block_codec.specs.Reading.{block_at, front_block, item_words}
use Rattle.block_codec.specs.Words.{word_bytes, word_of}
use Rattle.block_codec.proofs.AtLemmas.{BlockAt-unique}
use Rattle.block_loop.specs.Loop.{IsFirstBlock, IsLoop, block_from, first_block, follow, loop_of}
use Rattle.block_loop.proofs.ChainLemmas.{first_block-found, first_from-none}
use Rattle.block_loop.proofs.SameLoopLemmas.{IsLoop-from_answer}
use Rattle.image_def.specs.Definition.{def_of}
use Rattle.image_check.specs.Image.{image_at, image_in}
use Rattle.image_check.specs.Valid.{Valid}
use Rattle.image_check.proofs.LawLemmas.{valid-at}
use Rattle.boot_sweep.specs.Firms.{HasNoOtherBlock}
use Rattle.worked_flashes.specs.Choices.{finished_start}
use Rattle.worked_flashes.specs.Flashes.{arm_member, bare, beside_former, block_page, vector_page}
use Rattle.worked_flashes.specs.Writes.{plain_steps, slot}
use Rattle.law_staged.specs.Staged.{Staged}

-- the one block below 4096 stands at 0x100
lone : (bytes : List ℕ) (a : BlockView) → first_block bytes ≡ Some a → a.at ≡ 0x100
    → block_from 959 0x104 (drop 0x104 bytes) ≡ None → (x : ℕ) (b : BlockView) → x < 4096 → BlockAt bytes x b → b ≡ a
lone bytes a found place none x b low at =
    let first = first_block-found bytes a found in
    elim (cases_lt x 0x100) [
      | inl before ↦ absurd (first.least x b (omega (arith, before, place)) at)
      | inr from ↦ elim (cases_lt x 0x104) [
        | inl here ↦
            let aligned = at.aligned in
            let same : x ≡ a.at = omega (arith, from, here, aligned, place) in
            BlockAt-unique bytes a.at b a (subst (λ y. BlockAt bytes y b) same at) first.stands
        | inr behind ↦ absurd (first_from-none bytes 959 0x104 refl none x b behind (omega (arith, low)) at)
      ]
    ]

-- the content after the session, and its one block in the slot
abbrev finished : Content
finished = beside_former (arm_member 0x0001000a)

abbrev the_block : BlockView
the_block = record { at = 0x100; items = 0x10210142 ∷ 0x00000248 ∷ 0x0001000a ∷ []; link = pos 0 }

found : first_block (window_bytes finished slot) ≡ Some the_block
unfolding block_from front_block item_words frame size_of word_of word_bytes
found = refl

looped : loop_of (window_bytes finished slot) ≡ Ok (the_block ∷ [])
unfolding loop_of follow block_from block_at front_block item_words frame size_of word_of word_bytes
looped = refl

nothing-behind : block_from 959 0x104 (drop 0x104 (window_bytes finished slot)) ≡ None
unfolding block_from front_block item_words frame size_of word_of word_bytes
nothing-behind = refl

image-there : image_at finished slot Arm true ≡ Ok finished_start.image
unfolding image_in def_of loop_of follow block_from block_at front_block item_words frame size_of word_of word_bytes
image-there = refl

alone : HasNoOtherBlock (window_bytes finished slot) (the_block ∷ [])
alone x b low at =
    (0, omega arith, sym (lone (window_bytes finished slot) the_block found refl nothing-behind x b low at))

pub staged : after_all (beside_former bare) plain_steps ≡ finished → Gated plain_steps slot
    → Staged (beside_former bare) plain_steps slot Arm
staged done gated =
    let back = sym done in record {
      gated = gated;
      image = finished_start.image;
      valid = subst (λ z. Valid z slot Arm true finished_start.image) back
          (valid-at finished slot Arm true finished_start.image image-there);
      loop = the_block ∷ [];
      closes = subst (λ z. IsLoop (window_bytes z slot) (the_block ∷ [])) back
          (IsLoop-from_answer (window_bytes finished slot) (the_block ∷ []) looped);
      alone = subst (λ z. HasNoOtherBlock (window_bytes z slot) (the_block ∷ [])) back alone;
      first = the_block;
      begins = subst (λ z. IsFirstBlock (window_bytes z slot) the_block) back
          (first_block-found (window_bytes finished slot) the_block found);
      before = Erase 32 ∷ Program 512 vector_page ∷ [];
      bytes = block_page 0x0001000a;
      last = refl;
      off = (tt, ((λ (e : 512 ≡ 513). absurd (omega (arith, e))), tt));
    }
