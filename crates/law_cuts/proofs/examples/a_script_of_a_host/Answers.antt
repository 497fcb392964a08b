-- By computing.
use Rattle.std.proofs.Common.{◌≡◌, inl, inr, true, List, [], ◌∷◌, ◌++◌, refl, ap}
use Rattle.std.specs.List.{list_any}
use Rattle.pico_board.specs.declared.Step.TheVariants.{Erase}
use Rattle.block_codec.specs.Blocks.{frame}
use Rattle.block_codec.specs.Items.{size_of}
use Rattle.block_codec.specs.Reading.{block_at, front_block, item_words}
use Rattle.block_codec.specs.Words.{word_bytes, word_of}
use Rattle.block_loop.specs.Loop.{block_from, follow, loop_of}
use Rattle.image_def.specs.Definition.{def_of}
use Rattle.image_check.specs.Image.{image_in}
use Rattle.boot_rules.specs.Choosing.{decision_in}
use Rattle.boot_rules.specs.Tables.{table_in}
use Rattle.picoboot_cmd.specs.Pages.{padded_page}
use Rattle.script_plan.specs.Commands.{erase_cmd, sent, write_cmd}
use Rattle.boot_machine.specs.Plays.{moved_machine}
use Rattle.boot_sweep.specs.Moving.{MoveView, Done}
use Rattle.boot_tape.specs.Moving.{does_step}
use Rattle.worked_flashes.specs.Choices.{small_former}
use Rattle.worked_flashes.specs.Flashes.{block_page, data_page, vector_page}
use Rattle.law_cuts.proofs.ExampleLemmas.{confined, elsewhere, same-table, slot}
use Rattle.law_cuts.proofs.examples.a_script_of_a_host.Goals as goal

pub returns-clause-hosts : goal.returns-clause-hosts
unfolding sent padded_page table_in decision_in image_in def_of loop_of follow block_from block_at front_block item_words
    frame size_of word_of word_bytes
returns-clause-hosts c = record {
  hosted = sent (erase_cmd 1 0x4000 0x1000) []
      ∷ sent (write_cmd 2 0x4000 0x300) (vector_page ++ (block_page 0x0001000a ++ data_page)) ∷ [];
  own = [];
  whole = refl;
  served = (refl, refl, (refl, refl, tt));
  rest = tt;
}

one-move : (moves : List MoveView) → moves ≡ Done (Erase 4) ∷ [] → list_any does_step moves ≡ true
one-move moves is = ap (λ (ms : List MoveView). list_any does_step ms) is

pub returns-clause-writes : goal.returns-clause-writes
unfolding moved_machine sent padded_page table_in decision_in image_in def_of loop_of follow block_from block_at front_block
    item_words frame size_of word_of word_bytes
returns-clause-writes c = inr (inr (inl (refl, one-move _ refl)))

pub returns-clause-starts : goal.returns-clause-starts
returns-clause-starts c = (small_former, c.a_cut_behind_the_image.ensures.session.former, refl)

pub returns-clause-keeps : goal.returns-clause-keeps
returns-clause-keeps c =
    record { slot = slot c.a_cut_behind_the_image.ensures.session.boot_member; confined = confined }

pub returns-clause-holds : goal.returns-clause-holds
returns-clause-holds c =
    let session = c.a_cut_behind_the_image.ensures.session in record {
      keeps = record { slot = slot session.boot_member; confined = confined };
      elsewhere = elsewhere session.former;
      table = same-table session.right session.boot_member;
    }
