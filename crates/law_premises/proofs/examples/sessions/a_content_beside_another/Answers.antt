use Rattle.std.proofs.Common.{◌≡◌, is_some, Option, None, Some, true, refl}
use Rattle.std.specs.Prelude.{IsSome}
use Rattle.pico_board.proofs.ConfinementLemmas.{confined-MayLeave}
use Rattle.block_codec.specs.Blocks.{frame}
use Rattle.block_codec.specs.Items.{size_of}
use Rattle.block_codec.specs.Reading.{block_at, front_block, item_words}
use Rattle.block_codec.specs.Words.{word_bytes, word_of}
use Rattle.block_loop.specs.Loop.{block_from, follow, loop_of}
use Rattle.boot_rules.specs.declared.tables.Found.{Found}
use Rattle.boot_rules.specs.Tables.{table_in}
use Rattle.worked_flashes.specs.Flashes.{bare, begins_with, beside_former, vector_page}
use Rattle.worked_flashes.specs.Writes.{plain_steps, slot}
use Rattle.law_premises.proofs.examples.sessions.a_content_beside_another.Goals as goal

some : (o : Option Found) → is_some o ≡ true → IsSome o
some None e = cc
some (Some found) e = refl

has-table : is_some (table_in (beside_former bare)) ≡ true
unfolding table_in loop_of follow block_from block_at front_block item_words frame size_of word_of word_bytes
has-table = refl

pub returns : goal.returns
returns c =
    let s = c.a_confined_session.ensures.session in
    record {
      right = s.right;
      boot_member = s.boot_member;
      table = λ is. some (table_in (beside_former bare)) has-table;
      same =
          confined-MayLeave (beside_former bare) slot plain_steps (beside_former (begins_with vector_page)) s.confined
          s.leaves;
    }
