-- What a slot has or lacks, by the function and in the words of the rules.
use Rattle.std.proofs.Common.{◌≡◌, ℕ, ◌*◌, ◌/◌, List, length, Option, Some, None, Result, Ok, Err, refl, sym, ap, ◌∙◌, subst}
use Rattle.std.specs.Prelude.{find, reverse}
use Rattle.std.specs.Result.{result_ok}
use Rattle.std.proofs.lemmas.Option.{same_Some}
use Rattle.pico_board.specs.Content.{Content}
use Rattle.block_codec.specs.Blocks.{BlockView}
use Rattle.block_loop.specs.Loop.{loop_of}
use Rattle.block_loop.specs.declared.fault.LoopFault.{LoopFault}
use Rattle.block_loop.proofs.ChainLemmas.{loop_of-loop, loop_of-fault}
use Rattle.block_loop.proofs.SameLoopLemmas.{IsLoop-from_answer, IsFault-from_answer}
use Rattle.image_check.proofs.LastLemmas.{found-last, last-found, none-passes, passes-none}
use Rattle.otp_roll.specs.Flags.{slot_size}
use Rattle.part_table.specs.declared.table.Table.{Table}
use Rattle.part_table.specs.declared.table.TableFault.{TableFault}
use Rattle.part_table.specs.TableOf.{has_table, table_of}
use Rattle.part_table.proofs.AnswerLemmas.{read_to, read_back}
use Rattle.boot_rules.specs.declared.slots.SlotFault.{SlotFault}
use Rattle.boot_rules.specs.declared.slots.SlotFault.TheVariants.{Loop, NoTable, Table as Faulty}
use Rattle.boot_rules.specs.Tables.{answer_in_block, answer_in_loop, block_answer, found_of, slot_answer_in, table_in}
use Rattle.boot_rules.specs.TableRules.{IsSlotAnswer, IsSlotTable, slot_bytes}

-- an answer that has this table
answer-of : (r : Result Table SlotFault) (t : Table) → result_ok r ≡ Some t → r ≡ Ok t
answer-of (Ok x) t e = ap Ok (same_Some x t e)
answer-of (Err f) t e = cc

module _ (c : Content) (number : ℕ) where
  abbrev bytes : List ℕ
  bytes = slot_bytes c number

  abbrev sectors : ℕ
  sectors = length c.flash / 4096

  abbrev first : ℕ
  first = 2 * slot_size c.otp (length c.flash) / 4096

  -- the answer is right by the rules
  pub answer-right : IsSlotAnswer c number (slot_answer_in c number)
  answer-right = by_loop (loop_of bytes) refl
    where
      by_read : (loop : List BlockView) → loop_of bytes ≡ Ok loop → (b : BlockView)
          → find has_table (reverse loop) ≡ Some b → (r : Result Table TableFault) → table_of b sectors first ≡ r
          → IsSlotAnswer c number (block_answer r)
      by_read loop closes b last (Ok t) is = record {
        loop = loop;
        block = b;
        closes = IsLoop-from_answer bytes loop closes;
        last = last-found has_table loop b last;
        reads = read_to b sectors first (Ok t) is;
      }
      by_read loop closes b last (Err f) is = record {
        loop = loop;
        block = b;
        closes = IsLoop-from_answer bytes loop closes;
        last = last-found has_table loop b last;
        reads = read_to b sectors first (Err f) is;
      }

      by_block : (loop : List BlockView) → loop_of bytes ≡ Ok loop → (o : Option BlockView)
          → find has_table (reverse loop) ≡ o → IsSlotAnswer c number (answer_in_block sectors first o)
      by_block loop closes None none = record {
        loop = loop;
        closes = IsLoop-from_answer bytes loop closes;
        without = none-passes has_table loop none;
      }
      by_block loop closes (Some b) last = by_read loop closes b last (table_of b sectors first) refl

      by_loop : (r : Result (List BlockView) LoopFault) → loop_of bytes ≡ r
          → IsSlotAnswer c number (answer_in_loop sectors first r)
      by_loop (Ok loop) closes = by_block loop closes (find has_table (reverse loop)) refl
      by_loop (Err f) is = IsFault-from_answer bytes f is

  -- and no other one is
  pub answer-only : (r : Result Table SlotFault) → IsSlotAnswer c number r → r ≡ slot_answer_in c number
  answer-only (Ok t) is =
      sym (ap (answer_in_loop sectors first) (loop_of-loop bytes is.loop is.closes)
      ∙ (ap (answer_in_block sectors first) (found-last has_table is.loop is.block is.last)
      ∙ ap block_answer (read_back is.block sectors first (Ok t) is.reads)))
  answer-only (Err (Loop f)) is = sym (ap (answer_in_loop sectors first) (loop_of-fault bytes f is))
  answer-only (Err NoTable) is =
      sym (ap (answer_in_loop sectors first) (loop_of-loop bytes is.loop is.closes)
      ∙ ap (answer_in_block sectors first) (passes-none has_table is.loop is.without))
  answer-only (Err (Faulty f)) is =
      sym (ap (answer_in_loop sectors first) (loop_of-loop bytes is.loop is.closes)
      ∙ (ap (answer_in_block sectors first) (found-last has_table is.loop is.block is.last)
      ∙ ap block_answer (read_back is.block sectors first (Err f) is.reads)))

  -- the slot's table is the one that its answer has
  pub has-table : (t : Table) → result_ok (slot_answer_in c number) ≡ Some t → IsSlotTable c number t
  has-table t e = subst (λ (r : Result Table SlotFault). IsSlotAnswer c number r)
      (answer-of (slot_answer_in c number) t e) answer-right

  pub table-has : (t : Table) → IsSlotTable c number t → result_ok (slot_answer_in c number) ≡ Some t
  table-has t is = sym (ap (λ (r : Result Table SlotFault). result_ok r) (answer-only (Ok t) is))

-- the table of a content by the answers of its slots
pub table-found : (c : Content) → table_in c
    ≡ found_of (result_ok (slot_answer_in c 0)) (result_ok (slot_answer_in c 1))
unfolding table_in
table-found c = refl
