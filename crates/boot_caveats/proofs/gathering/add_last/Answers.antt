use Rattle.std.proofs.Common.{length, subst, sym, Option, ℕ}
use Rattle.std.specs.Prelude.{IfSome}
use Rattle.part_table.specs.declared.table.Table.{Table}
use Rattle.boot_reasons.specs.Reasons.{table_of_reasons}
use Rattle.boot_caveats.specs.Reads.{AreLooksInside, ArePartsInside}
use Rattle.boot_caveats.proofs.ReadLemmas.{parts-inside, reasons-inside, slots-fit}
use Rattle.boot_caveats.proofs.gathering.add_last.Goals as goal

pub add_slots-requires-clause-inside : goal.add_slots-requires-clause-inside
add_slots-requires-clause-inside g c =
    slots-fit (g.B.Board.state c.args.board.now).content c.args.cpu c.args.kind c.args.reasons.now
    (g.met.B.Board.is_content c.args.board.now) c.requires.reasons

pub add_members-requires-clause-inside : goal.add_members-requires-clause-inside
add_members-requires-clause-inside g c =
    let content = (g.B.Board.state c.args.board.now).content in
    subst (AreLooksInside (length content.flash)) (sym c.as_slice.ensures.value)
    (reasons-inside content c.args.cpu c.args.kind c.args.reasons.now (g.met.B.Board.is_content c.args.board.now)
    c.requires.reasons)

pub add_no_reads-requires : goal.add_no_reads-requires
add_no_reads-requires g c =
    let content = (g.B.Board.state c.args.board.now).content in
    record {
      inside = subst (λ (o : Option Table). IfSome o (λ t. ArePartsInside c.flash_len.result t.parts.items))
          (sym c.taken_table-table.ensures)
          (subst (λ (n : ℕ). IfSome (table_of_reasons c.args.reasons.now) (λ t. ArePartsInside n t.parts.items))
          (sym c.flash_len.ensures)
          (parts-inside content c.args.cpu c.args.kind c.args.reasons.now c.requires.reasons));
    }
