use Rattle.std.proofs.Common.{◌∙◌, sym}
use Rattle.boot_sweep.proofs.KnownLemmas.{image-erased, some-false, table-erased, table-none, table-there}
use Rattle.boot_sweep.proofs.slots.image_beside.Goals.{then-slot-via-then-slot, then-slot-via-else-slot+then-is_none}
use Rattle.boot_sweep.proofs.slots.image_beside.Goals as goal

pub returns-then-is_erased-clause-table : goal.returns-then-is_erased-clause-table
returns-then-is_erased-clause-table g c = λ x beside.
    table-erased x c.args.cpu c.args.slot (g.B.Board.state c.args.board.now).content beside
    (c.is_erased.ensures c.if-is_erased.true)

pub returns-then-is_erased-clause-image : goal.returns-then-is_erased-clause-image
returns-then-is_erased-clause-image g c =
    image-erased (g.B.Board.state c.args.board.now).content c.args.cpu c.args.slot.window
    (c.is_erased.ensures c.if-is_erased.true)

pub returns-then-slot-clause-table : goal.returns-then-slot-clause-table
returns-then-slot-clause-table g c = λ x beside.
    let d = (g.B.Board.state c.args.board.now).content in
    elim c.then-slot.branch [
      | then-slot-via-then-slot w ↦ table-there x c.args.cpu c.args.slot d beside w.if-slot.true
      | then-slot-via-else-slot+then-is_none w ↦
          table-none x c.args.cpu c.args.slot d beside
          (sym w.find_table.ensures.exact ∙ some-false w.find_table.result w.if-is_none.ensures)
    ]
