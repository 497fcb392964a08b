use Rattle.std.proofs.Common.{subst, sym, Result}
use Rattle.part_table.specs.declared.table.Table.{Table}
use Rattle.boot_rules.specs.declared.slots.SlotFault.{SlotFault}
use Rattle.boot_rules.specs.TableRules.{IsSlotAnswer}
use Rattle.boot_rules.proofs.SlotLemmas.{answer-right}
use Rattle.boot_rules.proofs.tables.slot_answer.Goals as goal

pub returns-clause-rules : goal.returns-clause-rules
returns-clause-rules g c =
    let content = (g.B.Board.state c.args.board.now).content in
    subst (λ (r : Result Table SlotFault). IsSlotAnswer content c.args.number r) (sym c.slot_answer_in.ensures.exact)
    (answer-right content c.args.number)
