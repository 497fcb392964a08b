use Rattle.std.proofs.Common.{sym, ◌∙◌, ap, Option, Result, refl}
use Rattle.std.specs.Result.{result_ok}
use Rattle.part_table.specs.declared.table.Table.{Table}
use Rattle.slot_choice.specs.declared.choice.Choice.{Choice}
use Rattle.boot_reasons.specs.declared.looks.UnitReport.{UnitReport}
use Rattle.boot_rules.specs.declared.slots.SlotFault.{SlotFault}
use Rattle.boot_rules.specs.Tables.{slot_answer_in}
use Rattle.boot_reasons.specs.Slots.{taken_table, table_in_force}
use Rattle.boot_reasons.specs.Looks.{first_choice}
use Rattle.boot_reasons.specs.Reasons.{reported_decision, reasons_in}
use Rattle.boot_reasons.proofs.TableReasonLemmas.{taken-from, told-from}
use Rattle.boot_reasons.proofs.ReasonLemmas.{reasons-from}
use Rattle.boot_reasons.proofs.gathering.reasons_of.Goals as goal

pub reported_in-looked-requires-clause-table : goal.reported_in-looked-requires-clause-table
reported_in-looked-requires-clause-table g c =
    let content = (g.B.Board.state c.args.board.now).content in
    c.taken_table.ensures
    ∙ taken-from content _ _ _ c.slot_answer-first.ensures.exact c.slot_answer-second.ensures.exact
    c.table_in_force-table.ensures

pub returns-clause-exact : goal.returns-clause-exact
returns-clause-exact g c =
    let content = (g.B.Board.state c.args.board.now).content in
    reasons-from content c.args.cpu c.args.kind _ _ _ _ _ _ _ _ _ _
    (c.first_choice.ensures ∙ ap first_choice c.as_slice.ensures.value) c.reported_decision.ensures c.required.ensures
    c.flash_off-off.ensures c.slot_size.ensures c.slot_answer-first.ensures.exact c.slot_answer-second.ensures.exact
    c.table_in_force-table.ensures c.reported_in-looked.ensures.looks c.reported_in-looked.ensures.unreached
