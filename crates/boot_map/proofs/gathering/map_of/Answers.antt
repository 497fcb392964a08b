use Rattle.std.proofs.Common.{◌∙◌}
use Rattle.boot_reasons.proofs.TableReasonLemmas.{taken-from, told-from}
use Rattle.boot_map.proofs.MapLemmas.{map-from}
use Rattle.boot_map.proofs.gathering.map_of.Goals as goal

pub map_rows_in-rows-requires-clause-table : goal.map_rows_in-rows-requires-clause-table
map_rows_in-rows-requires-clause-table g c =
    let content = (g.B.Board.state c.args.board.now).content in
    c.taken_table.ensures
    ∙ taken-from content _ _ _ c.slot_answer-first.ensures.exact c.slot_answer-second.ensures.exact
    c.table_in_force-table.ensures

pub returns-clause-exact : goal.returns-clause-exact
returns-clause-exact g c =
    let content = (g.B.Board.state c.args.board.now).content in
    map-from content c.args.cpu _ _ _ _ _ c.decide-decision.ensures.function c.slot_answer-first.ensures.exact
    c.slot_answer-second.ensures.exact
    (told-from content _ _ _ c.slot_answer-first.ensures.exact c.slot_answer-second.ensures.exact
    c.table_in_force-table.ensures)
    c.map_rows_in-rows.ensures.exact
