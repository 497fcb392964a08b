use Rattle.std.proofs.Common.{arith}
use Rattle.cli_inputs.proofs.RowLemmas.{rows-more, rows-all, rows-count}
use Rattle.cli_inputs.proofs.boards.file_rows.Goals as goal

pub loop-place-preserved : goal.loop-place-preserved
loop-place-preserved c =
    rows-more c.args.file.now c.loop-place.rows.items c.push.new.self.items c.loop-place.place c.row_at.result
    c.loop-place-test.true
    c.row_at.ensures c.loop-place.invariant c.in_ok-push.ensures.items

pub returns-clause-rows : goal.returns-clause-rows
returns-clause-rows c =
    rows-all c.args.file.now c.loop-place.rows.items c.loop-place.place (omega arith) c.loop-place.invariant

pub returns-clause-count : goal.returns-clause-count
returns-clause-count c =
    rows-count c.args.file.now c.loop-place.rows.items
    (rows-all c.args.file.now c.loop-place.rows.items c.loop-place.place (omega arith) c.loop-place.invariant)
