use Rattle.std.proofs.Common.{◌∙◌, sym, arith}
use Rattle.cli_inputs.proofs.RowLemmas.{wide-none}
use Rattle.cli_inputs.proofs.boards.wide_row.Goals as goal

pub returns : goal.returns
returns c = sym (c.loop-place.invariant ∙ wide-none c.args.file.now c.loop-place.place (omega arith))
