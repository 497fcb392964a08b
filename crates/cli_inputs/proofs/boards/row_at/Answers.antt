use Rattle.cli_inputs.proofs.RowLemmas.{row-read}
use Rattle.cli_inputs.proofs.boards.row_at.Goals as goal

pub returns : goal.returns
returns c = row-read c.args.file.now c.args.place c.read_u32.result c.requires c.read_u32.ensures
