use Rattle.svg_sweep.proofs.PlaceLemmas.{kinds-fill, kinds-wide, rows-fill, rows-wide}
use Rattle.svg_sweep.proofs.laws.bars_fill_their_strips.Goals as goal

pub returns-clause-results : goal.returns-clause-results
returns-clause-results c = rows-fill

pub returns-clause-kinds : goal.returns-clause-kinds
returns-clause-kinds c = kinds-fill

pub returns-clause-widths : goal.returns-clause-widths
returns-clause-widths c = rows-wide

pub returns-clause-kind_widths : goal.returns-clause-kind_widths
returns-clause-kind_widths c = kinds-wide
