use Rattle.svg_sweep.proofs.CountLemmas.{chart-marks, chart-times}
use Rattle.svg_sweep.proofs.laws.marks_are_those_of_the_data.Goals as goal

pub returns-clause-words : goal.returns-clause-words
returns-clause-words c = chart-marks

pub returns-clause-count : goal.returns-clause-count
returns-clause-count c = chart-times
