use Rattle.svg_sweep.proofs.ChartTextLemmas.{chart-written}
use Rattle.svg_sweep.proofs.laws.pictures_are_ascii.Goals as goal

pub returns : goal.returns
returns c = chart-written
