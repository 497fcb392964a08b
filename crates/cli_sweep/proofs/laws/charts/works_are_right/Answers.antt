use Rattle.cli_sweep.proofs.ChartRuleLemmas.{chart-works}
use Rattle.cli_sweep.proofs.laws.charts.works_are_right.Goals as goal

pub returns : goal.returns
returns c = chart-works
