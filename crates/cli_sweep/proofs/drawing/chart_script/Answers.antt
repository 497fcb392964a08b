use Rattle.boot_script.proofs.JudgingLemmas.{script-formed}
use Rattle.cli_sweep.proofs.ChartRuleLemmas.{swept-few}
use Rattle.cli_sweep.proofs.drawing.chart_script.Goals as goal

pub swept-requires-clause-script : goal.swept-requires-clause-script
swept-requires-clause-script c = script-formed c.args.script.bytes.now c.args.script.whole

pub drawn-requires-clause-steps : goal.drawn-requires-clause-steps
drawn-requires-clause-steps c =
    (swept-few _ _ _ _ c.in-Ok.found c.in-Ok.ensures.found c.in-Ok.ensures.swept).0

pub drawn-requires-clause-cuts : goal.drawn-requires-clause-cuts
drawn-requires-clause-cuts c =
    (swept-few _ _ _ _ c.in-Ok.found c.in-Ok.ensures.found c.in-Ok.ensures.swept).1
