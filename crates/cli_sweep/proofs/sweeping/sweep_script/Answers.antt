use Rattle.boot_script.proofs.JudgingLemmas.{script-formed}
use Rattle.cli_sweep.proofs.sweeping.sweep_script.Goals as goal

pub sweep-requires-clause-script : goal.sweep-requires-clause-script
sweep-requires-clause-script c = script-formed c.args.script.bytes.now c.args.script.whole
