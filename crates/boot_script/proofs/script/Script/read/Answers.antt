use Rattle.std.proofs.Common.{sym, ◌∙◌}
use Rattle.boot_script.proofs.JudgingLemmas.{error-short, script-formed}
use Rattle.boot_script.proofs.script.Script.read.Goals as goal

pub returns-in-None-clause-form : goal.returns-in-None-clause-form
returns-in-None-clause-form c =
    script-formed c.args.bytes.now (error-short c.args.bytes.now c.if-bytes.false ∙ sym c.in-None.ensures)
