use Rattle.boot_script.proofs.JudgingLemmas.{script-formed}
use Rattle.boot_script.proofs.WalkLemmas.{walk-first}
use Rattle.boot_script.proofs.script.Script.events.Goals as goal

pub invariant_of-result : goal.invariant_of-result
invariant_of-result c =
    walk-first c.args.self.now.bytes.now (script-formed c.args.self.now.bytes.now c.args.self.now.whole)
