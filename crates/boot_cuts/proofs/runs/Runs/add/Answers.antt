use Rattle.std.proofs.Common.{◌∙◌, ◌+◌, ◌++◌, Option, Some, ap}
use Rattle.boot_cuts.specs.declared.runs.Run.{Run}
use Rattle.boot_cuts.specs.Runs.{next_runs, open_runs, option_list}
use Rattle.boot_cuts.proofs.RunLemmas.{one-more}
use Rattle.boot_cuts.proofs.runs.Runs.add.Goals as goal

pub returns-clause-runs : goal.returns-clause-runs
returns-clause-runs c = λ answers.
    let old = c.args.self.now in
    ap (λ ended. ended ++ open_runs (Some c.next_runs-ended.result.1) (old.next + 1) answers) c.in_ok-push_some.ensures
    ∙ (ap (λ (pair : Option Run × Run). (old.ended.items ++ option_list pair.0)
    ++ open_runs (Some pair.1) (old.next + 1) answers)
    (c.next_runs-ended.ensures ∙ ap (λ o. next_runs o old.next c.args.answer) c.take.ensures.value)
    ∙ one-more old.ended.items old.current old.next c.args.answer answers)
