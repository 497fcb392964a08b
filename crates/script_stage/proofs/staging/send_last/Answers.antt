use Rattle.std.proofs.Common.{◌∙◌, ◌++◌, ap}
use Rattle.boot_script.specs.Written.{written_event}
use Rattle.script_plan.specs.Commands.{sent}
use Rattle.script_stage.proofs.StageLemmas.{two-sent}
use Rattle.script_stage.proofs.staging.send_last.Goals as goal

pub returns : goal.returns
returns c =
    two-sent c.send-2.result c.args.out.now.items _ _ _ _
    (c.in_ok-send.ensures
    ∙ ap (λ cmd. c.args.out.now.items ++ written_event (sent cmd c.args.bytes.now)) c.write.ensures)
    (rw (← c.update.ensures) c.send-2.ensures)
