use Rattle.std.proofs.Common.{◌∙◌, ◌++◌, [], ap}
use Rattle.boot_script.specs.Written.{written_event}
use Rattle.script_plan.specs.Commands.{sent}
use Rattle.script_stage.proofs.StageLemmas.{stage-sent}
use Rattle.script_stage.proofs.staging.send_image.Goals as goal

pub returns : goal.returns
returns c =
    stage-sent c.send_last.result c.args.at c.args.page c.args.image.now _ _ _ _ c.args.out.now.items _ _ _ _ _ _ _ _
    c.part_of-rest.ensures c.part_of.ensures c.part_of-behind.ensures c.part_of-last.ensures
    (c.in_ok-send.ensures
    ∙ ap (λ cmd. c.args.out.now.items ++ written_event (sent cmd [])) c.erase.ensures)
    c.in_ok-token.ensures.sent c.in_ok-token-2.ensures.sent c.in_ok-token-3.ensures.sent c.send_last.ensures
