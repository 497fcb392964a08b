use Rattle.std.proofs.Common.{ap, ◌∙◌}
use Rattle.boot_machine.specs.Serving.{info_reply, info_outcome}
use Rattle.boot_machine.proofs.infos.serve_info.Goals as goal

pub returns-clause-outcome : goal.returns-clause-outcome
returns-clause-outcome g c =
    let content = (g.B.Board.state c.args.board.now).content in
    let found = c.args.found.now in
    let cmd = c.args.cmd.now in
    c.command_outcome.ensures (info_reply c.info_reply-status.result content c.args.cpu found cmd)
    (c.info_reply-status.ensures.reply c.new-reply.ensures) c.info_reply-status.ensures.few
    ∙ ap (λ status. info_outcome status content c.args.cpu found cmd) c.info_reply-status.ensures.status
