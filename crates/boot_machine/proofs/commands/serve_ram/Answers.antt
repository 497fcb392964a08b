use Rattle.std.proofs.Common.{ap, ◌∙◌, subst, ◌<◌, ◌^◌}
use Rattle.ram_start.specs.Serving.{ram_command}
use Rattle.boot_machine.specs.Serving.{ram_outcome}
use Rattle.boot_machine.proofs.ReplyLemmas.{ram-few}
use Rattle.boot_machine.proofs.commands.serve_ram.Goals as goal

pub returns-clause-outcome : goal.returns-clause-outcome
returns-clause-outcome g c =
    let content = (g.B.Board.state c.args.board.now).content in
    let cmd = c.args.cmd.now in
    let r = ram_command content c.args.ram.now c.args.cpu c.args.busy cmd c.args.payload.now in
    let most = subst (λ n. n < 2 ^ 32) c.size-most.ensures c.size-most.type_inv in
    let few = ram-few content c.args.ram.now c.args.cpu c.args.busy cmd c.args.payload.now most in
    c.ram_outcome.ensures r.reply (c.ram_apply-done.ensures.reply _ c.new-reply.ensures) few
    ∙ (ap (λ status. ram_outcome cmd status r.reply c.ram_apply-done.result.start) c.ram_apply-done.ensures.status
    ∙ ap (λ start. ram_outcome cmd r.status r.reply start) c.ram_apply-done.ensures.start)
