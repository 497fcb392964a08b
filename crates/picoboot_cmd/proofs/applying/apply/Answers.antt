use Rattle.std.proofs.Common.{◌∙◌, sym}
use Rattle.std.specs.Option.{option_map}
use Rattle.picoboot_cmd.proofs.PassingLemmas.{ready}
use Rattle.picoboot_cmd.proofs.applying.apply.Goals as goal

pub do_command-requires-clause-ready : goal.do_command-requires-clause-ready
do_command-requires-clause-ready g c =
    ready _ (g.B.Board.state c.args.board.now).content.otp (option_map (λ t. t.now) c.args.table)
    c.args.busy c.args.cmd.now c.args.payload.now (sym c.status_of-status.ensures ∙ c.if-status-ne-OK.false)
