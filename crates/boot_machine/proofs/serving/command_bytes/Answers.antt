use Rattle.std.proofs.Common.{ap, sym, ◌∙◌}
use Rattle.picoboot_cmd.specs.Commands.{command_in}
use Rattle.boot_machine.specs.Serving.{command_served, serves}
use Rattle.boot_machine.proofs.PlacingLemmas.{serves-as}
use Rattle.boot_machine.proofs.serving.command_bytes.Goals as goal

pub returns-in-Ok-clause-serves : goal.returns-in-Ok-clause-serves
returns-in-Ok-clause-serves g c =
    let payload = c.args.payload.now in
    serves-as g.B.Board.state g.B.Board.history _ _ (λ content cpu host. serves content cpu host c.in-Ok.cmd payload)
    (λ content cpu host. command_served content cpu host (command_in c.args.bytes.now) payload) _ _
    (λ content cpu host. ap (λ r. command_served content cpu host r payload) (sym c.in-Ok.is ∙ c.read_cmd.ensures))
    c.command.ensures.serves
