use Rattle.std.proofs.Common.{ap, sym}
use Rattle.picoboot_cmd.specs.Commands.{command_in}
use Rattle.uf2_place.specs.Blocks.{uf2_of}
use Rattle.boot_script.specs.Events.{event_from}
use Rattle.boot_machine.specs.Serving.{command_served, served_event, uf2_served}
use Rattle.boot_machine.proofs.PlacingLemmas.{serves-as}
use Rattle.boot_machine.proofs.serving.serve.Goals as goal

pub returns-in-Command-clause-serves : goal.returns-in-Command-clause-serves
returns-in-Command-clause-serves g c =
    serves-as g.B.Board.state g.B.Board.history _ _
    (λ content cpu host. command_served content cpu host (command_in c.in-Command.bytes.now) c.in-Command.payload.now)
    (λ content cpu host. served_event content cpu host (event_from c.args.event.now)) _ _
    (λ content cpu host. ap (λ e. served_event content cpu host (event_from e)) (sym c.in-Command.is))
    c.command_bytes.ensures.serves

pub returns-in-Uf2-clause-serves : goal.returns-in-Uf2-clause-serves
returns-in-Uf2-clause-serves g c =
    serves-as g.B.Board.state g.B.Board.history _ _
    (λ content cpu host. uf2_served content cpu host (uf2_of c.in-Uf2.bytes.now))
    (λ content cpu host. served_event content cpu host (event_from c.args.event.now)) _ _
    (λ content cpu host. ap (λ e. served_event content cpu host (event_from e)) (sym c.in-Uf2.is))
    c.block_bytes.ensures.serves
