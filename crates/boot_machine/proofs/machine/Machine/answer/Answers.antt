use Rattle.std.proofs.Common.{subst}
use Rattle.boot_script.specs.Events.{event_from}
use Rattle.boot_machine.specs.Serving.{served_event}
use Rattle.boot_machine.specs.Standing.{Serves}
use Rattle.boot_machine.proofs.machine.Machine.answer.Goals as goal

pub returns : goal.returns
returns g c = record {
  serves = subst (λ parts. Serves g.B.Board.state g.B.Board.history parts
      (λ content cpu host. served_event content cpu host (event_from c.args.event.now)) c.serve.result.boot
      c.serve.new.parts c.serve.result.outcome) c.self.view_is c.serve.ensures.serves;
}
