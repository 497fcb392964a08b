use Rattle.boot_script.specs.Events.{event_from}
use Rattle.boot_machine.proofs.ArmingLemmas.{plain-event, step-of}
use Rattle.boot_machine.proofs.stepping.step.Goals as goal

pub returns-in_default : goal.returns-in_default
returns-in_default g c = record {
  step = λ m stands.
      let plain = plain-event m c.args.event.now c.in_default.not-End c.in_default.not-Cut in
      step-of g.B.Board.state g.B.Board.history c.args.parts.now c.advance.new.parts m (event_from c.args.event.now)
      c.advance.result (plain.0) (plain.1) stands (c.advance.ensures.advances m stands);
  steady = c.advance.ensures.steady;
}
