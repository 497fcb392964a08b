use Rattle.std.proofs.Common.{refl}
use Rattle.boot_sweep.specs.declared.moves.Move.TheVariants.{Done}
use Rattle.boot_tape.proofs.TraceLemmas.{ready-more}
use Rattle.boot_tape.proofs.trace.Tape.complete.Goals as goal

pub returns-clause-ready : goal.returns-clause-ready
returns-clause-ready c = λ n is range. record {
  pattern = is.pattern;
  inside = ready-more n n c.args.self.now.moves.items c.push.new.self.items (Done c.args.step.now) refl
      c.in_ok-push.ensures.items is.inside range;
}
