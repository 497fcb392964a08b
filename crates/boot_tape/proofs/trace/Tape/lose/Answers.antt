use Rattle.std.proofs.Common.{refl, subst}
use Rattle.boot_sweep.specs.declared.moves.Move.TheVariants.{Torn}
use Rattle.boot_tape.specs.Playing.{HasPattern}
use Rattle.boot_tape.proofs.TraceLemmas.{ready-more}
use Rattle.boot_tape.proofs.trace.Tape.lose.Goals as goal

pub returns-clause-ready : goal.returns-clause-ready
returns-clause-ready c = λ n is range. record {
  pattern = tt;
  inside = ready-more n n c.args.self.now.moves.items c.push.new.self.items
      (Torn c.args.step.now c.args.armed.within c.args.armed.pattern) refl c.in_ok-push.ensures.items is.inside
      (range, subst HasPattern c.requires is.pattern);
}
