use Rattle.std.proofs.Common.{refl, sym, ◌∙◌}
use Rattle.boot_session.proofs.RecorderLemmas.{first-none}
use Rattle.boot_session.proofs.recorder.Recorder.make.Goals as goal

pub returns-clause-none : goal.returns-clause-none
returns-clause-none g c = record {
  kept = c.in_ok-steps.ensures.items ∙ sym first-none;
  counted = refl;
  slot = refl;
  outside = refl;
}
