use Rattle.std.proofs.Common.{refl, ap, ◌∙◌}
use Rattle.boot_session.specs.Recordings.{next_slot}
use Rattle.boot_session.proofs.RecorderLemmas.{recorded-more}
use Rattle.boot_session.proofs.recorder.Recorder.note.Goals as goal

pub returns-clause-recorded : goal.returns-clause-recorded
returns-clause-recorded g c = λ h is.
    recorded-more c.args.self.now _ h c.args.step.now is refl c.keep_step.ensures.kept c.saturating_add-self.ensures
    (c.next_slot-slot.ensures
    ∙ ap (λ us. next_slot c.args.self.now.slot c.args.self.now.count us c.args.step.now) c.as_slice.ensures.value)
    c.next_outside-outside.ensures
