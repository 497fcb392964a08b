use Rattle.std.proofs.Common.{sym, ◌∙◌}
use Rattle.boot_caveats.proofs.FilledLemmas.{filled-end, filled-here, filled-more}
use Rattle.slot_caveats.proofs.MoreLemmas.{shift-whole}
use Rattle.boot_caveats.proofs.starts.is_filled.Goals as goal

pub returns-then-value-place : goal.returns-then-value-place
returns-then-value-place c =
    sym (c.loop-place.invariant ∙ filled-here c.args.value c.loop-place.place c.loop-place-test.true
    (c.if-value-place.true ∙ shift-whole c.loop-place.place c.loop-place-test.true))

pub loop-place-preserved : goal.loop-place-preserved
loop-place-preserved c =
    c.loop-place.invariant ∙ filled-more c.args.value c.loop-place.place c.loop-place-test.true
    (λ e. c.if-value-place.false (e ∙ sym (shift-whole c.loop-place.place c.loop-place-test.true)))

pub returns : goal.returns
returns c = sym (c.loop-place.invariant ∙ filled-end c.args.value c.loop-place.place c.loop-place-test.false)
