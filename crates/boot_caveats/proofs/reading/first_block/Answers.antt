use Rattle.std.proofs.Common.{sym, ◌∙◌}
use Rattle.block_loop.proofs.FindLemmas.{search_more, search_here, search_end}
use Rattle.boot_caveats.proofs.reading.first_block.Goals as goal

pub returns-in-Some-clause-exact : goal.returns-in-Some-clause-exact
returns-in-Some-clause-exact g c =
    sym (c.loop-place.invariant ∙ search_here
    (g.V.View.bytes c.args.view.now) c.loop-place.place c.in-Some.block c.loop-place-test.true
    c.in-Some.ensures.exact)

pub loop-place-preserved : goal.loop-place-preserved
loop-place-preserved g c =
    c.loop-place.invariant
    ∙ search_more (g.V.View.bytes c.args.view.now) c.loop-place.place c.loop-place-test.true
    (sym c.in_default.is ∙ c.block_at.ensures.exact)

pub returns-clause-exact : goal.returns-clause-exact
returns-clause-exact g c = sym
    (c.loop-place.invariant ∙ search_end (g.V.View.bytes c.args.view.now) c.loop-place.place c.loop-place-test.false)
