use Rattle.std.proofs.Common.{◌∙◌, sym, arith}
use Rattle.cli_stage.proofs.ImageLemmas.{listed-more, listed-none, listed-not}
use Rattle.cli_stage.proofs.images.are_listed.Goals as goal

pub loop-n-init : goal.loop-n-init
loop-n-init g c = listed-none (g.V.View.bytes c.args.view.now) c.args.found.now

pub loop-n-preserved : goal.loop-n-preserved
loop-n-preserved g c =
    listed-more (g.V.View.bytes c.args.view.now) c.args.found.now c.loop-n.n c.loop-n.invariant
    (sym c.is_listed.ensures ∙ c.if-not-is_listed.false)

pub returns-then-not-is_listed : goal.returns-then-not-is_listed
returns-then-not-is_listed g c =
    sym (listed-not (g.V.View.bytes c.args.view.now) c.args.found.now 1024 c.loop-n.n
    (omega (arith, c.loop-n-test.true)) (sym c.is_listed.ensures ∙ c.if-not-is_listed.true))
