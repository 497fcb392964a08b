use Rattle.std.proofs.Common.{ap, arith, subst, sym}
use Rattle.boot_sweep.specs.Gating.{ArePages}
use Rattle.boot_sweep.specs.Refusals.{ungated_behind}
use Rattle.boot_session.specs.Recordings.{step_limit}
use Rattle.boot_sweep.proofs.PageLemmas.{pages-none}
use Rattle.boot_sweep.proofs.gating.ungated_behind.Goals as goal

pub loop-i-init : goal.loop-i-init
loop-i-init c = record {
  pages = subst (ArePages c.args.sector) (sym c.new-pages.ensures) (pages-none c.args.sector);
  rest = ap (λ pages. ungated_behind c.args.sector pages 1 c.args.steps.now) c.new-pages.ensures;
}

pub overflow_cast-result : goal.overflow_cast-result
unfolding step_limit
overflow_cast-result c = let few = c.requires.few in omega (arith, few, c.loop-i-test.true)

pub overflow_add-result : goal.overflow_add-result
unfolding step_limit
overflow_add-result c = let few = c.requires.few in omega (arith, few, c.loop-i-test.true)
