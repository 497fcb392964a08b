use Rattle.std.proofs.Common.{arith, ap, sym, ◌∙◌, length}
use Rattle.svg_sweep.proofs.RunLemmas.{runs-begin, runs-more}
use Rattle.svg_sweep.proofs.runs.runs_of.Goals as goal

pub loop-last-init : goal.loop-last-init
loop-last-init c = record {
  exact = runs-begin _ c.args.classes.now c.new-found.ensures.items;
  few = omega (arith, ap length c.new-found.ensures.items);
}

pub loop-last-preserved : goal.loop-last-preserved
loop-last-preserved c = record {
  exact = sym (runs-more _ _ _ _ _ _ _ _ _ c.loop-last-test.true c.ends_run-ends.ensures c.class_at.ensures
      c.in_ok-push_wanted.ensures.ok c.next_first-first.ensures) ∙ c.loop-last.invariant.exact;
  few = omega (arith, c.loop-last.invariant.few, c.in_ok-push_wanted.ensures.few);
}
