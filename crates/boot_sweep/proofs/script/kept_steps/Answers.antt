use Rattle.std.proofs.Common.{refl, sym, arith}
use Rattle.std.proofs.lemmas.List.{length-take-le, take_all}
use Rattle.boot_session.specs.Recordings.{kept_steps, step_limit}
use Rattle.boot_sweep.proofs.script.kept_steps.Goals as goal

pub slice_bounds-result-end : goal.slice_bounds-result-end
slice_bounds-result-end c =
    let long = c.if-steps-gt-STEP_LIMIT.true in sym (length-take-le 262144 c.args.steps.now (omega (arith, long)))

pub returns-then-steps-gt-STEP_LIMIT : goal.returns-then-steps-gt-STEP_LIMIT
unfolding kept_steps step_limit
returns-then-steps-gt-STEP_LIMIT c = refl

pub returns-else-steps-gt-STEP_LIMIT : goal.returns-else-steps-gt-STEP_LIMIT
unfolding kept_steps step_limit
returns-else-steps-gt-STEP_LIMIT c =
    let few = c.if-steps-gt-STEP_LIMIT.false in sym (take_all 262144 c.args.steps.now (omega (arith, few)))
