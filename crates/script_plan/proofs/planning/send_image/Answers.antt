use Rattle.std.proofs.Common.{sym, arith}
use Rattle.std.proofs.lemmas.List.{length-take-le, take_rest}
use Rattle.script_plan.proofs.PlanLemmas.{events-first, sent-both}
use Rattle.script_plan.proofs.planning.send_image.Goals as goal

pub slice_bounds-send_last-end : goal.slice_bounds-send_last-end
slice_bounds-send_last-end c = sym (length-take-le 4096 c.args.image.now (omega arith))

pub send_last-requires-clause-small : goal.send_last-requires-clause-small
send_last-requires-clause-small c = omega (arith, length-take-le 4096 c.args.image.now (omega arith))

pub returns-in_ok-send_rest : goal.returns-in_ok-send_rest
returns-in_ok-send_rest c =
    sent-both c.send_last.result c.args.at c.args.image.now _ _ _ _ c.if-image.true
    (take_rest c.args.image.now 4096) c.in_ok-send_rest.ensures c.send_last.ensures

pub returns-else-image : goal.returns-else-image
returns-else-image c = rw (events-first c.args.at c.args.image.now c.if-image.false) c.send_last-else-image.ensures
