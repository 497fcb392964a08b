use Rattle.std.proofs.Common.{take}
use Rattle.image_check.specs.SameImage.{AgreeOnLoads}
use Rattle.image_check.proofs.same.same_loads.Given as goal

abbrev pub invariant-loop-load : goal.invariant-loop-load
invariant-loop-load g l = AgreeOnLoads (g.V.View.bytes l.one) (g.W.View.bytes l.two) (take l.load-index l.loads)
