use Rattle.std.proofs.Common.{refl}
use Rattle.boot_machine.proofs.ArmingLemmas.{arm-steady, arm-step}
use Rattle.boot_machine.proofs.stepping.arm.Goals as goal

pub returns-clause-step : goal.returns-clause-step
returns-clause-step g c = λ m stands.
    arm-step g.B.Board.state g.B.Board.history c.args.parts.now c.arm_cut.new.self m c.args.left c.args.within
    c.args.pattern.now _ c.arm_cut.ensures refl stands

pub returns-clause-steady : goal.returns-clause-steady
returns-clause-steady g c =
    arm-steady g.B.Board.state g.B.Board.history c.args.parts.now c.arm_cut.new.self c.args.left c.args.within
    c.args.pattern.now c.arm_cut.ensures c.requires.steady
