use Rattle.std.proofs.Common.{sym, subst}
use Rattle.std.specs.Prelude.{IfSome}
use Rattle.boot_machine.specs.Boots.{choice_in}
use Rattle.boot_machine.specs.Standing.{IsHeldChoice}
use Rattle.boot_machine.proofs.BootLemmas.{placed-by, valid-by, held-by}
use Rattle.boot_machine.proofs.booting.carry_out.Goals as goal

-- the choice of a decision is placed, and its image is valid
pub settle-requires-clause-placed : goal.settle-requires-clause-placed
settle-requires-clause-placed g c =
    placed-by _ c.args.cpu c.requires.chosen.0 c.in-Start.choice c.args.decision.now
    (g.met.B.Board.is_content c.args.board.now) c.requires.chosen.1 c.in-Start.is

pub settle-requires-clause-valid : goal.settle-requires-clause-valid
settle-requires-clause-valid g c =
    valid-by _ c.args.cpu c.requires.chosen.0 c.in-Start.choice c.args.decision.now
    (g.met.B.Board.is_content c.args.board.now) c.requires.chosen.1 c.in-Start.is

pub returns-in_ok-settle-in-Start-clause-held : goal.returns-in_ok-settle-in-Start-clause-held
returns-in_ok-settle-in-Start-clause-held g c =
    let right = g.met.B.Board.is_content c.args.board.now in
    let chosen = c.requires.chosen.1 in
    let new = (g.B.Board.state c.settle.new.self).content in
    subst (λ d. IfSome (choice_in d) (IsHeldChoice new c.args.cpu)) (sym c.in-Start.is)
    (held-by (g.B.Board.state c.args.board.now).content new c.args.cpu c.in-Start.choice
    c.in_ok-settle-in-Start.ensures.steps.size c.in_ok-settle-in-Start.ensures.steps.done
    (placed-by _ c.args.cpu c.requires.chosen.0 c.in-Start.choice c.args.decision.now right chosen c.in-Start.is)
    (valid-by _ c.args.cpu c.requires.chosen.0 c.in-Start.choice c.args.decision.now right chosen c.in-Start.is))
