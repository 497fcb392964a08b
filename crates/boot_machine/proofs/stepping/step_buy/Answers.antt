use Rattle.std.proofs.Common.{sym, subst}
use Rattle.boot_machine.specs.Standing.{IsHeldChoice}
use Rattle.boot_machine.proofs.AdvancingLemmas.{advances-buy}
use Rattle.boot_machine.proofs.stepping.step_buy.Goals as goal

pub buy_choice-requires-clause-held : goal.buy_choice-requires-clause-held
buy_choice-requires-clause-held g c =
    let some = c.in-Some.ensures.some in
    subst (λ p. IsHeldChoice (g.B.Board.state p.board).content p.cpu c.in-Some.choice) (sym (some.1))
    (c.requires.steady.held c.in-Some.choice (some.0))

pub returns-in-Some-clause-advances : goal.returns-in-Some-clause-advances
returns-in-Some-clause-advances g c =
    let some = c.in-Some.ensures.some in
    advances-buy g.B.Board.state g.B.Board.history c.args.parts.now c.take_choice.new.parts c.buy_choice.new.parts
    c.in-Some.choice c.buy_choice.result (some.0) (λ other runs. c.in-Some.ensures.taken other runs) (some.1)
    c.buy_choice.ensures.comes
