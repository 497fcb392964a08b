use Rattle.std.proofs.Common.{◌≡◌, is_ok, subst, sym}
use Rattle.pico_board.specs.Board.{DoesAll}
use Rattle.trial_buy.specs.Buying.{buy_steps}
use Rattle.trial_buy.specs.Starting.{erase_in, other_erase}
use Rattle.boot_machine.proofs.watched.Watched.buy.Goals as goal

pub returns-clause-steps : goal.returns-clause-steps
returns-clause-steps g c =
    let state = g.B.Board.state in
    let same = c.better_sector-sector.ensures.same in
    let cpu = c.args.cpu in
    let choice = c.args.choice.now in
    subst (λ b. DoesAll state g.B.Board.history b (buy_steps (state b).content cpu choice)
    (is_ok c.buy_at.result) c.buy_at.new.board) same
    (c.buy_at.ensures.steps cpu
    (subst (λ b. erase_in c.better_sector-sector.result ≡ other_erase (state b).content cpu choice) (sym same)
    c.better_sector-sector.ensures.exact))
