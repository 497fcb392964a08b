use Rattle.std.proofs.Common.{◌≡◌, is_ok, subst, sym}
use Rattle.pico_board.specs.Board.{DoesAll}
use Rattle.trial_buy.specs.Starting.{erase_in, start_erase, start_steps}
use Rattle.boot_machine.proofs.watched.Watched.settle.Goals as goal

pub returns-clause-steps : goal.returns-clause-steps
returns-clause-steps g c =
    let state = g.B.Board.state in
    let same = c.start_sector-sector.ensures.same in
    let cpu = c.args.cpu in
    let choice = c.args.choice.now in
    subst (λ b. DoesAll state g.B.Board.history b (start_steps (state b).content cpu choice)
    (is_ok c.settle_at.result) c.settle_at.new.board) same
    (c.settle_at.ensures.steps cpu
    (subst (λ b. erase_in c.start_sector-sector.result ≡ start_erase (state b).content cpu choice) (sym same)
    c.start_sector-sector.ensures.exact))
