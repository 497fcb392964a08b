use Rattle.std.proofs.Common.{sym, subst}
use Rattle.pico_board.specs.MemBoard.{state_of}
use Rattle.boot_cuts.specs.Standings.{AreStanding}
use Rattle.boot_cuts.proofs.StandingLemmas.{one-more}
use Rattle.boot_cuts.proofs.images.add_unit.Goals as goal

pub returns-in_ok-push-2-clause-known : goal.returns-in_ok-push-2-clause-known
returns-in_ok-push-2-clause-known c =
    let content = (state_of c.args.board.now).content in
    subst (λ xs. AreStanding content c.args.cpu xs) (sym c.in_ok-push-2.ensures.items)
    (one-more content c.args.cpu c.push.new.self.items c.standing_in-in-Some.result
    (subst (λ xs. AreStanding content c.args.cpu xs) (sym c.in_ok-push.ensures.items)
    (one-more content c.args.cpu c.args.known.now.items c.standing_in.result c.requires.known
    c.standing_in.ensures.standing))
    c.standing_in-in-Some.ensures.standing)
