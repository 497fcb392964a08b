use Rattle.boot_caveats.proofs.CaveatLemmas.{gathered}
use Rattle.boot_caveats.proofs.gathering.caveats_with.Goals as goal

pub returns-clause-exact : goal.returns-clause-exact
returns-clause-exact g c =
    gathered (g.B.Board.state c.args.board.now).content c.args.cpu c.args.kind c.args.reasons.now
    c.new-list.result.items c.add_board.new.list.items c.add_choice.new.list.items c.add_windows.new.list.items
    c.add_last.new.list.items
    c.requires.reasons c.new-list.ensures.items c.in_ok-add_board.ensures c.in_ok-add_choice.ensures.exact
    c.in_ok-add_windows.ensures.exact c.in_ok-add_last.ensures
