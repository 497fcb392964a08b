use Rattle.pico_board.specs.MemBoard.{state_of}
use Rattle.check_laws.proofs.OwnLemmas.{buy-kept}
use Rattle.check_laws.proofs.own.is_buy_kept.Goals as goal

pub returns : goal.returns
returns c =
    buy-kept (state_of c.args.board.now).content c.args.cpu c.args.image.now c.args.done.now c.raises_own.result
    c.raises_own.ensures.exact
