use Rattle.pico_board.specs.MemBoard.{state_of}
use Rattle.check_laws.proofs.OwnLemmas.{boot-kept}
use Rattle.check_laws.proofs.own.is_boot_kept.Goals as goal

pub returns : goal.returns
returns c =
    boot-kept (state_of c.args.board.now).content c.args.cpu c.args.kind c.args.done.now c.boot_kept.result c.boot_kept.ensures.exact
