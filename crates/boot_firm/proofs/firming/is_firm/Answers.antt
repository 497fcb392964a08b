use Rattle.pico_board.specs.Content.{window_bytes}
use Rattle.pico_board.specs.MemBoard.{state_of}
use Rattle.boot_firm.proofs.FirmnessLemmas.{firm-answered}
use Rattle.boot_firm.proofs.firming.is_firm.Goals as goal

pub returns : goal.returns
returns c =
    firm-answered c.args.cpu (window_bytes (state_of c.args.board.now).content c.args.window) c.args.started.now
    c.firm.result c.requires.held c.firm.ensures
