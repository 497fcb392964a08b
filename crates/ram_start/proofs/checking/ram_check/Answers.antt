use Rattle.ram_start.proofs.RamLemmas.{ram-valid, ram-why}
use Rattle.ram_start.proofs.checking.ram_check.Goals as goal

pub returns-clause-valid : goal.returns-clause-valid
returns-clause-valid g c = λ s.
    ram-valid (g.B.Board.state c.args.board.now).content
    (g.V.View.bytes c.args.view.now) c.args.base c.args.cpu c.ram_image.result c.ram_image.ensures.exact s

pub returns-clause-why_not : goal.returns-clause-why_not
returns-clause-why_not g c = λ y.
    ram-why (g.B.Board.state c.args.board.now).content
    (g.V.View.bytes c.args.view.now) c.args.base c.args.cpu c.ram_image.result c.ram_image.ensures.exact y
