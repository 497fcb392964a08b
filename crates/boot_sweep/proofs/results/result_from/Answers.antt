use Rattle.std.proofs.Common.{◌∙◌, sym}
use Rattle.boot_sweep.proofs.VerdictLemmas.{chosen-after, is-chance, is-finished, is-former, is-other}
use Rattle.boot_sweep.proofs.results.result_from.Goals as goal

pub is_whole-requires-clause-chosen : goal.is_whole-requires-clause-chosen
is_whole-requires-clause-chosen g c =
    chosen-after c.args.ends.now.former c.args.ends.now.finished c.args.ends.now.cpu
    (g.B.Board.state c.args.board.now).content (g.Z.Board.state c.args.ends.now.board.now).content
    (sym c.in-After.is ∙ c.requires.verdict)

pub returns-in-Before : goal.returns-in-Before
returns-in-Before g c =
    is-former c.args.ends.now.former c.args.ends.now.finished c.args.ends.now.cpu
    (g.B.Board.state c.args.board.now).content (g.Z.Board.state c.args.ends.now.board.now).content
    (sym c.in-Before.is ∙ c.requires.verdict)

pub returns-then-is_whole : goal.returns-then-is_whole
returns-then-is_whole g c =
    is-finished c.args.ends.now.former c.args.ends.now.finished c.args.ends.now.cpu
    (g.B.Board.state c.args.board.now).content (g.Z.Board.state c.args.ends.now.board.now).content c.is_whole.result
    c.is_whole.ensures c.if-is_whole.true (sym c.in-After.is ∙ c.requires.verdict)

pub returns-else-is_whole : goal.returns-else-is_whole
returns-else-is_whole g c =
    is-chance c.args.ends.now.former c.args.ends.now.finished c.args.ends.now.cpu
    (g.B.Board.state c.args.board.now).content (g.Z.Board.state c.args.ends.now.board.now).content c.is_whole.result
    c.is_whole.ensures c.if-is_whole.false (sym c.in-After.is ∙ c.requires.verdict)

pub returns-in-Other : goal.returns-in-Other
returns-in-Other g c =
    is-other c.args.ends.now.former c.args.ends.now.finished c.args.ends.now.cpu
    (g.B.Board.state c.args.board.now).content (g.Z.Board.state c.args.ends.now.board.now).content
    (sym c.in-Other.is ∙ c.requires.verdict)
