use Rattle.std.proofs.Common.{length, subst, sym}
use Rattle.boot_caveats.specs.Reads.{AreLooksInside}
use Rattle.boot_caveats.proofs.ReadLemmas.{readable-reasons, reasons-inside}
use Rattle.boot_caveats.proofs.gathering.add_choice.Goals as goal

pub add_other_processors-requires-clause-inside : goal.add_other_processors-requires-clause-inside
add_other_processors-requires-clause-inside g c =
    let content = (g.B.Board.state c.args.board.now).content in
    subst (AreLooksInside (length content.flash)) (sym c.as_slice-looks.ensures.value)
    (reasons-inside content c.args.cpu c.args.kind c.args.reasons.now (g.met.B.Board.is_content c.args.board.now)
    c.requires.reasons)

pub add_rows-requires-clause-start : goal.add_rows-requires-clause-start
add_rows-requires-clause-start g c =
    readable-reasons (g.B.Board.state c.args.board.now).content c.args.cpu c.args.kind c.args.reasons.now
    (g.met.B.Board.is_content c.args.board.now) c.requires.reasons
