use Rattle.boot_sweep.proofs.KnownLemmas.{recalled-verdict, slot-inside}
use Rattle.boot_sweep.proofs.slots.verdict_beside.Goals as goal

pub image_beside-requires-clause-inside : goal.image_beside-requires-clause-inside
image_beside-requires-clause-inside g c =
    slot-inside c.requires.known.0 c.args.ends.now.cpu c.args.slot (g.B.Board.state c.args.board.now).content
    c.requires.known.1.beside

pub returns-in-Some-recalled-clause-exact : goal.returns-in-Some-recalled-clause-exact
returns-in-Some-recalled-clause-exact g c =
    let ends = c.args.ends.now in
    let d = (g.B.Board.state c.args.board.now).content in
    let x = c.requires.known.0 in
    let known = c.requires.known.1 in
    let last = c.in-Some-recalled.ensures in
    recalled-verdict x ends.cpu ends.former ends.finished c.args.slot c.args.last.now last.0 d
    c.in-Some-recalled.verdict c.in-Some.image known last.1 last.2 last.3 (c.in-Some.ensures.table x known.beside)
    c.in-Some.ensures.image
