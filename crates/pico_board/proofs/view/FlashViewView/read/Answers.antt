-- What the board reads is a range of the window.
use Rattle.std.proofs.Common.{◌+◌, ◌≤◌, length, arith, sym, ◌∙◌}
use Rattle.std.proofs.lemmas.List.Edits.{length-between}
use Rattle.pico_board.proofs.RangeLemmas.{slice_range-slice_range}
use Rattle.pico_board.proofs.view.FlashViewView.read.Goals as goal

pub returns : goal.returns
returns g c =
    let xs = (g.B.Board.state c.args.self.now.board.now).content.flash in
    let w = c.args.self.now.window in
    let inside : w.start + w.len ≤ length xs = c.args.self.now.inside in
    let within : c.args.at + length c.args.into.now ≤ w.len =
    omega (arith, c.requires, length-between xs w.start (w.start + w.len) inside) in
    c.read.ensures ∙ sym (slice_range-slice_range xs w.start w.len c.args.at (length c.args.into.now) inside within)
