use Rattle.std.proofs.Common.{◌+◌, ◌++◌, arith, rules, subst}
use Rattle.std.specs.Prelude.{slice_range}
use Rattle.std.proofs.lemmas.List.{length-take-le}
use Rattle.pico_board.proofs.PieceLemmas.{range-more}
use Rattle.picoboot_cmd.proofs.working.put_through.Goals as goal

pub loop-done-preserved : goal.loop-done-preserved
loop-done-preserved g c = record {
  some = search rules;
  few = search rules;
  inside = search rules;
  put = λ before held.
      subst (λ bytes. g.R.Reply.stands_for c.put.new.self bytes)
      (range-more (g.B.Board.state c.args.board.now).content.flash before c.read.new.into c.args.at
      c.loop-done.done c.min-count.result _
      (length-take-le c.min-count.result c.loop-done.piece
      (let least = c.min-count.ensures in omega (arith, least))) c.read.ensures)
      (c.put.ensures (before ++ slice_range (g.B.Board.state c.args.board.now).content.flash c.args.at
      (c.args.at + c.loop-done.done)) (c.loop-done.invariant.put before held));
}
