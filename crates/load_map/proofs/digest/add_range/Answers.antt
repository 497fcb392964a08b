use Rattle.std.proofs.Common.{◌+◌, ◌++◌, arith, rules, subst}
use Rattle.std.specs.Prelude.{slice_range}
use Rattle.sha2.specs.Hashers.{Holds256}
use Rattle.std.proofs.lemmas.List.{length-take-le}
use Rattle.pico_board.proofs.PieceLemmas.{range-more}
use Rattle.load_map.proofs.digest.add_range.Goals as goal

pub loop-done-preserved : goal.loop-done-preserved
loop-done-preserved g c = record {
  some = search rules;
  few = search rules;
  inside = search rules;
  fed = λ m held.
      subst (λ message. Holds256 c.update.new.self message)
      (range-more (g.V.View.bytes c.args.view.now) m c.read.new.into c.args.start c.loop-done.done c.min-count.result _
      (length-take-le c.min-count.result c.loop-done.piece
      (let least = c.min-count.ensures in omega (arith, least))) c.read.ensures)
      (c.update.ensures (m ++ slice_range (g.V.View.bytes c.args.view.now) c.args.start
      (c.args.start + c.loop-done.done)) (c.loop-done.invariant.fed m held));
}
