use Rattle.std.proofs.Common.{◌≤ℤ◌, pos, length, arith, inr, sym}
use Rattle.std.proofs.lemmas.Int.{ints}
use Rattle.block_loop.proofs.FindLemmas.{nowhere_to}
use Rattle.block_loop.proofs.finding.block_to.Goals as goal

pub returns-then-to-from-clause-exact : goal.returns-then-to-from-clause-exact
returns-then-to-from-clause-exact g c =
    let far : pos (length (g.V.View.bytes c.args.view.now)) ≤ℤ c.args.to =
    omega (arith, ints, c.if-to-from.true, c.from.ensures, c.len.ensures) in
    sym (nowhere_to (g.V.View.bytes c.args.view.now) c.args.to (inr far))
