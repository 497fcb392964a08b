use Rattle.std.proofs.Common.{◌≤ℤ◌, pos, length, arith, inr, sym, ap}
use Rattle.std.specs.Prelude.{is_some}
use Rattle.std.proofs.lemmas.Int.{ints}
use Rattle.block_loop.proofs.FindLemmas.{nowhere_to}
use Rattle.slot_caveats.proofs.slots.stands_at.Goals as goal

pub returns-then-to-from : goal.returns-then-to-from
returns-then-to-from g c =
    let far : pos (length (g.V.View.bytes c.args.view.now)) ≤ℤ c.args.to =
    omega (arith, ints, c.if-to-from.true, c.from.ensures, c.len.ensures) in
    sym (ap is_some (nowhere_to (g.V.View.bytes c.args.view.now) c.args.to (inr far)))
