use Rattle.std.proofs.Common.{◌≡◌, ◌∙◌, ℕ, ap, arith, false, get_or, length-set}
use Rattle.slot_caveats.specs.declared.caveat.Caveat.TheVariants.{SecureBoot}
use Rattle.check_counts.specs.declared.seen.CaveatSeen.{CaveatSeen}
use Rattle.check_counts.specs.Tallies.{counted, seen_again}
use Rattle.check_counts.proofs.StepLemmas.{left-next, map-next}
use Rattle.check_counts.proofs.seen.see_again.Goals as goal

pub loop-one-preserved : goal.loop-one-preserved
loop-one-preserved c =
    let xs = c.loop-one.seen in
    let i = c.loop-one.one-index in
    let none : CaveatSeen = record { caveat = SecureBoot; former = false; end = false; cuts = 0 } in
    let x = get_or xs i none in
    let v : CaveatSeen =
    record { caveat = x.caveat; former = x.former; end = x.end; cuts = c.counted-one.result } in
    let told : v ≡ seen_again c.args.list.now x =
    ap (λ (n : ℕ). record { caveat = x.caveat; former = x.former; end = x.end; cuts = n })
    (c.counted-one.ensures ∙ ap (λ b. counted x.cuts b) c.has_caveat.ensures) in
    let test = c.loop-one-test.true in
    let long = c.loop-one.invariant.long in
    record {
      done = map-next (seen_again c.args.list.now) xs c.args.seen.now i none v (omega (arith, test, long))
          c.loop-one.invariant.long c.loop-one.invariant.done c.loop-one.invariant.left told;
      left = left-next xs c.args.seen.now i v c.loop-one.invariant.left;
      long = length-set xs i v ∙ c.loop-one.invariant.long;
    }
