use Rattle.std.proofs.Common.{◌+◌, ◌∙◌, ap, drop, false, length, length-set, take}
use Rattle.check_counts.proofs.StepLemmas.{each-all, each-beyond, each-next, left-next, left-same}
use Rattle.check_counts.proofs.counts.count_each.Goals as goal
use Rattle.check_counts.proofs.counts.count_each.Goals.{then-i-counts, else-i-counts}

pub loop-i-preserved : goal.loop-i-preserved
loop-i-preserved c =
    let xs = c.loop-i.counts in
    let ys = c.args.counts.now in
    let bs = c.args.each.now in
    let i = c.loop-i.i in
    let inv = c.loop-i.invariant in
    elim c.if-i-counts.branch [
      | then-i-counts w ↦ record {
        done = ap (λ l. take (i + 1) l) w.counts-is
            ∙ each-next xs ys bs i w.counted.result false w.if-i-counts.true c.loop-i-test.true inv.long inv.done inv.left
            w.counted.ensures;
        left = ap (λ l. drop (i + 1) l) w.counts-is ∙ left-next xs ys i w.counted.result inv.left;
        long = ap (λ l. length l) w.counts-is ∙ (length-set xs i w.counted.result ∙ inv.long);
      }
      | else-i-counts w ↦ record {
        done = ap (λ l. take (i + 1) l) w.counts-is
            ∙ each-beyond xs ys bs i false w.if-i-counts.false c.loop-i-test.true inv.long inv.done;
        left = ap (λ l. drop (i + 1) l) w.counts-is ∙ left-same xs ys i inv.left;
        long = ap (λ l. length l) w.counts-is ∙ inv.long;
      }
    ]

pub returns : goal.returns
returns c =
    each-all c.loop-i.counts c.args.counts.now c.args.each.now c.loop-i.i c.loop-i-test.false c.loop-i.invariant.done
    c.loop-i.invariant.left
