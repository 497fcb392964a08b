use Rattle.std.proofs.Common.{◌≡◌, ◌∙◌, ap, length}
use Rattle.std.proofs.lemmas.Result.{IfOk-weaker}
use Rattle.check_counts.specs.declared.counts.Counts.{Counts}
use Rattle.check_counts.specs.Facts.{caveats_on}
use Rattle.check_counts.specs.Judging.{sides_by}
use Rattle.check_counts.specs.Tallies.{begun, seen_first, tally_before, tally_of}
use Rattle.check_counts.proofs.counting.counts_before.Goals as goal

pub returns-clause-exact : goal.returns-clause-exact
returns-clause-exact c =
    let s = sides_by c.args.counting.now in
    let n = length c.args.counting.now.windows.now in
    IfOk-weaker c.begin.result (λ (counts : Counts). tally_of counts ≡ begun n c.in_ok-seen.seen.items)
    (λ (counts : Counts). tally_of counts ≡ tally_before (sides_by c.args.counting.now))
    (λ counts is. is
    ∙ ap (begun n)
    (c.in_ok-seen.ensures
    ∙ (ap (λ l. seen_first l c.deref-2.result.now) (c.deref.ensures.value ∙ c.in_ok-former.ensures.exact)
    ∙ ap (seen_first (caveats_on s.cpu s.first)) (c.deref-2.ensures.value ∙ c.in_ok-end.ensures.exact))))
    c.begin.ensures
