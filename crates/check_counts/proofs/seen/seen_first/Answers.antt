use Rattle.std.proofs.Common.{◌∙◌, ap, sym, []}
use Rattle.check_counts.specs.Tallies.{first_seen, with_seen}
use Rattle.check_counts.proofs.SeenLemmas.{seen-append}
use Rattle.check_counts.proofs.seen.seen_first.Goals as goal

pub returns : goal.returns
returns c =
    let make = first_seen c.args.former.now c.args.end.now 0 in
    c.in_ok-add_firsts-2.ensures
    ∙ (ap (λ l. with_seen make l c.args.end.now)
    (c.in_ok-add_firsts.ensures ∙ ap (λ l. with_seen make l c.args.former.now) c.new-seen.ensures.items)
    ∙ sym (seen-append make [] c.args.former.now c.args.end.now))
