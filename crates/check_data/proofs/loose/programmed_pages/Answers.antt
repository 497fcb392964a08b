use Rattle.std.proofs.Common.{◌≡◌, ◌∙◌, Bool, List, false, ap, rules, length}
use Rattle.std.specs.Prelude.{replicate, slice_get}
use Rattle.check_data.proofs.CodeLemmas.{replicate-at, written-back}
use Rattle.check_data.proofs.loose.programmed_pages.Goals as goal

pub returns-clause-each : goal.returns-clause-each
returns-clause-each c = λ p lt.
    let lent : c.deref_mut.result.now ≡ c.in_ok-pages.pages.items = c.deref_mut.ensures.value in
    let fill : c.in_ok-pages.pages.items ≡ replicate c.args.count false = c.in_ok-pages.ensures in
    let same : length c.mark_moves.new.pages ≡ length c.in_ok-pages.pages.items =
    let kept = c.mark_moves.auto.pages in kept ∙ ap (λ (xs : List Bool). length xs) lent in
    let whole : c.in_ok-pages.pages.len ≡ length c.in_ok-pages.pages.items = search rules in
    ap (λ (xs : List Bool). slice_get xs p)
    (written-back c.mark_moves.new.pages c.in_ok-pages.pages.items c.in_ok-pages.pages.len same whole)
    ∙ c.mark_moves.ensures p false
    (ap (λ (xs : List Bool). slice_get xs p) (lent ∙ fill) ∙ replicate-at c.args.count p lt)
