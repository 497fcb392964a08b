use Rattle.std.proofs.Common.{◌∙◌, ◌+◌, ap, sym, take}
use Rattle.std.proofs.lemmas.Bool.{eq-eqb, ne_eqb}
use Rattle.std.specs.Option.{is_some}
use Rattle.block_codec.specs.Items.{items_of}
use Rattle.block_codec.specs.Kinds.{is_of_kind}
use Rattle.block_codec.proofs.SearchLemmas.{find-none, find_past, is_some-find}
use Rattle.image_def.proofs.RelationLemmas.{any_at, get-take}
use Rattle.image_def.proofs.judging.stands_before.Goals as goal

pub returns-then-kind_of-kind : goal.returns-then-kind_of-kind
returns-then-kind_of-kind c =
    let items = items_of c.args.block.now.items in
    sym (any_at (is_of_kind c.args.kind) (take c.args.index items) c.loop-i.i c.item.result
    (get-take items c.loop-i.i c.args.index c.item.result c.loop-i-test.true c.item.ensures.value)
    (eq-eqb _ _ (sym c.kind_of.ensures ∙ c.if-kind_of-kind.true)))

pub loop-i-preserved : goal.loop-i-preserved
loop-i-preserved c =
    let items = items_of c.args.block.now.items in
    let p = is_of_kind c.args.kind in
    sym (is_some-find p (take (c.loop-i.i + 1) items))
    ∙ ap is_some (find_past p items c.loop-i.i c.item.result
    (find-none p (take c.loop-i.i items) c.loop-i.invariant) c.item.ensures.value
    (ne_eqb _ _ (λ e. c.if-kind_of-kind.false (c.kind_of.ensures ∙ e))))
