use Rattle.std.proofs.Common.{◌∙◌, ap, find, sym, take_all, arith}
use Rattle.std.proofs.lemmas.Bool.{eq-eqb, ne_eqb}
use Rattle.block_codec.specs.Items.{items_of}
use Rattle.block_codec.specs.Kinds.{is_of_kind}
use Rattle.block_codec.specs.declared.kinds.TheConstants.{LOAD_MAP}
use Rattle.block_codec.proofs.SearchLemmas.{find_past}
use Rattle.image_def.proofs.PlaceLemmas.{place-here, place-nowhere}
use Rattle.image_def.proofs.reading.map_place.Goals as goal

pub returns-then-kind_of-eq-LOAD_MAP : goal.returns-then-kind_of-eq-LOAD_MAP
returns-then-kind_of-eq-LOAD_MAP c =
    sym (place-here (is_of_kind LOAD_MAP) (items_of c.args.block.now.items) c.loop-i.i c.item.result
    c.loop-i.invariant c.item.ensures.value
    (eq-eqb _ _ (sym c.kind_of.ensures ∙ c.if-kind_of-eq-LOAD_MAP.true)))

pub loop-i-preserved : goal.loop-i-preserved
loop-i-preserved c =
    find_past (is_of_kind LOAD_MAP) (items_of c.args.block.now.items) c.loop-i.i c.item.result
    c.loop-i.invariant c.item.ensures.value
    (ne_eqb _ _ (λ e. c.if-kind_of-eq-LOAD_MAP.false (c.kind_of.ensures ∙ e)))

pub returns : goal.returns
returns c =
    let items = items_of c.args.block.now.items in
    let all = c.loop-i-test.false in
    let long = c.count-i-end.ensures.value in
    sym (place-nowhere (is_of_kind LOAD_MAP) items
    (ap (find (is_of_kind LOAD_MAP)) (sym (take_all c.loop-i.i items (omega (arith, all, long)))) ∙ c.loop-i.invariant))
