use Rattle.std.proofs.Common.{◌≡◌, ◌∙◌, sym, ap, subst, Some, slice_get}
use Rattle.std.specs.Option.{option_map_or}
use Rattle.block_codec.proofs.SearchLemmas.{find_here, find_past}
use Rattle.part_table.specs.declared.partition.Partition.{Partition}
use Rattle.part_table.specs.Windows.{has_sector}
use Rattle.part_table.proofs.FaultLemmas.{index_of}
use Rattle.part_table.proofs.table.Table.right_word.Goals as goal

pub returns-then-has_sector : goal.returns-then-has_sector
returns-then-has_sector c =
    let at : slice_get c.args.self.now.parts.items c.loop-part.part-index ≡ Some c.part-item.result =
    subst (λ ps. slice_get ps c.loop-part.part-index ≡ Some c.part-item.result) c.as_slice-part-items.ensures.value
    (index_of _ c.loop-part.part-index c.part-item.result c.loop-part-test.true c.part-item.is) in
    sym (ap (λ o. option_map_or (λ (p : Partition). p.location) o c.args.self.now.unpartitioned)
    (find_here (has_sector c.args.sector) c.args.self.now.parts.items c.loop-part.part-index c.part-item.result
    c.loop-part.invariant at
    (sym c.has_sector.ensures ∙ c.if-has_sector.true)))

pub loop-part-preserved : goal.loop-part-preserved
loop-part-preserved c =
    let at : slice_get c.args.self.now.parts.items c.loop-part.part-index ≡ Some c.part-item.result =
    subst (λ ps. slice_get ps c.loop-part.part-index ≡ Some c.part-item.result) c.as_slice-part-items.ensures.value
    (index_of _ c.loop-part.part-index c.part-item.result c.loop-part-test.true c.part-item.is) in
    find_past (has_sector c.args.sector) c.args.self.now.parts.items c.loop-part.part-index c.part-item.result
    c.loop-part.invariant at
    (sym c.has_sector.ensures ∙ c.if-has_sector.false)
