use Rattle.std.proofs.Common.{◌≡◌, ap, subst, arith, length, slice_get, Some}
use Rattle.part_table.specs.Written.{written_partition}
use Rattle.part_table.proofs.FaultLemmas.{index_of}
use Rattle.part_table.proofs.WriteLemmas.{text_within}
use Rattle.part_table.proofs.writing.table_item.Goals as goal

pub put_partition-requires : goal.put_partition-requires
put_partition-requires c =
    let t = c.args.table.now in
    let at : slice_get t.parts.items c.loop-part.part-index ≡ Some c.part-item.result =
    subst (λ ps. slice_get ps c.loop-part.part-index ≡ Some c.part-item.result) c.as_slice-part-items.ensures.value
    (index_of _ c.loop-part.part-index c.part-item.result c.loop-part-test.true c.part-item.is) in
    let within = text_within written_partition t.parts.items c.loop-part.part-index c.part-item.result at in
    let long = ap length c.loop-part.invariant in
    omega (arith, within, long, c.requires.size, c.requires.few)
