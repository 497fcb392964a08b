use Rattle.std.proofs.Common.{◌≡◌, ◌<◌, subst, arith, length, get_or}
use Rattle.std.proofs.lemmas.List.Elements.{All-more}
use Rattle.part_table.specs.Written.{IsReadablePartition, written_partition}
use Rattle.part_table.proofs.WriteLemmas.{text_more}
use Rattle.part_table.proofs.writing.item_size.Goals as goal

pub loop-part-preserved : goal.loop-part-preserved
loop-part-preserved c =
    let parts = c.args.table.now.parts.items in
    let k = c.loop-part.part-index in
    let p = c.part-item.result in
    let lt : k < length parts = subst (λ ps. k < length ps) c.as_slice-part-items.ensures.value c.loop-part-test.true in
    let is : p ≡ get_or parts k p =
    subst (λ ps. p ≡ get_or ps k p) c.as_slice-part-items.ensures.value c.part-item.is in
    let more = text_more written_partition parts k p lt is in
    record {
      so_far = omega (arith, more, c.partition_size-size.ensures.value, c.loop-part.invariant.so_far);
      readable = All-more IsReadablePartition parts k p lt c.loop-part.invariant.readable
          (subst IsReadablePartition is c.partition_size-size.ensures.readable);
      few = omega (arith, c.partition_size-size.ensures.few, c.loop-part.invariant.few);
    }
