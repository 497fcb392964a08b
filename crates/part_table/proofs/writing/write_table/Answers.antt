use Rattle.std.proofs.Common.{◌≤◌, ◌∙◌, ap, sym, subst, arith, length, Err}
use Rattle.std.proofs.lemmas.List.Elements.{recursion_from_All}
use Rattle.block_codec.specs.Items.{AreItems}
use Rattle.block_codec.proofs.WriteLemmas.{IsBadAt-whole}
use Rattle.part_table.specs.Written.{IsReadablePartition, table_item}
use Rattle.part_table.proofs.BlockLemmas.{are_whole, judged_when, read_from_judged}
use Rattle.part_table.proofs.writing.write_table.Goals as goal

pub unreachable-requires : goal.unreachable-requires
unreachable-requires c =
    let long = (c.write_block.ensures.too_long c.in-Err-TooLong.field-0-0).0
    (c.in-Err-TooLong.is ∙ ap (λ e. Err e) c.in-Err-TooLong.field-0-is) in
    omega (arith, long.0, c.as_slice.ensures.fits)

pub unreachable-requires-in-Err-ItemSize : goal.unreachable-requires-in-Err-ItemSize
unreachable-requires-in-Err-ItemSize c =
    let bad = (c.write_block.ensures.item_size c.in-Err-ItemSize.field-0-0).0
    (c.in-Err-ItemSize.is ∙ ap (λ e. Err e) c.in-Err-ItemSize.field-0-is) in
    let few : length (table_item c.args.table.now) ≤ 143 =
    omega (arith, c.if-bytes-gt-MOST_BYTES.false, c.item_size-size.ensures.value) in
    let whole : AreItems c.as_slice.result.now =
    subst AreItems (sym (c.as_slice.ensures.value ∙ c.written_items-words.ensures.value))
    (are_whole c.args.table.now few c.item_size-size.ensures.parts) in
    IsBadAt-whole c.as_slice.result.now c.in-Err-ItemSize.field-0-0 whole bad.1

pub returns-in-Ok-clause-judged : goal.returns-in-Ok-clause-judged
returns-in-Ok-clause-judged c = λ n m.
    let t = c.args.table.now in
    judged_when t c.as_slice.result.now (record {
      parts = recursion_from_All IsReadablePartition t.parts.items c.item_size-size.ensures.readable;
      few = c.item_size-size.ensures.parts;
      major = c.written_items-words.ensures.major;
      minor = c.written_items-words.ensures.minor;
      fits = omega (arith, c.if-bytes-gt-MOST_BYTES.false, c.item_size-size.ensures.value);
    }) (c.as_slice.ensures.value ∙ c.written_items-words.ensures.value) c.in-Ok.ensures.block n m

pub returns-in-Ok-clause-again : goal.returns-in-Ok-clause-again
returns-in-Ok-clause-again c = λ n m none.
    read_from_judged c.args.table.now n m (returns-in-Ok-clause-judged c n m) none
