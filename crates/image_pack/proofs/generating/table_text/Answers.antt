use Rattle.std.proofs.Common.{◌∙◌, Err, ap, length, length-append, arith}
use Rattle.part_table.specs.declared.table.Table.{Table}
use Rattle.part_table.specs.Written.{written_table}
use Rattle.image_pack.proofs.FlashLemmas.{table-agrees, table-fits, table-size}
use Rattle.image_pack.proofs.generating.table_text.Goals as goal

pub write_table-requires : goal.write_table-requires
write_table-requires c = table-agrees c.made_table.result c.made_table.ensures

pub unreachable-requires : goal.unreachable-requires
unreachable-requires c =
    table-fits c.made_table.result c.made_table.ensures
    ((c.write_table.ensures.too_long c.in-Err-TooLong.field-0-0).0
    (c.in-Err-TooLong.is ∙ ap (λ e. Err e) c.in-Err-TooLong.field-0-is)).0

pub returns-in-Ok-clause-few : goal.returns-in-Ok-clause-few
returns-in-Ok-clause-few c =
    let long = ap (λ xs. length xs) c.in-Ok.ensures.ok in
    let same = ap (λ (t : Table). length (written_table t)) c.made_table.ensures in
    omega (
      arith,
      long,
      same,
      table-size,
      length-append c.new-text.result.items (written_table c.made_table.result),
      ap (λ xs. length xs) c.new-text.ensures.items,
    )
