use Rattle.std.proofs.Common.{inl, inr, refl, ap, Err}
use Rattle.std.proofs.lemmas.Bool.{cases_lt}
use Rattle.part_table.specs.Written.{written_size}
use Rattle.table_json.specs.declared.fault.JsonFault.TheVariants.{TooLong}
use Rattle.table_json.proofs.tables.judge_size.Goals as goal

pub returns-in-Ok-clause-ok : goal.returns-in-Ok-clause-ok
returns-in-Ok-clause-ok c =
    let size = written_size c.args.table.now in
    elim (cases_lt 640 size) [
      | inl many ↦ let too_long = (c.in-Ok.ensures.too_long size).1 (many, refl) in cc
      | inr few ↦ few
    ]

pub returns-in-Err-TooLong-clause-err : goal.returns-in-Err-TooLong-clause-err
returns-in-Err-TooLong-clause-err c =
    λ other.
    let told = (c.in-Err-TooLong.ensures.too_long c.in-Err-TooLong.size).0 (ap Err c.in-Err-TooLong.field-0-is) in
    (told.0, ap TooLong told.1)
