use Rattle.std.proofs.Common.{◌∙◌, ap, sym}
use Rattle.part_table.specs.Faults.{parts_fault}
use Rattle.part_table.proofs.TableLemmas.{not_bad, some_read, fault_of_parts}
use Rattle.part_table.proofs.reading.table_of.Goals as goal

pub returns-in-Some : goal.returns-in-Some
returns-in-Some c =
    fault_of_parts c.args.block.now c.args.sectors c.args.first c.in_ok-table.table c.in-Some.fault
    (not_bad _ _ c.in_ok-hash.hash c.in_ok-hash.ensures.value) (some_read _ c.in_ok-table.table c.in_ok-table.ensures)
    (sym c.in-Some.is ∙ c.parts_fault.ensures
    ∙ ap (λ ps. parts_fault ps c.args.sectors c.args.first) c.as_slice.ensures.value)
