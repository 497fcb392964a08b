use Rattle.std.proofs.Common.{◌<◌, ◌≤◌, [], ◌∷◌, refl, arith}
use Rattle.std.proofs.lemmas.List.Elements.{All-nil, All-cons}
use Rattle.part_table.specs.Examples.{plain_partition}
use Rattle.part_table.specs.Fields.{first_sector, last_sector}
use Rattle.part_table.specs.declared.partition.Partition.{Partition}
use Rattle.picoboot_cmd.proofs.examples.a_table_that_fits.Goals as goal

abbrev Fits : Partition → Type 0
Fits p = (first_sector p ≤ last_sector p) × (last_sector p < 62)

abbrev one : Partition
one = plain_partition 0x7c03e002 0x7c020000

abbrev other : Partition
other = plain_partition 0xfc07a020 0xfc020002

first : Fits one
first = (omega arith, omega arith)

second : Fits other
second = (omega arith, omega arith)

pub returns-clause-whole : goal.returns-clause-whole
returns-clause-whole c = record {
  permissions = refl;
  overlap = refl;
  links = refl;
  inside = All-cons Fits one (other ∷ []) first (All-cons Fits other [] second (All-nil Fits));
}

pub returns-clause-shorter : goal.returns-clause-shorter
returns-clause-shorter c = λ is.
    let last = is.inside 1 (plain_partition 0 0) (omega arith) in
    absurd (omega (arith, last.1))
