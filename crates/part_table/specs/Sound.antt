-- Sound tables.
use Rattle.std.specs.Prelude.{◌≡◌, ℕ, ◌/◌, ◌<◌, ◌≤◌, All, IfSome, None, Option}
use Rattle.part_table.specs.declared.table.Table.{Table}
use Rattle.part_table.specs.Fields.{first_sector, last_sector}
use Rattle.part_table.specs.Faults.{permissions_fault, overlap_fault, link_fault}

-- a table is sound for a flash of n sectors where it has no fault of permissions, overlap or link;
-- each partition's first sector is not above its last, and its last is below n
pub record IsSoundTable (t : Table) (n : ℕ) : Type 0 where
  pub permissions : permissions_fault t.parts.items ≡ None
  pub overlap : overlap_fault t.parts.items ≡ None
  pub links : link_fault t.parts.items ≡ None
  pub inside : All (λ p. (first_sector p ≤ last_sector p) × (last_sector p < n)) t.parts.items

-- a table, where there is one, is sound for a flash of n bytes
abbrev pub IsSoundFor : Option Table → ℕ → Type 0
IsSoundFor table n = IfSome table (λ t. IsSoundTable t (n / 4096))
