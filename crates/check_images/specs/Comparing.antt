-- Whether two flashes have the same table.
use Rattle.std.specs.Prelude.{◌==◌, ◌&&◌, Bool, true, false, Option, Some, None}
use Rattle.boot_rules.specs.declared.tables.Found.{Found}
use Rattle.slot_caveats.specs.TableCaveats.{is_same_table}

-- one table in one slot, or none in both
abbrev pub is_same_found : Option Found → Option Found → Bool
is_same_found None None = true
is_same_found None (Some g) = false
is_same_found (Some f) None = false
is_same_found (Some f) (Some g) = f.slot == g.slot && is_same_table f.table g.table
