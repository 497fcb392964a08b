use Rattle.std.proofs.Common.{◌≡◌, take, map, false}
use Rattle.std.specs.List.{list_any}
use Rattle.serde_json.specs.View.{view}
use Rattle.table_json.specs.Families.{names_family}
use Rattle.table_json.proofs.families.is_named.Given as goal

abbrev pub invariant-loop-value : goal.invariant-loop-value
invariant-loop-value l = list_any (names_family l.family) (map view (take l.value-index l.values)) ≡ false
