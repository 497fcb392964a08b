use Rattle.std.proofs.Common.{◌≡◌, take, map, true}
use Rattle.std.specs.List.{list_all}
use Rattle.serde_json.specs.View.{view}
use Rattle.table_json.specs.Families.{is_family_name}
use Rattle.table_json.proofs.families.are_names.Given as goal

abbrev pub invariant-loop-value : goal.invariant-loop-value
invariant-loop-value l = list_all is_family_name (map view (take l.value-index l.values)) ≡ true
