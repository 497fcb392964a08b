use Rattle.std.proofs.Common.{◌≡◌, ◌≤◌, length, take, map}
use Rattle.serde_json.specs.View.{view}
use Rattle.table_json.specs.Families.{family_numbers}
use Rattle.table_json.proofs.families.few_numbers.Given as goal

abbrev pub invariant-loop-value : goal.invariant-loop-value
invariant-loop-value l = record {
  so_far : l.numbers.items ≡ family_numbers (map view (take l.value-index l.values));
  few : length l.numbers.items ≤ 3;
}
