use Rattle.std.proofs.Common.{◌≡◌, [], All, drop, length, map}
use Rattle.serde_json.specs.View.{view}
use Rattle.part_table.specs.Written.{AgreesWithFlags}
use Rattle.table_json.specs.Partitions.{partitions_after}
use Rattle.table_json.proofs.partitions.partitions.Given as goal

abbrev pub invariant-loop-value : goal.invariant-loop-value
invariant-loop-value l = record {
  rest : partitions_after l.parts.items (map view (drop l.value-index l.values))
      ≡ partitions_after [] (map view l.values);
  agree : All AgreesWithFlags l.parts.items;
  long : length l.parts.items ≡ l.value-index;
}
