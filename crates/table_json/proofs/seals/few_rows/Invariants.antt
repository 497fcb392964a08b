use Rattle.std.proofs.Common.{◌≡◌, [], drop, length, map}
use Rattle.serde_json.specs.View.{view}
use Rattle.table_json.specs.Seals.{rows_after}
use Rattle.table_json.proofs.seals.few_rows.Given as goal

abbrev pub invariant-loop-value : goal.invariant-loop-value
invariant-loop-value l = record {
  rest : rows_after l.rows.items (map view (drop l.value-index l.values)) ≡ rows_after [] (map view l.values);
  long : length l.rows.items ≡ l.value-index;
}
