use Rattle.std.proofs.Common.{◌≡◌, [], drop, map}
use Rattle.serde_json.specs.View.{view}
use Rattle.table_json.specs.Otps.{pairs_after}
use Rattle.table_json.proofs.otps.pairs_of.Given as goal

abbrev pub invariant-loop-value : goal.invariant-loop-value
invariant-loop-value l =
    pairs_after l.pairs.items (map view (drop l.value-index l.values)) ≡ pairs_after [] (map view l.values)
