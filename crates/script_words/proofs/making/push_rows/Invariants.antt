use Rattle.std.proofs.Common.{◌≡◌, ◌++◌, map, take}
use Rattle.script_words.specs.Made.{rows_bytes}
use Rattle.script_words.specs.Values.{value_from}
use Rattle.script_words.proofs.making.push_rows.Given as goal

abbrev pub invariant-loop-value : goal.invariant-loop-value
invariant-loop-value l =
    l.payload.items ≡ l.fn.payload.items ++ rows_bytes (map value_from (take l.value-index l.values))
