use Rattle.std.proofs.Common.{◌≡◌, ◌++◌, drop, map}
use Rattle.std.specs.Prelude.{string_bytes}
use Rattle.script_words.specs.Spelling.{value_texts}
use Rattle.script_words.specs.Values.{value_from}
use Rattle.script_words.proofs.spelling.put_values.Given as goal

abbrev pub invariant-loop-value : goal.invariant-loop-value
invariant-loop-value l = record {
  count : l.place ≡ l.value-index;
  so_far : string_bytes l.fn.text ++ value_texts l.row 0 (map value_from l.values)
      ≡ string_bytes l.text ++ value_texts l.row l.place (map value_from (drop l.value-index l.values));
}
