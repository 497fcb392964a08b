use Rattle.std.proofs.Common.{◌≡◌, drop, map}
use Rattle.script_words.specs.Naming.{fit_from}
use Rattle.script_words.specs.Values.{value_from}
use Rattle.script_words.proofs.naming.are_fit.Given as goal

abbrev pub invariant-loop-value : goal.invariant-loop-value
invariant-loop-value l = record {
  count : l.place ≡ l.value-index;
  so_far : fit_from l.row 0 (map value_from l.values)
      ≡ fit_from l.row l.place (map value_from (drop l.value-index l.values));
}
