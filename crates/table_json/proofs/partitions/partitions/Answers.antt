use Rattle.std.proofs.Common.{◌≡◌, ℕ, ◌+◌, ◌<◌, List, [], ◌∷◌, ◌++◌, length, drop, get_or, map, Ok, Err, Result, sym, ap, ◌∙◌, arith}
use Rattle.std.proofs.lemmas.Grind.{common_steps}
use Rattle.std.proofs.lemmas.List.{at_drop_more, at_drop_all}
use Rattle.std.proofs.lemmas.Result.{err_from_is_err_and}
use Rattle.serde_json.specs.View.{view}
use Rattle.serde_json.specs.declared.value.Value.{Value}
use Rattle.part_table.specs.declared.partition.Partition.{Partition}
use Rattle.table_json.specs.declared.fault.JsonFault.{JsonFault}
use Rattle.table_json.specs.Steps.{◌>>=◌}
use Rattle.table_json.specs.Partitions.{partition_of_value, partitions_after}
use Rattle.table_json.proofs.partitions.partitions.Goals as goal

module _ (vs : List Value) (i : ℕ) (v : Value) (done : List Partition) (number : ℕ) (within : i < length vs)
    (is : v ≡ get_or vs i v) (next : number ≡ length done) where
  -- what the rest of the values gives, by what the next value gives
  rest : (part : Result Partition JsonFault) → part ≡ partition_of_value number (view v)
      → (part >>= (λ p. partitions_after (done ++ p ∷ []) (map view (drop (i + 1) vs))))
      ≡ partitions_after done (map view (drop i vs))
  rest part read =
      ap (λ (r : Result Partition JsonFault). r >>= (λ p. partitions_after (done ++ p ∷ []) (map view (drop (i + 1) vs))))
      (read ∙ ap (λ n. partition_of_value n (view v)) next)
      ∙ ap (λ (w : Value). partitions_after done (map view (w ∷ drop (i + 1) vs))) is
      ∙ sym (at_drop_more (λ (ws : List Value). partitions_after done (map view ws)) vs i v within)

pub returns-in_err-part-clause-value : goal.returns-in_err-part-clause-value
returns-in_err-part-clause-value c =
    let p = err_from_is_err_and c.from_residual.result c.from_residual.ensures.1 in
    rw (p.1) (ap (λ fault. Err fault) (p.2)
    ∙ rest c.args.values.now c.loop-value.value-index c.value-item.result c.loop-value.parts.items c.len.result
    c.loop-value-test.true c.value-item.is c.len.ensures.value (Err c.in_err-part.field-0.0) c.in_err-part.ensures.value
    ∙ c.loop-value.invariant.rest)

pub loop-value-preserved : goal.loop-value-preserved
loop-value-preserved c = record {
  rest =
      ap (λ (parts : List Partition). partitions_after parts
      (map view (drop (c.loop-value.value-index + 1) c.args.values.now)))
      c.push.ensures.items
      ∙ rest c.args.values.now c.loop-value.value-index c.value-item.result c.loop-value.parts.items c.len.result
      c.loop-value-test.true c.value-item.is c.len.ensures.value (Ok c.in_ok-part.part) c.in_ok-part.ensures.value
      ∙ c.loop-value.invariant.rest;
  agree = grind (arith, common_steps);
  long = grind (arith, common_steps);
}

pub returns-clause-value : goal.returns-clause-value
returns-clause-value c =
    sym (at_drop_all (λ (ws : List Value). partitions_after c.loop-value.parts.items (map view ws))
    c.args.values.now c.loop-value.value-index c.loop-value-test.false)
    ∙ c.loop-value.invariant.rest
