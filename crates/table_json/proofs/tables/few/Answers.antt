use Rattle.std.proofs.Common.{◌≡◌, ◌≤◌, ◌<◌, List, length, map, Option, Some, None, ap, ◌∙◌, option_and_then}
use Rattle.std.proofs.lemmas.Bool.{le-leb, lt-leb}
use Rattle.std.proofs.lemmas.List.{length-map}
use Rattle.serde_json.specs.Data.{Data}
use Rattle.serde_json.specs.View.{view}
use Rattle.serde_json.specs.declared.value.Value.{Value}
use Rattle.table_json.specs.Tables.{if_few}
use Rattle.table_json.proofs.tables.few.Goals as goal

-- values that are few, and more of them
are_few : (vs : List Value) → length vs ≤ 15 → Some (map view vs) ≡ if_few (map view vs)
are_few vs few = rw length-map (rw (le-leb (length vs) 15 few))

are_more : (vs : List Value) → 15 < length vs → None ≡ if_few (map view vs)
are_more vs more = rw length-map (rw (lt-leb (length vs) 15 more))

pub returns-in_err-values-clause-value : goal.returns-in_err-values-clause-value
returns-in_err-values-clause-value c =
    rw c.from_residual.ensures (ap (λ (o : Option (List Data)). option_and_then if_few o) c.in_err-values.ensures)

pub returns-in_err-values-clause-few : goal.returns-in_err-values-clause-few
returns-in_err-values-clause-few c = rw c.from_residual.ensures tt

pub returns-then-values-le15-clause-value : goal.returns-then-values-le15-clause-value
returns-then-values-le15-clause-value c =
    are_few c.in_ok-values.values.now c.if-values-le15.true
    ∙ ap (λ (o : Option (List Data)). option_and_then if_few o) c.in_ok-values.ensures

pub returns-then-values-le15-clause-few : goal.returns-then-values-le15-clause-few
returns-then-values-le15-clause-few c = c.if-values-le15.true

pub returns-else-values-le15-clause-value : goal.returns-else-values-le15-clause-value
returns-else-values-le15-clause-value c =
    are_more c.in_ok-values.values.now c.if-values-le15.false
    ∙ ap (λ (o : Option (List Data)). option_and_then if_few o) c.in_ok-values.ensures
