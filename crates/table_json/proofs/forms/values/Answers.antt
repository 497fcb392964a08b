use Rattle.std.proofs.Common.{◌∙◌, ap, Some, map, List}
use Rattle.serde_json.specs.View.{view}
use Rattle.serde_json.specs.declared.value.Value.{Value}
use Rattle.table_json.proofs.ViewLemmas.{values_found}
use Rattle.table_json.proofs.forms.values.Goals as goal

pub returns : goal.returns
returns c =
    ap (λ (vs : List Value). Some (map view vs)) c.as_slice.ensures.value ∙ values_found _ _ c.in_ok-as_array.ensures
