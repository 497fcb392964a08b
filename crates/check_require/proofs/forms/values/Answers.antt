use Rattle.std.proofs.Common.{◌∙◌, ap, Some, map, List}
use Rattle.serde_json.specs.View.{view}
use Rattle.serde_json.specs.declared.value.Value.{Value}
use Rattle.check_require.proofs.ValueLemmas.{values_found}
use Rattle.check_require.proofs.forms.values.Goals as goal

pub returns : goal.returns
returns c =
    ap (λ (vs : List Value). Some (map view vs)) c.as_slice.ensures.value ∙ values_found _ _ c.in_ok-as_array.ensures
