use Rattle.std.proofs.Common.{◌≡◌, [], drop, map}
use Rattle.serde_json.specs.View.{view}
use Rattle.check_require.specs.Forms.{caveat_form, read_after}
use Rattle.check_require.proofs.forms.allowed_caveats_of.Given as goal

abbrev pub invariant-loop-value : goal.invariant-loop-value
invariant-loop-value l =
    read_after caveat_form l.read.items (map view (drop l.value-index l.values))
    ≡ read_after caveat_form [] (map view l.values)
