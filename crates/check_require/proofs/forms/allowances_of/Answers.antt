use Rattle.std.proofs.Common.{◌+◌, List, None, Some, ap, drop, map, sym, ◌∙◌}
use Rattle.std.proofs.lemmas.List.{at_drop_all}
use Rattle.serde_json.specs.View.{view}
use Rattle.serde_json.specs.declared.value.Value.{Value}
use Rattle.check_require.specs.declared.requirement.Allowance.{Allowance}
use Rattle.check_require.specs.Forms.{allowance_form, read_after}
use Rattle.check_require.proofs.ValueLemmas.{read-rest}
use Rattle.check_require.proofs.forms.allowances_of.Goals as goal

pub returns-in-None : goal.returns-in-None
returns-in-None c =
    read-rest allowance_form c.args.values.now c.loop-value.value-index c.value-item.result c.loop-value.read.items
    c.loop-value-test.true c.value-item.is None c.in-None.ensures
    ∙ c.loop-value.invariant

pub loop-value-preserved : goal.loop-value-preserved
loop-value-preserved c =
    ap (λ (done : List Allowance). read_after allowance_form done (map view (drop (c.loop-value.value-index + 1) c.args.values.now)))
    c.in_ok-push-in-Some.ensures.items
    ∙ read-rest allowance_form c.args.values.now c.loop-value.value-index c.value-item.result c.loop-value.read.items
    c.loop-value-test.true c.value-item.is (Some c.in-Some.allowance) c.in-Some.ensures
    ∙ c.loop-value.invariant

pub returns : goal.returns
returns c =
    sym (at_drop_all (λ (ws : List Value). read_after allowance_form c.loop-value.read.items (map view ws))
    c.args.values.now c.loop-value.value-index c.loop-value-test.false)
    ∙ c.loop-value.invariant
