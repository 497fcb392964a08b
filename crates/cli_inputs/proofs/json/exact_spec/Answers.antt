use Rattle.cli_inputs.proofs.JsonLemmas.{exact-spec}
use Rattle.cli_inputs.proofs.json.exact_spec.Goals as goal

pub returns : goal.returns
returns c =
    exact-spec c.args.text.now c.spec_of.result c.spec_of.ensures.spec c.spec_of.ensures.first c.spec_of.ensures.exact
