use Rattle.cli_inputs.proofs.JsonLemmas.{exact-otp}
use Rattle.cli_inputs.proofs.json.exact_otp.Goals as goal

pub returns-clause-value : goal.returns-clause-value
returns-clause-value c =
    exact-otp c.args.text.now c.otp_spec_of.result c.otp_spec_of.ensures.spec c.otp_spec_of.ensures.first
    c.otp_spec_of.ensures.exact
