use Rattle.table_json.proofs.RuleLemmas.{fields_first, otp_first, spec_first}
use Rattle.table_json.proofs.laws.faults_are_the_first.Goals as goal

pub returns-clause-table : goal.returns-clause-table
returns-clause-table c = fields_first

pub returns-clause-spec : goal.returns-clause-spec
returns-clause-spec c = spec_first

pub returns-clause-otp : goal.returns-clause-otp
returns-clause-otp c = otp_first
