use Rattle.table_json.proofs.PlainLemmas.{otp_plain, spec_plain, table_json, table_memory}
use Rattle.table_json.proofs.laws.values_are_json.Goals as goal

pub returns-clause-table : goal.returns-clause-table
returns-clause-table c = λ d. table_json d

pub returns-clause-table_memory : goal.returns-clause-table_memory
returns-clause-table_memory c = λ d. table_memory d

pub returns-clause-spec : goal.returns-clause-spec
returns-clause-spec c = λ d. (spec_plain d).json

pub returns-clause-spec_memory : goal.returns-clause-spec_memory
returns-clause-spec_memory c = λ d. (spec_plain d).memory

pub returns-clause-otp : goal.returns-clause-otp
returns-clause-otp c = λ d. (otp_plain d).json

pub returns-clause-otp_memory : goal.returns-clause-otp_memory
returns-clause-otp_memory c = λ d. (otp_plain d).memory
