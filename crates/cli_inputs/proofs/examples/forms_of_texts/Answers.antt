use Rattle.std.proofs.Common.{refl}
use Rattle.std.specs.Str.{is_utf8, chars}
use Rattle.serde_json.proofs.OnLiterals.{serde_json_on_literals}
use Rattle.check_require.specs.Texts.{require_read}
use Rattle.cli_inputs.specs.Jsons.{spec_read, table_read, otp_read}
use Rattle.cli_inputs.proofs.examples.forms_of_texts.Goals as goal

pub returns-clause-empty : goal.returns-clause-empty
unfolding serde_json_on_literals is_utf8 chars spec_read table_read
returns-clause-empty c = refl

pub returns-clause-not_utf8 : goal.returns-clause-not_utf8
unfolding serde_json_on_literals is_utf8 chars spec_read table_read
returns-clause-not_utf8 c = refl

pub returns-clause-spec : goal.returns-clause-spec
unfolding serde_json_on_literals is_utf8 chars spec_read table_read
returns-clause-spec c = refl

pub returns-clause-processor : goal.returns-clause-processor
unfolding serde_json_on_literals is_utf8 chars spec_read table_read
returns-clause-processor c = refl

pub returns-clause-list : goal.returns-clause-list
unfolding serde_json_on_literals is_utf8 chars spec_read table_read
returns-clause-list c = refl

pub returns-clause-list_of_spec : goal.returns-clause-list_of_spec
unfolding serde_json_on_literals is_utf8 chars spec_read table_read
returns-clause-list_of_spec c = refl

pub returns-clause-unknown : goal.returns-clause-unknown
unfolding serde_json_on_literals is_utf8 chars spec_read table_read
returns-clause-unknown c = refl

pub returns-clause-otp : goal.returns-clause-otp
unfolding serde_json_on_literals is_utf8 chars otp_read
returns-clause-otp c = refl

pub returns-clause-list_of_otp : goal.returns-clause-list_of_otp
unfolding serde_json_on_literals is_utf8 chars otp_read
returns-clause-list_of_otp c = refl

pub returns-clause-otp_unknown : goal.returns-clause-otp_unknown
unfolding serde_json_on_literals is_utf8 chars otp_read
returns-clause-otp_unknown c = refl

pub returns-clause-asks : goal.returns-clause-asks
unfolding serde_json_on_literals is_utf8 chars require_read
returns-clause-asks c = refl

pub returns-clause-asks_of_list : goal.returns-clause-asks_of_list
unfolding serde_json_on_literals is_utf8 chars require_read
returns-clause-asks_of_list c = refl

pub returns-clause-asks_unknown : goal.returns-clause-asks_unknown
unfolding serde_json_on_literals is_utf8 chars require_read
returns-clause-asks_unknown c = refl

pub returns-clause-asks_nothing : goal.returns-clause-asks_nothing
unfolding serde_json_on_literals is_utf8 chars require_read
returns-clause-asks_nothing c = refl
