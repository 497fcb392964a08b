use Rattle.std.proofs.Common.{refl}
use Rattle.std.specs.Str.{is_utf8, chars}
use Rattle.serde_json.proofs.OnLiterals.{serde_json_on_literals}
use Rattle.cli_inputs.specs.Jsons.{spec_read, table_read, otp_read}
use Rattle.cli_tools.specs.Seals.{seal_error}
use Rattle.boot_run.proofs.examples.refusals_of_sealings.Goals as goal

pub returns-clause-rollback : goal.returns-clause-rollback
unfolding serde_json_on_literals is_utf8 chars spec_read table_read seal_error
returns-clause-rollback c = refl

pub returns-clause-rows : goal.returns-clause-rows
unfolding serde_json_on_literals is_utf8 chars spec_read table_read seal_error
returns-clause-rows c = refl

pub returns-clause-form : goal.returns-clause-form
unfolding serde_json_on_literals is_utf8 chars spec_read table_read seal_error
returns-clause-form c = refl

pub returns-clause-table : goal.returns-clause-table
unfolding serde_json_on_literals is_utf8 chars spec_read table_read seal_error
returns-clause-table c = refl

pub returns-clause-otp : goal.returns-clause-otp
unfolding serde_json_on_literals is_utf8 chars otp_read
returns-clause-otp c = refl
