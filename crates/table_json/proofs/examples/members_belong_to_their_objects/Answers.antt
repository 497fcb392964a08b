use Rattle.std.proofs.Common.{refl}
use Rattle.serde_json.proofs.OnLiterals.{serde_json_on_literals}
use Rattle.table_json.proofs.examples.members_belong_to_their_objects.Goals as goal

pub returns-clause-table_id : goal.returns-clause-table_id
unfolding serde_json_on_literals
returns-clause-table_id c = refl

pub returns-clause-outside_first : goal.returns-clause-outside_first
unfolding serde_json_on_literals
returns-clause-outside_first c = refl

pub returns-clause-part_start : goal.returns-clause-part_start
unfolding serde_json_on_literals
returns-clause-part_start c = refl

pub returns-clause-part_size : goal.returns-clause-part_size
unfolding serde_json_on_literals
returns-clause-part_size c = refl

pub returns-clause-part_version : goal.returns-clause-part_version
unfolding serde_json_on_literals
returns-clause-part_version c = refl

pub returns-clause-spec_families : goal.returns-clause-spec_families
unfolding serde_json_on_literals
returns-clause-spec_families c = refl

pub returns-clause-rights_first : goal.returns-clause-rights_first
unfolding serde_json_on_literals
returns-clause-rights_first c = refl

pub returns-clause-family : goal.returns-clause-family
unfolding serde_json_on_literals
returns-clause-family c = refl
