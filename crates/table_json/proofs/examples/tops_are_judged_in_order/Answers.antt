use Rattle.std.proofs.Common.{refl}
use Rattle.serde_json.proofs.OnLiterals.{serde_json_on_literals}
use Rattle.table_json.proofs.examples.tops_are_judged_in_order.Goals as goal

pub returns-clause-list : goal.returns-clause-list
unfolding serde_json_on_literals
returns-clause-list c = refl

pub returns-clause-unknown_version : goal.returns-clause-unknown_version
unfolding serde_json_on_literals
returns-clause-unknown_version c = refl

pub returns-clause-unknown_missing : goal.returns-clause-unknown_missing
unfolding serde_json_on_literals
returns-clause-unknown_missing c = refl

pub returns-clause-version_singleton : goal.returns-clause-version_singleton
unfolding serde_json_on_literals
returns-clause-version_singleton c = refl

pub returns-clause-singleton_missing : goal.returns-clause-singleton_missing
unfolding serde_json_on_literals
returns-clause-singleton_missing c = refl

pub returns-clause-unpartitioned_partitions : goal.returns-clause-unpartitioned_partitions
unfolding serde_json_on_literals
returns-clause-unpartitioned_partitions c = refl

pub returns-clause-partitions_value : goal.returns-clause-partitions_value
unfolding serde_json_on_literals
returns-clause-partitions_value c = refl

pub returns-clause-top_inner : goal.returns-clause-top_inner
unfolding serde_json_on_literals
returns-clause-top_inner c = refl
