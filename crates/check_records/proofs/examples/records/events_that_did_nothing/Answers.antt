use Rattle.std.proofs.Common.{refl}
use Rattle.check_records.specs.Idle.{is_idle}
use Rattle.check_records.proofs.examples.records.events_that_did_nothing.Goals as goal

pub returns-clause-off : goal.returns-clause-off
unfolding is_idle
returns-clause-off c = refl

pub returns-clause-off_behind_lost_power : goal.returns-clause-off_behind_lost_power
unfolding is_idle
returns-clause-off_behind_lost_power c = refl

pub returns-clause-ignored : goal.returns-clause-ignored
unfolding is_idle
returns-clause-ignored c = refl

pub returns-clause-buy_none : goal.returns-clause-buy_none
unfolding is_idle
returns-clause-buy_none c = refl

pub returns-clause-bad_magic : goal.returns-clause-bad_magic
unfolding is_idle
returns-clause-bad_magic c = refl

pub returns-clause-refused_write : goal.returns-clause-refused_write
unfolding is_idle
returns-clause-refused_write c = refl

pub returns-clause-refused_read : goal.returns-clause-refused_read
unfolding is_idle
returns-clause-refused_read c = refl

pub returns-clause-refused_info : goal.returns-clause-refused_info
unfolding is_idle
returns-clause-refused_info c = refl

pub returns-clause-refused_rows : goal.returns-clause-refused_rows
unfolding is_idle
returns-clause-refused_rows c = refl

pub returns-clause-below_read : goal.returns-clause-below_read
unfolding is_idle
returns-clause-below_read c = refl

pub returns-clause-above_read : goal.returns-clause-above_read
unfolding is_idle
returns-clause-above_read c = refl

pub returns-clause-below_info : goal.returns-clause-below_info
unfolding is_idle
returns-clause-below_info c = refl

pub returns-clause-above_rows : goal.returns-clause-above_rows
unfolding is_idle
returns-clause-above_rows c = refl

pub returns-clause-bad_block : goal.returns-clause-bad_block
unfolding is_idle
returns-clause-bad_block c = λ fault. refl

pub returns-clause-refused_block : goal.returns-clause-refused_block
unfolding is_idle
returns-clause-refused_block c = λ refusal. refl
