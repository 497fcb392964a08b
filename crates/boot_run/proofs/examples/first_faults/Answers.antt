use Rattle.std.proofs.Common.{refl}
use Rattle.std.specs.Fmt.{digits}
use Rattle.boot_script.specs.Judging.{first_error}
use Rattle.boot_run.proofs.examples.first_faults.Goals as goal

pub returns-clause-replay_script : goal.returns-clause-replay_script
unfolding first_error digits
returns-clause-replay_script c = refl
