use Rattle.std.proofs.Common.{refl}
use Rattle.std.specs.Fmt.{digits}
use Rattle.cli_sweep.proofs.examples.sweep_faults.Goals as goal

pub returns-clause-confined : goal.returns-clause-confined
unfolding digits
returns-clause-confined c = refl

pub returns-clause-gated : goal.returns-clause-gated
unfolding digits
returns-clause-gated c = refl
