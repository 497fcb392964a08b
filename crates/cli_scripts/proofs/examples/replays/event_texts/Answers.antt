use Rattle.std.proofs.Common.{refl}
use Rattle.std.specs.Fmt.{digits}
use Rattle.cli_scripts.proofs.examples.replays.event_texts.Goals as goal

pub returns-clause-two : goal.returns-clause-two
unfolding digits
returns-clause-two c = refl

pub returns-clause-tenth : goal.returns-clause-tenth
unfolding digits
returns-clause-tenth c = refl
