use Rattle.picoboot_cmd.proofs.StepsInsideLemmas.{command-inside}
use Rattle.picoboot_cmd.proofs.laws.steps_lie_in_the_content.Goals as goal

pub returns : goal.returns
returns c = command-inside
