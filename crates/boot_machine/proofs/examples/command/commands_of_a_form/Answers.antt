-- By computing.
use Rattle.std.proofs.Common.{refl}
use Rattle.std.specs.Fmt.{padded_integral, digits, char_count}
use Rattle.boot_machine.proofs.examples.command.commands_of_a_form.Goals as goal

pub returns-clause-unknown : goal.returns-clause-unknown
unfolding padded_integral digits char_count
returns-clause-unknown c = refl
