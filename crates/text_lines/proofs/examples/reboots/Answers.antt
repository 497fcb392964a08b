use Rattle.std.proofs.Common.{refl}
use Rattle.std.specs.Fmt.{padded_integral, digits, char_count}
use Rattle.text_lines.proofs.examples.reboots.Goals as goal

pub returns-clause-boot : goal.returns-clause-boot
unfolding padded_integral digits char_count
returns-clause-boot c = refl

pub returns-clause-ram : goal.returns-clause-ram
unfolding padded_integral digits char_count
returns-clause-ram c = refl
