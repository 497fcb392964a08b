-- By computing.
use Rattle.std.proofs.Common.{refl}
use Rattle.std.specs.Fmt.{padded_integral, digits, char_count}
use Rattle.boot_machine.specs.Serving.{info_status, info_reply}
use Rattle.boot_machine.proofs.examples.command.info_commands.Goals as goal

pub returns-clause-ram : goal.returns-clause-ram
unfolding padded_integral digits char_count info_status info_reply
returns-clause-ram c = refl

pub returns-clause-busy : goal.returns-clause-busy
unfolding padded_integral digits char_count info_status info_reply
returns-clause-busy c = refl

pub returns-clause-short : goal.returns-clause-short
unfolding padded_integral digits char_count info_status info_reply
returns-clause-short c = refl

pub returns-clause-kind : goal.returns-clause-kind
unfolding padded_integral digits char_count info_status info_reply
returns-clause-kind c = refl

pub returns-clause-partition : goal.returns-clause-partition
unfolding padded_integral digits char_count info_status info_reply
returns-clause-partition c = refl

pub returns-clause-kept : goal.returns-clause-kept
unfolding padded_integral digits char_count info_status info_reply
returns-clause-kept c = refl
