use Rattle.std.proofs.Common.{refl}
use Rattle.block_codec.specs.Words.{word_bytes}
use Rattle.ram_start.proofs.examples.commands_of_ram.Goals as goal

pub returns-clause-reboot : goal.returns-clause-reboot
unfolding word_bytes
returns-clause-reboot c = refl

pub returns-clause-exclusive : goal.returns-clause-exclusive
unfolding word_bytes
returns-clause-exclusive c = refl

pub returns-clause-normal : goal.returns-clause-normal
unfolding word_bytes
returns-clause-normal c = refl

pub returns-clause-bootsel : goal.returns-clause-bootsel
unfolding word_bytes
returns-clause-bootsel c = refl

pub returns-clause-update : goal.returns-clause-update
unfolding word_bytes
returns-clause-update c = refl

pub returns-clause-another : goal.returns-clause-another
unfolding word_bytes
returns-clause-another c = refl

pub returns-clause-shorter_reboot : goal.returns-clause-shorter_reboot
unfolding word_bytes
returns-clause-shorter_reboot c = refl
