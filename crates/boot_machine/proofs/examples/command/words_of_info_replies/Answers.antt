-- By computing.
use Rattle.std.proofs.Common.{refl}
use Rattle.block_codec.specs.Words.{word_bytes}
use Rattle.boot_machine.proofs.examples.command.words_of_info_replies.Goals as goal

pub returns-clause-arm : goal.returns-clause-arm
unfolding word_bytes
returns-clause-arm c = refl
