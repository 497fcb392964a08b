use Rattle.std.proofs.Common.{refl}
use Rattle.std.specs.Fmt.{digits}
use Rattle.block_codec.specs.Words.{word_bytes}
use Rattle.boot_machine.specs.Plays.{moved_machine}
use Rattle.cli_scripts.proofs.examples.replays.replays_of_scripts.Goals as goal

pub returns : goal.returns
unfolding digits word_bytes moved_machine
returns c = refl
