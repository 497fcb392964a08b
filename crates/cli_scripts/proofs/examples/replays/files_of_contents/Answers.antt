use Rattle.std.proofs.Common.{refl}
use Rattle.block_codec.specs.Words.{word_bytes}
use Rattle.cli_scripts.proofs.examples.replays.files_of_contents.Goals as goal

pub returns : goal.returns
unfolding word_bytes
returns c = refl
