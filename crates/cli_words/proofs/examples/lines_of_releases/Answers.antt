use Rattle.std.proofs.Common.{refl}
use Rattle.cli_words.specs.Usages.{release_line}
use Rattle.cli_words.proofs.examples.lines_of_releases.Goals as goal

pub returns : goal.returns
unfolding release_line
returns c = refl
