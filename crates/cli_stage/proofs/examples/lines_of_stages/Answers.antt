use Rattle.std.proofs.Common.{refl}
use Rattle.std.specs.Fmt.{padded_integral, digits, char_count}
use Rattle.cli_stage.proofs.examples.lines_of_stages.Goals as goal

pub returns-clause-staged : goal.returns-clause-staged
unfolding padded_integral digits char_count
returns-clause-staged c = refl

pub returns-clause-gated : goal.returns-clause-gated
unfolding padded_integral digits char_count
returns-clause-gated c = refl
