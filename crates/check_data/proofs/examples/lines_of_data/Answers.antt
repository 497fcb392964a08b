-- By computing.
use Rattle.std.proofs.Common.{refl}
use Rattle.std.specs.Fmt.{padded_integral, digits, char_count}
use Rattle.check_data.specs.Texts.{data_line}
use Rattle.check_data.proofs.examples.lines_of_data.Goals as goal

pub returns-clause-both : goal.returns-clause-both
unfolding data_line padded_integral digits char_count
returns-clause-both c = refl

pub returns-clause-former : goal.returns-clause-former
unfolding data_line padded_integral digits char_count
returns-clause-former c = refl

pub returns-clause-end : goal.returns-clause-end
unfolding data_line padded_integral digits char_count
returns-clause-end c = refl
