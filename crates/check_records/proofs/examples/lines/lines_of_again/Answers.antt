use Rattle.std.proofs.Common.{refl}
use Rattle.std.specs.Fmt.{padded_integral, digits, char_count}
use Rattle.check_records.specs.Texts.{again_line, lines_by, refused_line, unfinished_line}
use Rattle.check_records.proofs.examples.lines.lines_of_again.Goals as goal

pub returns-clause-yes : goal.returns-clause-yes
unfolding again_line lines_by refused_line unfinished_line padded_integral digits char_count
returns-clause-yes c = refl

pub returns-clause-step : goal.returns-clause-step
unfolding again_line lines_by refused_line unfinished_line padded_integral digits char_count
returns-clause-step c = refl

pub returns-clause-table : goal.returns-clause-table
unfolding again_line lines_by refused_line unfinished_line padded_integral digits char_count
returns-clause-table c = refl

pub returns-clause-target : goal.returns-clause-target
unfolding again_line lines_by refused_line unfinished_line padded_integral digits char_count
returns-clause-target c = refl
