use Rattle.std.proofs.Common.{refl}
use Rattle.std.specs.Fmt.{padded_integral, digits, char_count}
use Rattle.check_records.specs.Texts.{again_line, lines_by, refused_line, unfinished_line}
use Rattle.check_records.proofs.examples.lines.lines_of_records.Goals as goal

pub returns-clause-ok : goal.returns-clause-ok
unfolding again_line lines_by refused_line unfinished_line padded_integral digits char_count
returns-clause-ok c = refl

pub returns-clause-refused : goal.returns-clause-refused
unfolding again_line lines_by refused_line unfinished_line padded_integral digits char_count
returns-clause-refused c = refl

pub returns-clause-command : goal.returns-clause-command
unfolding again_line lines_by refused_line unfinished_line padded_integral digits char_count
returns-clause-command c = refl

pub returns-clause-unfinished : goal.returns-clause-unfinished
unfolding again_line lines_by refused_line unfinished_line padded_integral digits char_count
returns-clause-unfinished c = refl

pub returns-clause-both : goal.returns-clause-both
unfolding again_line lines_by refused_line unfinished_line padded_integral digits char_count
returns-clause-both c = refl
