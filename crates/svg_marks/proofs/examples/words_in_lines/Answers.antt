use Rattle.std.proofs.Common.{refl}
use Rattle.std.specs.Fmt.{digits}
use Rattle.svg_marks.specs.Breaks.{is_broken}
use Rattle.svg_marks.specs.Marks.{mark_text, class_text, position_text, escaped_byte, next_line_text, starts_text}
use Rattle.svg_marks.proofs.examples.words_in_lines.Goals as goal

pub returns-clause-short : goal.returns-clause-short
unfolding mark_text class_text position_text escaped_byte digits starts_text is_broken
returns-clause-short c = refl

pub returns-clause-starts : goal.returns-clause-starts
unfolding mark_text class_text position_text escaped_byte digits starts_text is_broken
returns-clause-starts c = refl

pub returns-clause-one : goal.returns-clause-one
unfolding escaped_byte
returns-clause-one c = refl

pub returns-clause-third : goal.returns-clause-third
unfolding escaped_byte digits next_line_text
returns-clause-third c = refl
