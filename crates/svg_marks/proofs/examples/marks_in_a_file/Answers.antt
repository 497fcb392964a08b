use Rattle.std.proofs.Common.{refl}
use Rattle.std.specs.Fmt.{digits}
use Rattle.svg_marks.specs.Marks.{mark_text, area_text, class_text, ends_text, fill_text, stroke_text, position_text, escaped_byte}
use Rattle.svg_marks.proofs.examples.marks_in_a_file.Goals as goal

pub returns-clause-run : goal.returns-clause-run
unfolding mark_text area_text class_text ends_text fill_text stroke_text position_text escaped_byte digits
returns-clause-run c = refl

pub returns-clause-span : goal.returns-clause-span
unfolding mark_text area_text class_text ends_text fill_text stroke_text position_text escaped_byte digits
returns-clause-span c = refl

pub returns-clause-label : goal.returns-clause-label
unfolding mark_text area_text class_text ends_text fill_text stroke_text position_text escaped_byte digits
returns-clause-label c = refl

pub returns-clause-strip : goal.returns-clause-strip
unfolding mark_text area_text class_text ends_text fill_text stroke_text position_text escaped_byte digits
returns-clause-strip c = refl

pub returns-clause-column : goal.returns-clause-column
unfolding mark_text area_text class_text ends_text fill_text stroke_text position_text escaped_byte digits
returns-clause-column c = refl

pub returns-clause-line : goal.returns-clause-line
unfolding mark_text area_text class_text ends_text fill_text stroke_text position_text escaped_byte digits
returns-clause-line c = refl
