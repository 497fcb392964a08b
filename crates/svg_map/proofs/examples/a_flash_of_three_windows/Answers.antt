use Rattle.std.proofs.Common.{refl}
use Rattle.std.specs.Fmt.{char_count, digits, padded_integral}
use Rattle.svg_marks.specs.Breaks.{is_broken}
use Rattle.svg_map.specs.Maps.{map_words, window_span_text}
use Rattle.svg_map.proofs.examples.a_flash_of_three_windows.Goals as goal

pub returns-clause-words : goal.returns-clause-words
unfolding map_words window_span_text digits padded_integral char_count
returns-clause-words c = refl

pub returns-clause-row : goal.returns-clause-row
unfolding map_words window_span_text digits padded_integral char_count
returns-clause-row c = refl

pub returns-clause-join : goal.returns-clause-join
unfolding map_words window_span_text digits padded_integral char_count
returns-clause-join c = refl

pub returns-clause-starts : goal.returns-clause-starts
unfolding map_words window_span_text digits padded_integral char_count
returns-clause-starts c = refl

pub returns-clause-former : goal.returns-clause-former
unfolding map_words window_span_text digits padded_integral char_count
returns-clause-former c = refl

pub returns-clause-column : goal.returns-clause-column
unfolding is_broken
returns-clause-column c = refl
