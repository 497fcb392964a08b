use Rattle.std.proofs.Common.{refl}
use Rattle.std.specs.Fmt.{padded_integral, digits, char_count}
use Rattle.svg_map.specs.Maps.{map_words, window_span_text}
use Rattle.cli_map.specs.Texts.{row_text}
use Rattle.cli_map.proofs.examples.windows_that_are_drawn.Goals as goal

pub returns-clause-started : goal.returns-clause-started
unfolding window_span_text padded_integral digits char_count row_text
returns-clause-started c = refl

pub returns-clause-free : goal.returns-clause-free
unfolding window_span_text padded_integral digits char_count row_text
returns-clause-free c = refl

pub returns-clause-line : goal.returns-clause-line
unfolding window_span_text padded_integral digits char_count row_text map_words
returns-clause-line c = refl
