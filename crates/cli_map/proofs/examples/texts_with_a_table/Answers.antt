use Rattle.std.proofs.Common.{refl}
use Rattle.std.specs.Fmt.{padded_integral, digits, char_count}
use Rattle.svg_map.specs.Maps.{window_span_text}
use Rattle.cli_map.specs.Texts.{row_text}
use Rattle.cli_map.proofs.examples.texts_with_a_table.Goals as goal

pub returns-clause-slot_0 : goal.returns-clause-slot_0
unfolding window_span_text padded_integral digits char_count row_text
returns-clause-slot_0 c = refl

pub returns-clause-slot_1 : goal.returns-clause-slot_1
unfolding window_span_text padded_integral digits char_count row_text
returns-clause-slot_1 c = refl

pub returns-clause-named : goal.returns-clause-named
unfolding window_span_text padded_integral digits char_count row_text
returns-clause-named c = refl

pub returns-clause-second : goal.returns-clause-second
unfolding window_span_text padded_integral digits char_count row_text
returns-clause-second c = refl

pub returns-clause-alone : goal.returns-clause-alone
unfolding window_span_text padded_integral digits char_count row_text
returns-clause-alone c = refl

pub returns-clause-free : goal.returns-clause-free
unfolding window_span_text padded_integral digits char_count row_text
returns-clause-free c = refl
