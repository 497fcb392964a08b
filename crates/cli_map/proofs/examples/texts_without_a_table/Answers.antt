use Rattle.std.proofs.Common.{refl}
use Rattle.std.specs.Fmt.{padded_integral, digits, char_count}
use Rattle.svg_map.specs.Maps.{window_span_text}
use Rattle.cli_map.specs.Texts.{row_text}
use Rattle.cli_map.proofs.examples.texts_without_a_table.Goals as goal

pub returns-clause-slot_0 : goal.returns-clause-slot_0
unfolding window_span_text padded_integral digits char_count row_text
returns-clause-slot_0 c = refl

pub returns-clause-slot_1 : goal.returns-clause-slot_1
unfolding window_span_text padded_integral digits char_count row_text
returns-clause-slot_1 c = refl

pub returns-clause-free : goal.returns-clause-free
unfolding window_span_text padded_integral digits char_count row_text
returns-clause-free c = refl

pub returns-clause-whole : goal.returns-clause-whole
unfolding window_span_text padded_integral digits char_count row_text
returns-clause-whole c = refl

pub returns-clause-no_image : goal.returns-clause-no_image
unfolding window_span_text padded_integral digits char_count row_text
returns-clause-no_image c = refl
