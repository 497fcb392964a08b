use Rattle.std.proofs.Common.{refl}
use Rattle.std.specs.Fmt.{padded_integral, digits, char_count}
use Rattle.svg_map.specs.Maps.{window_span_text}
use Rattle.cli_map.proofs.examples.texts_of_spans.Goals as goal

pub returns-clause-sector : goal.returns-clause-sector
unfolding window_span_text padded_integral digits char_count
returns-clause-sector c = refl

pub returns-clause-whole : goal.returns-clause-whole
unfolding window_span_text padded_integral digits char_count
returns-clause-whole c = refl
