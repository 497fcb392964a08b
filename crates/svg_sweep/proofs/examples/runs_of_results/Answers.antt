use Rattle.std.proofs.Common.{refl}
use Rattle.std.specs.Fmt.{char_count, digits, padded_integral}
use Rattle.svg_sweep.specs.Charts.{chart_words, kind_title, legend_text, run_title, run_span_text}
use Rattle.svg_sweep.specs.Runs.{runs}
use Rattle.svg_sweep.proofs.examples.runs_of_results.Goals as goal

pub returns-clause-none : goal.returns-clause-none
unfolding runs chart_words kind_title legend_text run_title run_span_text digits padded_integral char_count
returns-clause-none c = refl

pub returns-clause-one : goal.returns-clause-one
unfolding runs chart_words kind_title legend_text run_title run_span_text digits padded_integral char_count
returns-clause-one c = refl

pub returns-clause-whole : goal.returns-clause-whole
unfolding runs chart_words kind_title legend_text run_title run_span_text digits padded_integral char_count
returns-clause-whole c = refl

pub returns-clause-changes : goal.returns-clause-changes
unfolding runs chart_words kind_title legend_text run_title run_span_text digits padded_integral char_count
returns-clause-changes c = refl
