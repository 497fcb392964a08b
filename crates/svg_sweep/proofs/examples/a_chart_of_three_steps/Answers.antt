use Rattle.std.proofs.Common.{refl}
use Rattle.std.specs.Fmt.{char_count, digits, padded_integral}
use Rattle.svg_sweep.specs.Charts.{chart_words, kind_title, legend_text, run_title, run_span_text}
use Rattle.svg_sweep.specs.Runs.{runs}
use Rattle.svg_sweep.proofs.examples.a_chart_of_three_steps.Goals as goal

pub returns-clause-words : goal.returns-clause-words
unfolding runs chart_words kind_title legend_text run_title run_span_text digits padded_integral char_count
returns-clause-words c = refl

pub returns-clause-former : goal.returns-clause-former
unfolding runs chart_words kind_title legend_text run_title run_span_text digits padded_integral char_count
returns-clause-former c = refl

pub returns-clause-finished : goal.returns-clause-finished
unfolding runs chart_words kind_title legend_text run_title run_span_text digits padded_integral char_count
returns-clause-finished c = refl

pub returns-clause-chance : goal.returns-clause-chance
unfolding runs chart_words kind_title legend_text run_title run_span_text digits padded_integral char_count
returns-clause-chance c = refl

pub returns-clause-span : goal.returns-clause-span
unfolding runs chart_words kind_title legend_text run_title run_span_text digits padded_integral char_count
returns-clause-span c = refl

pub returns-clause-erase : goal.returns-clause-erase
unfolding runs chart_words kind_title legend_text run_title run_span_text digits padded_integral char_count
returns-clause-erase c = refl

pub returns-clause-program : goal.returns-clause-program
unfolding runs chart_words kind_title legend_text run_title run_span_text digits padded_integral char_count
returns-clause-program c = refl

pub returns-clause-legend : goal.returns-clause-legend
unfolding runs chart_words kind_title legend_text run_title run_span_text digits padded_integral char_count
returns-clause-legend c = refl
