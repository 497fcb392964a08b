use Rattle.pico_board.specs.Steps.{after_all}
use Rattle.boot_sweep.specs.Comparing.{result_of}
use Rattle.boot_sweep.proofs.ToldLemmas.{cut-results, results-length, told-are-lines}
use Rattle.boot_sweep.proofs.laws.sweep.results_are_those_of_the_cuts.Goals as goal

pub returns-clause-told : goal.returns-clause-told
returns-clause-told c = λ content cpu pattern steps.
    told-are-lines (λ d. result_of content (after_all content steps) d cpu) pattern 0 content steps

pub returns-clause-count : goal.returns-clause-count
returns-clause-count c = λ content cpu pattern steps.
    results-length (λ d. result_of content (after_all content steps) d cpu) pattern content steps

pub returns-clause-each : goal.returns-clause-each
returns-clause-each c = cut-results
