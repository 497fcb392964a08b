use Rattle.pico_board.specs.Steps.{after_all}
use Rattle.boot_sweep.specs.Comparing.{result_of}
use Rattle.boot_sweep.specs.Sweeps.{content_at_line}
use Rattle.boot_sweep.proofs.LineLemmas.{line-of-sweep, two-each}
use Rattle.boot_sweep.proofs.ResultLemmas.{judged-exactly}
use Rattle.boot_sweep.proofs.laws.sweep.lines_have_their_results.Goals as goal

pub returns-clause-result : goal.returns-clause-result
returns-clause-result c = λ content cpu pattern steps line has.
    let is = line-of-sweep content cpu pattern steps line has in (
      is.0,
      (judged-exactly content (after_all content steps)
          (content_at_line content pattern steps line) cpu line.result).1 is.1,
    )

pub returns-clause-count : goal.returns-clause-count
returns-clause-count c = λ content cpu pattern steps.
    two-each (λ d. result_of content (after_all content steps) d cpu) pattern content 0 steps
