-- By the first and the last page.
use Rattle.std.proofs.Common.{arith}
use Rattle.pico_board.proofs.PartLemmas.{IsPartial-pages, not_in_part}
use Rattle.pico_board.proofs.examples.sectors_that_are_finished_in_part.Goals as goal

pub returns-clause-pages : goal.returns-clause-pages
returns-clause-pages c = IsPartial-pages

pub returns-clause-first_page : goal.returns-clause-first_page
returns-clause-first_page c = λ z d. not_in_part z d 32 0 1 (omega arith) (omega arith) (omega arith) (omega arith)

pub returns-clause-last_page : goal.returns-clause-last_page
returns-clause-last_page c = λ z d. not_in_part z d 47 255 254 (omega arith) (omega arith) (omega arith) (omega arith)

pub returns-clause-below : goal.returns-clause-below
returns-clause-below c = λ z d differs part. differs (part.same.outside.below 8191 (omega arith))

pub returns-clause-above : goal.returns-clause-above
returns-clause-above c = λ z d differs part. differs (part.same.outside.above 12288 (omega arith))

pub returns-clause-rows : goal.returns-clause-rows
returns-clause-rows c = λ z d differs part. differs part.same.rows
