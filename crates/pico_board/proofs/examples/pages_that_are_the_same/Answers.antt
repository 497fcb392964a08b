-- By the place of the byte in the page.
use Rattle.std.proofs.Common.{arith}
use Rattle.pico_board.proofs.PartLemmas.{IsSamePage-one}
use Rattle.pico_board.proofs.examples.pages_that_are_the_same.Goals as goal

pub returns-clause-same : goal.returns-clause-same
returns-clause-same c = IsSamePage-one

pub returns-clause-first : goal.returns-clause-first
returns-clause-first c = λ z d differs same. differs (same 0 (omega arith))

pub returns-clause-last : goal.returns-clause-last
returns-clause-last c = λ z d differs same. differs (same 255 (omega arith))
