-- By the first byte of the first page.
use Rattle.pico_board.proofs.SessionLemmas.{CutOf-half_done, Unfinished-half_done}
use Rattle.pico_board.proofs.examples.unfinished_contents.Goals as goal

pub returns-clause-cut : goal.returns-clause-cut
returns-clause-cut c = λ content page other is room. CutOf-half_done content page other room is

pub returns-clause-unfinished : goal.returns-clause-unfinished
returns-clause-unfinished c =
    λ content page other is room differs zero_byte. Unfinished-half_done content page other room zero_byte differs
