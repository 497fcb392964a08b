use Rattle.std.proofs.Common.{refl}
use Rattle.pico_board.proofs.SettledCutLemmas.{cut_elsewhere, cut_before_final}
use Rattle.pico_board.proofs.laws.cuts_that_leave_nothing_unfinished.Goals as goal

pub returns-clause-elsewhere : goal.returns-clause-elsewhere
returns-clause-elsewhere c = cut_elsewhere

pub returns-clause-before_all : goal.returns-clause-before_all
returns-clause-before_all c = λ before steps w unfinished. unfinished.moved refl

pub returns-clause-before_final : goal.returns-clause-before_final
returns-clause-before_final c = cut_before_final
