-- By cases on where the list is parted.
use Rattle.std.proofs.Common.{refl, inl}
use Rattle.pico_board.proofs.SessionLemmas.{IsGated-two_pages, other_first, too_early, twice}
use Rattle.pico_board.proofs.examples.gated_lists.Goals as goal

pub returns-clause-two_pages : goal.returns-clause-two_pages
returns-clause-two_pages c = IsGated-two_pages

pub returns-clause-empty : goal.returns-clause-empty
returns-clause-empty c = λ w. inl refl

pub returns-clause-other_first : goal.returns-clause-other_first
returns-clause-other_first c = other_first

pub returns-clause-too_early : goal.returns-clause-too_early
returns-clause-too_early c = too_early

pub returns-clause-twice : goal.returns-clause-twice
returns-clause-twice c = twice
