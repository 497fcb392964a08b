-- A byte of a sector stands in one of its pages.
use Rattle.pico_board.proofs.SectorLemmas.{IsBlank-from, IsBlank-pages, IsClosing-between, SameButSector-same}
use Rattle.pico_board.proofs.laws.pages_make_a_sector.Goals as goal

pub returns-clause-blank : goal.returns-clause-blank
returns-clause-blank c s d = (IsBlank-pages s d, IsBlank-from s d)

pub returns-clause-same : goal.returns-clause-same
returns-clause-same c = SameButSector-same

pub returns-clause-closing : goal.returns-clause-closing
returns-clause-closing c = IsClosing-between
