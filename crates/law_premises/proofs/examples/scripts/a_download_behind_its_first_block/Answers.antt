use Rattle.std.proofs.Common.{◌≡◌, true, false, refl, sym}
use Rattle.std.proofs.lemmas.Option.{none-some}
use Rattle.uf2_place.specs.Marks.{is_marked}
use Rattle.law_premises.specs.Examples.{current_of_two}
use Rattle.law_premises.proofs.DownloadLemmas.{stands}
use Rattle.law_premises.proofs.examples.scripts.a_download_behind_its_first_block.Goals as goal

pub returns-clause-stands : goal.returns-clause-stands
returns-clause-stands c = stands

pub returns-clause-carries : goal.returns-clause-carries
returns-clause-carries c = stands

pub returns-clause-carries_none : goal.returns-clause-carries_none
returns-clause-carries_none c = refl

pub returns-clause-loses_none : goal.returns-clause-loses_none
returns-clause-loses_none c = λ none. none-some current_of_two (sym none)

-- number 0 is marked, and the list has number 1 alone
pub returns-clause-other : goal.returns-clause-other
unfolding is_marked
returns-clause-other c = λ s. let e : true ≡ false = s.follows.numbers 0 in cc
