-- By computing.
use Rattle.std.proofs.Common.{refl}
use Rattle.uf2_place.specs.Placement.{programs_in}
use Rattle.uf2_place.proofs.examples.the_first_sector_last.Goals as goal

pub returns-clause-none : goal.returns-clause-none
unfolding programs_in
returns-clause-none c = refl

pub returns-clause-held : goal.returns-clause-held
unfolding programs_in
returns-clause-held c = λ a. refl

pub returns-clause-elsewhere : goal.returns-clause-elsewhere
unfolding programs_in
returns-clause-elsewhere c = λ a. refl

pub returns-clause-two : goal.returns-clause-two
unfolding programs_in
returns-clause-two c = λ a b. refl

pub returns-clause-whole : goal.returns-clause-whole
unfolding programs_in
returns-clause-whole c = λ a b c. refl

pub returns-clause-replaced : goal.returns-clause-replaced
unfolding programs_in
returns-clause-replaced c = λ a b c. refl

pub returns-clause-no_page : goal.returns-clause-no_page
unfolding programs_in
returns-clause-no_page c = λ a b c. refl
