-- By computing.
use Rattle.std.proofs.Common.{refl}
use Rattle.std.specs.Fmt.{padded_integral, digits, char_count}
use Rattle.uf2_place.specs.Placement.{programs_in}
use Rattle.boot_machine.proofs.examples.download.what_a_block_leaves.Goals as goal

pub returns-clause-first : goal.returns-clause-first
unfolding padded_integral digits char_count
returns-clause-first c = refl

pub returns-clause-last : goal.returns-clause-last
unfolding padded_integral digits char_count programs_in
returns-clause-last c = refl

pub returns-clause-stays : goal.returns-clause-stays
unfolding padded_integral digits char_count programs_in
returns-clause-stays c = refl

pub returns-clause-again : goal.returns-clause-again
unfolding padded_integral digits char_count
returns-clause-again c = refl

pub returns-clause-anew : goal.returns-clause-anew
unfolding padded_integral digits char_count
returns-clause-anew c = refl
