use Rattle.std.proofs.Common.{refl}
use Rattle.std.specs.Fmt.{padded_integral, digits, char_count}
use Rattle.cli_explain.proofs.examples.texts_of_slots.Goals as goal

pub returns-clause-no_block : goal.returns-clause-no_block
unfolding padded_integral digits char_count
returns-clause-no_block c = refl

pub returns-clause-broken : goal.returns-clause-broken
unfolding padded_integral digits char_count
returns-clause-broken c = refl

pub returns-clause-too_many : goal.returns-clause-too_many
unfolding padded_integral digits char_count
returns-clause-too_many c = refl

pub returns-clause-overlap : goal.returns-clause-overlap
unfolding padded_integral digits char_count
returns-clause-overlap c = refl

pub returns-clause-no_table : goal.returns-clause-no_table
unfolding padded_integral digits char_count
returns-clause-no_table c = refl

pub returns-clause-bad_item : goal.returns-clause-bad_item
unfolding padded_integral digits char_count
returns-clause-bad_item c = refl

pub returns-clause-permissions : goal.returns-clause-permissions
unfolding padded_integral digits char_count
returns-clause-permissions c = refl

pub returns-clause-range : goal.returns-clause-range
unfolding padded_integral digits char_count
returns-clause-range c = refl

pub returns-clause-shared : goal.returns-clause-shared
unfolding padded_integral digits char_count
returns-clause-shared c = refl

pub returns-clause-link : goal.returns-clause-link
unfolding padded_integral digits char_count
returns-clause-link c = refl

pub returns-clause-hash : goal.returns-clause-hash
unfolding padded_integral digits char_count
returns-clause-hash c = refl

pub returns-clause-none : goal.returns-clause-none
unfolding padded_integral digits char_count
returns-clause-none c = refl

pub returns-clause-singleton : goal.returns-clause-singleton
unfolding padded_integral digits char_count
returns-clause-singleton c = refl

pub returns-clause-version : goal.returns-clause-version
unfolding padded_integral digits char_count
returns-clause-version c = refl

pub returns-clause-otp : goal.returns-clause-otp
unfolding padded_integral digits char_count
returns-clause-otp c = refl

pub returns-clause-unreached : goal.returns-clause-unreached
unfolding padded_integral digits char_count
returns-clause-unreached c = refl
