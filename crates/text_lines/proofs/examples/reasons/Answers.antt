use Rattle.std.proofs.Common.{refl}
use Rattle.std.specs.Fmt.{padded_integral, digits, char_count}
use Rattle.text_lines.proofs.examples.reasons.Goals as goal

pub returns-clause-broken : goal.returns-clause-broken
unfolding padded_integral digits char_count
returns-clause-broken c = refl

pub returns-clause-overlap : goal.returns-clause-overlap
unfolding padded_integral digits char_count
returns-clause-overlap c = refl

pub returns-clause-repeated : goal.returns-clause-repeated
unfolding padded_integral digits char_count
returns-clause-repeated c = refl

pub returns-clause-bad_item : goal.returns-clause-bad_item
unfolding padded_integral digits char_count
returns-clause-bad_item c = refl

pub returns-clause-bad_row : goal.returns-clause-bad_row
unfolding padded_integral digits char_count
returns-clause-bad_row c = refl

pub returns-clause-repeated_row : goal.returns-clause-repeated_row
unfolding padded_integral digits char_count
returns-clause-repeated_row c = refl

pub returns-clause-below : goal.returns-clause-below
unfolding padded_integral digits char_count
returns-clause-below c = refl

pub returns-clause-storage : goal.returns-clause-storage
unfolding padded_integral digits char_count
returns-clause-storage c = refl

pub returns-clause-runtime : goal.returns-clause-runtime
unfolding padded_integral digits char_count
returns-clause-runtime c = refl

pub returns-clause-covers_block : goal.returns-clause-covers_block
unfolding padded_integral digits char_count
returns-clause-covers_block c = refl
