use Rattle.std.proofs.Common.{refl}
use Rattle.std.specs.Fmt.{padded_integral, digits, char_count}
use Rattle.text_words.proofs.examples.hexadecimal_words.Goals as goal

pub returns-clause-zero : goal.returns-clause-zero
unfolding padded_integral digits char_count
returns-clause-zero c = refl

pub returns-clause-lower_case : goal.returns-clause-lower_case
unfolding padded_integral digits char_count
returns-clause-lower_case c = refl

pub returns-clause-most : goal.returns-clause-most
unfolding padded_integral digits char_count
returns-clause-most c = refl

pub returns-clause-byte : goal.returns-clause-byte
unfolding padded_integral digits char_count
returns-clause-byte c = refl

pub returns-clause-most_of_a_byte : goal.returns-clause-most_of_a_byte
unfolding padded_integral digits char_count
returns-clause-most_of_a_byte c = refl

pub returns-clause-short : goal.returns-clause-short
unfolding padded_integral digits char_count
returns-clause-short c = refl

pub returns-clause-row : goal.returns-clause-row
unfolding padded_integral digits char_count
returns-clause-row c = refl

pub returns-clause-long_row : goal.returns-clause-long_row
unfolding padded_integral digits char_count
returns-clause-long_row c = refl
