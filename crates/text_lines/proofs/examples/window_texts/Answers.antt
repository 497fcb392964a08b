use Rattle.std.proofs.Common.{refl}
use Rattle.std.specs.Fmt.{padded_integral, digits, char_count}
use Rattle.text_lines.proofs.examples.window_texts.Goals as goal

pub returns-clause-found : goal.returns-clause-found
unfolding padded_integral digits char_count
returns-clause-found c = refl

pub returns-clause-valid : goal.returns-clause-valid
unfolding padded_integral digits char_count
returns-clause-valid c = refl

pub returns-clause-invalid : goal.returns-clause-invalid
unfolding padded_integral digits char_count
returns-clause-invalid c = refl

pub returns-clause-data : goal.returns-clause-data
unfolding padded_integral digits char_count
returns-clause-data c = refl
