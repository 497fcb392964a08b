use Rattle.std.proofs.Common.{refl}
use Rattle.std.specs.Fmt.{padded_integral, digits, char_count}
use Rattle.text_lines.proofs.examples.a_longest_text.Goals as goal

pub returns-clause-text : goal.returns-clause-text
unfolding padded_integral digits char_count
returns-clause-text c = refl

pub returns-clause-len : goal.returns-clause-len
unfolding padded_integral digits char_count
returns-clause-len c = refl
