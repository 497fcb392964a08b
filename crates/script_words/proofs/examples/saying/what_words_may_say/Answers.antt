use Rattle.std.proofs.Common.{arith}
use Rattle.script_words.proofs.examples.saying.what_words_may_say.Goals as goal

pub returns-clause-number : goal.returns-clause-number
returns-clause-number c = (omega arith, omega arith)

pub returns-clause-past_number : goal.returns-clause-past_number
returns-clause-past_number c = λ may. let few = may.0 in absurd (omega (arith, few))

pub returns-clause-great_number : goal.returns-clause-great_number
returns-clause-great_number c = λ may. let few = may.1 in absurd (omega (arith, few))

pub returns-clause-behind : goal.returns-clause-behind
returns-clause-behind c = omega arith

pub returns-clause-past_behind : goal.returns-clause-past_behind
returns-clause-past_behind c = λ few. absurd (omega (arith, few))

pub returns-clause-hex : goal.returns-clause-hex
returns-clause-hex c = omega arith

pub returns-clause-past_hex : goal.returns-clause-past_hex
returns-clause-past_hex c = λ few. absurd (omega (arith, few))

pub returns-clause-hex_behind : goal.returns-clause-hex_behind
returns-clause-hex_behind c = omega arith

pub returns-clause-past_hex_behind : goal.returns-clause-past_hex_behind
returns-clause-past_hex_behind c = λ few. absurd (omega (arith, few))

pub returns-clause-row : goal.returns-clause-row
returns-clause-row c = omega arith

pub returns-clause-past_row : goal.returns-clause-past_row
returns-clause-past_row c = λ few. absurd (omega (arith, few))

pub returns-clause-family : goal.returns-clause-family
returns-clause-family c = omega arith

pub returns-clause-past_family : goal.returns-clause-past_family
returns-clause-past_family c = λ few. absurd (omega (arith, few))

pub returns-clause-keyword : goal.returns-clause-keyword
returns-clause-keyword c = tt

pub returns-clause-no_keyword : goal.returns-clause-no_keyword
returns-clause-no_keyword c = λ may. absurd may
