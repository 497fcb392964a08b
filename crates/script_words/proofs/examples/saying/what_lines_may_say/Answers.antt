use Rattle.std.proofs.Common.{arith, refl}
use Rattle.script_words.proofs.examples.saying.what_lines_may_say.Goals as goal

pub returns-clause-values : goal.returns-clause-values
returns-clause-values c = (omega arith, ((omega arith, omega arith), tt))

pub returns-clause-first_value : goal.returns-clause-first_value
returns-clause-first_value c = λ may. let few = may.0 in absurd (omega (arith, few))

pub returns-clause-second_value : goal.returns-clause-second_value
returns-clause-second_value c = λ may. let few = may.1.0.0 in absurd (omega (arith, few))

pub returns-clause-from_second : goal.returns-clause-from_second
returns-clause-from_second c = ((omega arith, omega arith), tt)

pub returns-clause-token : goal.returns-clause-token
returns-clause-token c = (refl, omega arith)

pub returns-clause-past_token : goal.returns-clause-past_token
returns-clause-past_token c = λ has. let few = has.1 in absurd (omega (arith, few))

pub returns-clause-no_command : goal.returns-clause-no_command
returns-clause-no_command c = λ has. absurd (cc has.0)

pub returns-clause-no_token : goal.returns-clause-no_token
returns-clause-no_token c = tt

pub returns-clause-line : goal.returns-clause-line
returns-clause-line c = record { count = refl; values = (omega arith, ((omega arith, omega arith), tt)); token = (refl, omega arith) }

pub returns-clause-line_of_one_value : goal.returns-clause-line_of_one_value
returns-clause-line_of_one_value c = λ is. absurd (cc is.count)

pub returns-clause-line_of_great_value : goal.returns-clause-line_of_great_value
returns-clause-line_of_great_value c = λ is. let few = is.values.0 in absurd (omega (arith, few))

pub returns-clause-line_with_token : goal.returns-clause-line_with_token
returns-clause-line_with_token c = λ is. absurd (cc is.token.0)
