use Rattle.std.proofs.Common.{arith}
use Rattle.script_words.proofs.examples.saying.what_ranges_and_bytes_may_say.Goals as goal

pub returns-clause-range : goal.returns-clause-range
returns-clause-range c = (omega arith, omega arith)

pub returns-clause-past_start : goal.returns-clause-past_start
returns-clause-past_start c = λ may. let few = may.0 in absurd (omega (arith, few))

pub returns-clause-past_size : goal.returns-clause-past_size
returns-clause-past_size c = λ may. let few = may.1 in absurd (omega (arith, few))

pub returns-clause-behind : goal.returns-clause-behind
returns-clause-behind c = (omega arith, omega arith)

pub returns-clause-past_start_behind : goal.returns-clause-past_start_behind
returns-clause-past_start_behind c = λ may. let few = may.0 in absurd (omega (arith, few))

pub returns-clause-past_size_behind : goal.returns-clause-past_size_behind
returns-clause-past_size_behind c = λ may. let few = may.1 in absurd (omega (arith, few))

pub returns-clause-of_image : goal.returns-clause-of_image
returns-clause-of_image c = λ may. absurd may

pub returns-clause-rest_of_image : goal.returns-clause-rest_of_image
returns-clause-rest_of_image c = λ may. absurd may

pub returns-clause-no_byte : goal.returns-clause-no_byte
returns-clause-no_byte c = λ may. let some = may.1 in absurd (omega (arith, some))

pub returns-clause-three_bytes : goal.returns-clause-three_bytes
returns-clause-three_bytes c = λ may. let few = may.2 in absurd (omega (arith, few))

pub returns-clause-past_byte : goal.returns-clause-past_byte
returns-clause-past_byte c = λ may. let few = may.0 0 in absurd (omega (arith, few))
