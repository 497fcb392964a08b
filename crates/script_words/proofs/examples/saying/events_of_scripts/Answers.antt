use Rattle.std.proofs.Common.{arith}
use Rattle.script_words.proofs.examples.saying.events_of_scripts.Goals as goal

pub returns-clause-command_byte : goal.returns-clause-command_byte
returns-clause-command_byte c = λ has. let few = has.0 0 in absurd (omega (arith, few))

pub returns-clause-payload_byte : goal.returns-clause-payload_byte
returns-clause-payload_byte c = λ has. let few = has.1 0 in absurd (omega (arith, few))

pub returns-clause-block_byte : goal.returns-clause-block_byte
returns-clause-block_byte c = λ has. let few = has 0 in absurd (omega (arith, few))

pub returns-clause-pattern_byte : goal.returns-clause-pattern_byte
returns-clause-pattern_byte c = λ has. let few = has 0 in absurd (omega (arith, few))

pub returns-clause-past_base : goal.returns-clause-past_base
returns-clause-past_base c = λ is. let few = is.well in absurd (omega (arith, few))

pub returns-clause-event_byte : goal.returns-clause-event_byte
returns-clause-event_byte c = λ is. let few = is.bytes 0 in absurd (omega (arith, few))
