use Rattle.std.proofs.Common.{◌<◌, arith}
use Rattle.law_premises.proofs.examples.scripts.an_event_of_a_script.Goals as goal

pub returns-clause-no_byte : goal.returns-clause-no_byte
returns-clause-no_byte c = λ all. omega (arith, all 0)

pub returns-clause-not_of_bytes : goal.returns-clause-not_of_bytes
returns-clause-not_of_bytes c = λ all. let e : 256 < 256 = all 0 0 (omega arith) in absurd (omega (arith, e))
