use Rattle.std.proofs.Common.{arith, refl, replicate}
use Rattle.script_text.proofs.LimitLemmas.{command-past, command-within, powers-past, powers-within}
use Rattle.script_text.proofs.examples.limits_of_scripts.Goals as goal

pub returns-clause-most_records : goal.returns-clause-most_records
returns-clause-most_records c = powers-within 524287 (omega arith)

pub returns-clause-one_record_more : goal.returns-clause-one_record_more
returns-clause-one_record_more c = powers-past 524288 (omega arith)

pub returns-clause-most_bytes : goal.returns-clause-most_bytes
returns-clause-most_bytes c = command-within (replicate 32 0) 67108826 refl (omega arith)

pub returns-clause-one_byte_more : goal.returns-clause-one_byte_more
returns-clause-one_byte_more c = command-past (replicate 32 0) 67108827 refl (omega arith)
