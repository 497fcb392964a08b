use Rattle.std.proofs.Common.{◌≡◌, true, false, arith}
use Rattle.picoboot_cmd.proofs.examples.commands_that_are_not_well_formed.Goals as goal

pub returns-clause-erase_before : goal.returns-clause-erase_before
returns-clause-erase_before c = λ is. let no : false ≡ true = is.allowed 0 (omega arith) in cc no

pub returns-clause-erase_behind : goal.returns-clause-erase_behind
returns-clause-erase_behind c = λ is. let no : false ≡ true = is.allowed 4096 (omega arith) in cc no

pub returns-clause-erase_past : goal.returns-clause-erase_past
returns-clause-erase_past c = λ is. absurd (omega (arith, is.inside))

pub returns-clause-write_before : goal.returns-clause-write_before
returns-clause-write_before c = λ is. let no : false ≡ true = is.allowed 0 (omega arith) in cc no

pub returns-clause-write_behind : goal.returns-clause-write_behind
returns-clause-write_behind c = λ is. let no : false ≡ true = is.allowed 256 (omega arith) in cc no

pub returns-clause-write_past : goal.returns-clause-write_past
returns-clause-write_past c = λ is. absurd (omega (arith, is.inside))
