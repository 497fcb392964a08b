use Rattle.picoboot_cmd.proofs.CommandByteLemmas.{read-back, written-long, written-bytes, read-is}
use Rattle.picoboot_cmd.proofs.laws.commands_are_read_back.Goals as goal

pub returns-clause-written : goal.returns-clause-written
returns-clause-written c = λ cmd is. read-back cmd is.token is.transfer

pub returns-clause-long : goal.returns-clause-long
returns-clause-long c = λ cmd is. written-long cmd is.args

pub returns-clause-bytes : goal.returns-clause-bytes
returns-clause-bytes c = λ cmd is. written-bytes cmd is.id is.arg_size is.bytes

pub returns-clause-read : goal.returns-clause-read
returns-clause-read c = read-is
