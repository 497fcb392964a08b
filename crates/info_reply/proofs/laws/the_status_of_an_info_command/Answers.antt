use Rattle.std.proofs.Common.{◌%◌, ◌==◌, ◌&&◌, length}
use Rattle.picoboot_cmd.proofs.FirstFailingLemmas.{to-answer, from-answer}
use Rattle.info_reply.specs.declared.kinds.TheConstants.{INFO_SIZE}
use Rattle.info_reply.specs.Asks.{ask_in}
use Rattle.info_reply.specs.Statuses.{checks_of_reply, info_checks}
use Rattle.info_reply.proofs.AskingLemmas.{refused, asks}
use Rattle.info_reply.proofs.laws.the_status_of_an_info_command.Goals as goal

pub returns-clause-refused : goal.returns-clause-refused
returns-clause-refused c = λ device slot t target cmd payload status is.
    refused (cmd.arg_size == INFO_SIZE) (cmd.transfer % 4 == 0 && length payload == 0) (ask_in cmd)
    (λ o. checks_of_reply device slot t target o cmd) status is

pub returns-clause-asks : goal.returns-clause-asks
returns-clause-asks c = λ device slot t target cmd payload ask is.
    asks (cmd.arg_size == INFO_SIZE) (cmd.transfer % 4 == 0 && length payload == 0) (ask_in cmd)
    (λ o. checks_of_reply device slot t target o cmd) ask is

pub returns-clause-first : goal.returns-clause-first
returns-clause-first c = λ device slot t target cmd payload status. (
  to-answer (info_checks device slot t target cmd payload) status,
  from-answer (info_checks device slot t target cmd payload) status,
)
