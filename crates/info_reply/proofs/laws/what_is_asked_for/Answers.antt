use Rattle.std.proofs.Common.{◌%◌, ◌==◌, ◌&&◌, length}
use Rattle.picoboot_cmd.proofs.FirstFailingLemmas.{to-answer, from-answer}
use Rattle.info_reply.specs.declared.kinds.TheConstants.{INFO_SIZE}
use Rattle.info_reply.specs.Asks.{ask_checks, ask_in}
use Rattle.info_reply.proofs.AskingLemmas.{ok-parts, ok-from, err-parts, err-from}
use Rattle.info_reply.proofs.laws.what_is_asked_for.Goals as goal

pub returns-clause-ok : goal.returns-clause-ok
returns-clause-ok c = λ cmd payload ask. (
  ok-parts (cmd.arg_size == INFO_SIZE) (cmd.transfer % 4 == 0 && length payload == 0) (ask_in cmd) ask,
  ok-from (cmd.arg_size == INFO_SIZE) (cmd.transfer % 4 == 0 && length payload == 0) (ask_in cmd) ask,
)

pub returns-clause-err : goal.returns-clause-err
returns-clause-err c = λ cmd payload status. (
  λ is.
      let parts = err-parts (cmd.arg_size == INFO_SIZE) (cmd.transfer % 4 == 0 && length payload == 0) (ask_in cmd)
      status is in
      (parts.0, to-answer (ask_checks cmd payload) status (parts.1)),
  λ parts.
      err-from (cmd.arg_size == INFO_SIZE) (cmd.transfer % 4 == 0 && length payload == 0) (ask_in cmd) status (parts.0)
      (from-answer (ask_checks cmd payload) status (parts.1)),
)
