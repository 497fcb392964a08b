use Rattle.std.proofs.Common.{sym, ◌∙◌}
use Rattle.boot_machine.proofs.InfoLemmas.{few-asked, few-refused, reply-asked, reply-refused, status-asked, status-refused}
use Rattle.boot_machine.proofs.infos.info_reply.Goals as goal

pub returns-in-Ok-clause-status : goal.returns-in-Ok-clause-status
returns-in-Ok-clause-status g c =
    status-asked _ c.args.cpu c.args.found.now c.args.cmd.now c.args.payload.now c.in-Ok.ask c.put_info.result
    (sym c.info_ask.ensures ∙ c.in-Ok.is) c.put_info.ensures.status

pub returns-in-Ok-clause-reply : goal.returns-in-Ok-clause-reply
returns-in-Ok-clause-reply g c = λ none.
    reply-asked _ c.args.cpu c.args.found.now c.args.cmd.now c.args.payload.now c.in-Ok.ask c.put_info.result _
    (sym c.info_ask.ensures ∙ c.in-Ok.is) (c.put_info.ensures.reply none)

pub returns-in-Ok-clause-few : goal.returns-in-Ok-clause-few
returns-in-Ok-clause-few g c =
    few-asked _ c.args.cpu c.args.found.now c.args.cmd.now c.args.payload.now c.in-Ok.ask c.put_info.result
    (sym c.info_ask.ensures ∙ c.in-Ok.is) c.put_info.ensures.few

pub returns-in-Err-clause-status : goal.returns-in-Err-clause-status
returns-in-Err-clause-status g c =
    status-refused _ c.args.cpu c.args.found.now c.args.cmd.now c.args.payload.now c.in-Err.status
    (sym c.info_ask.ensures ∙ c.in-Err.is)

pub returns-in-Err-clause-reply : goal.returns-in-Err-clause-reply
returns-in-Err-clause-reply g c = λ none.
    reply-refused _ c.args.cpu c.args.found.now c.args.cmd.now c.args.payload.now c.in-Err.status _
    (sym c.info_ask.ensures ∙ c.in-Err.is) none

pub returns-in-Err-clause-few : goal.returns-in-Err-clause-few
returns-in-Err-clause-few g c =
    few-refused _ c.args.cpu c.args.found.now c.args.cmd.now c.args.payload.now c.in-Err.status
    (sym c.info_ask.ensures ∙ c.in-Err.is)
