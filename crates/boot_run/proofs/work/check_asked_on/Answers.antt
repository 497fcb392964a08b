use Rattle.cli_words.specs.Values.{values_from}
use Rattle.boot_run.proofs.AskedLemmas.{asked-told}
use Rattle.boot_run.proofs.work.check_asked_on.Goals as goal

pub returns : goal.returns
returns c =
    asked-told (values_from c.args.values.now) _ _ _ _ _ _ _ _ _ _ _ _ _ _ _ c.five-flash.ensures c.deref.ensures.value
    c.deref-2.ensures.value c.deref-3.ensures.value c.deref-4.ensures.value c.in_ok-board.ensures.board
    c.in_ok-board.ensures.flash c.in_ok-board.ensures.otp c.in_ok-events.ensures.judged c.in_ok-bytes.ensures.judged
    c.in_ok-ask.ensures.judged c.in_ok-events.ensures.value c.in_ok-bytes.ensures.value c.in_ok-ask.ensures.value
    c.in_ok-check_asked.ensures
