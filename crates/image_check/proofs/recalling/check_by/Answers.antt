use Rattle.std.proofs.Common.{refl, sym, ◌∙◌}
use Rattle.pico_board.specs.Content.{window_bytes}
use Rattle.image_check.specs.Addressing.{in_flash}
use Rattle.image_check.specs.Examined.{confirmed_in, examined_in}
use Rattle.image_check.proofs.AnswerLemmas.{err-and_then, ok-and_then}
use Rattle.image_check.proofs.DigestLemmas.{asked-again, examined-candidate}
use Rattle.image_check.proofs.ExaminedLemmas.{examined-image}
use Rattle.image_check.proofs.recalling.check_by.Goals as goal

pub confirm_by-requires-clause-stands : goal.confirm_by-requires-clause-stands
confirm_by-requires-clause-stands g c =
    let content = (g.B.Board.state c.args.board.now).content in
    examined-candidate c.args.cpu c.args.trial_ok content.otp (window_bytes content c.args.window) c.in-Ok.candidate
    (sym c.examine.ensures.exact ∙ c.in-Ok.is)

pub returns-in-Ok-clause-exact : goal.returns-in-Ok-clause-exact
returns-in-Ok-clause-exact g c =
    let content = (g.B.Board.state c.args.board.now).content in
    let bytes = window_bytes content c.args.window in
    c.confirm_by.ensures.exact
    ∙ sym (ok-and_then (examined_in in_flash c.args.cpu c.args.trial_ok content.otp bytes)
    (confirmed_in c.args.window bytes) c.in-Ok.candidate _
    (sym c.examine.ensures.exact ∙ c.in-Ok.is) refl)
    ∙ examined-image in_flash c.args.window c.args.cpu c.args.trial_ok content.otp bytes

pub returns-in-Ok-clause-again : goal.returns-in-Ok-clause-again
returns-in-Ok-clause-again g c = λ right is. c.confirm_by.ensures.asked ∙ asked-again _ _ _ _ _ right is

pub returns-in-Err-clause-exact : goal.returns-in-Err-clause-exact
returns-in-Err-clause-exact g c =
    let content = (g.B.Board.state c.args.board.now).content in
    let bytes = window_bytes content c.args.window in
    sym (err-and_then (examined_in in_flash c.args.cpu c.args.trial_ok content.otp bytes)
    (confirmed_in c.args.window bytes) c.in-Err.why
    (sym c.examine.ensures.exact ∙ c.in-Err.is))
    ∙ examined-image in_flash c.args.window c.args.cpu c.args.trial_ok content.otp bytes
