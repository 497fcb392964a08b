use Rattle.std.proofs.Common.{refl, sym, ◌∙◌}
use Rattle.image_check.specs.Examined.{confirmed_in, examined_in}
use Rattle.image_check.proofs.AnswerLemmas.{err-and_then, ok-and_then}
use Rattle.image_check.proofs.ExaminedLemmas.{examined-image}
use Rattle.image_check.proofs.checking.check_view.Goals as goal

pub returns-in-Ok-clause-exact : goal.returns-in-Ok-clause-exact
returns-in-Ok-clause-exact g c =
    let otp = (g.B.Board.state c.args.board.now).content.otp in
    let bytes = g.V.View.bytes c.args.view.now in
    c.confirm.ensures.exact
    ∙ sym (ok-and_then (examined_in c.args.addressing c.args.cpu c.args.trial_ok otp bytes)
    (confirmed_in c.args.window bytes) c.in-Ok.candidate _
    (sym c.examine.ensures.exact ∙ c.in-Ok.is) refl)
    ∙ examined-image c.args.addressing c.args.window c.args.cpu c.args.trial_ok otp bytes

pub returns-in-Err-clause-exact : goal.returns-in-Err-clause-exact
returns-in-Err-clause-exact g c =
    let otp = (g.B.Board.state c.args.board.now).content.otp in
    let bytes = g.V.View.bytes c.args.view.now in
    sym (err-and_then (examined_in c.args.addressing c.args.cpu c.args.trial_ok otp bytes)
    (confirmed_in c.args.window bytes) c.in-Err.why
    (sym c.examine.ensures.exact ∙ c.in-Err.is))
    ∙ examined-image c.args.addressing c.args.window c.args.cpu c.args.trial_ok otp bytes
