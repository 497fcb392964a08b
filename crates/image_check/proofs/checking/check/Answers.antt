use Rattle.pico_board.specs.declared.window.Window.{Window}
use Rattle.std.proofs.Common.{◌≡◌, Bool, Result, Ok, Err, sym, ◌∙◌}
use Rattle.std.specs.Prelude.{IfOk}
use Rattle.pico_board.specs.declared.boot.Cpu.{Cpu}
use Rattle.image_def.specs.declared.started.Started.{Started}
use Rattle.image_check.specs.declared.why.Why.{Why}
use Rattle.image_check.specs.Image.{image_at}
use Rattle.image_check.specs.SameImage.{HoldsImage}
use Rattle.pico_board.specs.Content.{Content, window_bytes}
use Rattle.image_check.specs.Addressing.{in_flash}
use Rattle.image_check.proofs.LawLemmas.{valid-at, valid-exactly, valid-holds, valid-window, why-exactly}
use Rattle.image_check.proofs.checking.check.Goals as goal

pub returns-clause-valid : goal.returns-clause-valid
returns-clause-valid g c = λ s.
    let content = (g.B.Board.state c.args.board.now).content in
    let valid = valid-exactly in_flash c.args.window c.args.cpu c.args.trial_ok content.otp
    (window_bytes content c.args.window) s in
    (λ is. valid.1 (sym c.check_view.ensures.exact ∙ is), λ v. c.check_view.ensures.exact ∙ valid.0 v)

pub returns-clause-why_not : goal.returns-clause-why_not
returns-clause-why_not g c = λ y.
    let content = (g.B.Board.state c.args.board.now).content in
    let why = why-exactly in_flash c.args.window c.args.cpu c.args.trial_ok content.otp
    (window_bytes content c.args.window) y in
    (λ is. why.1 (sym c.check_view.ensures.exact ∙ is), λ w. c.check_view.ensures.exact ∙ why.0 w)

held-if : (content : Content) (window : Window) (cpu : Cpu) (trial : Bool) (r : Result Started Why)
    → r ≡ image_at content window cpu trial
    → IfOk r (λ s. HoldsImage cpu (window_bytes content window) s)
held-if content window cpu trial (Ok s) is =
    valid-holds content window cpu trial s (valid-at content window cpu trial s (sym is))
held-if content window cpu trial (Err y) is = tt

window-if : (content : Content) (window : Window) (cpu : Cpu) (trial : Bool) (r : Result Started Why)
    → r ≡ image_at content window cpu trial
    → IfOk r (λ s. s.window ≡ window)
window-if content window cpu trial (Ok s) is =
    valid-window content window cpu trial s (valid-at content window cpu trial s (sym is))
window-if content window cpu trial (Err y) is = tt

pub returns-clause-held : goal.returns-clause-held
returns-clause-held g c =
    held-if (g.B.Board.state c.args.board.now).content c.args.window c.args.cpu c.args.trial_ok c.check_view.result
    c.check_view.ensures.exact

pub returns-clause-window : goal.returns-clause-window
returns-clause-window g c =
    window-if (g.B.Board.state c.args.board.now).content c.args.window c.args.cpu c.args.trial_ok c.check_view.result
    c.check_view.ensures.exact
