use Rattle.std.proofs.Common.{◌≡◌, None, Some, ◌⊎◌, refl, subst}
use Rattle.pico_board.specs.Board.{State}
use Rattle.boot_sweep.specs.declared.error.SweepError.TheVariants.{Memory}
use Rattle.boot_session.specs.Recordings.{IsRecorderOf}
use Rattle.boot_sweep.specs.Refusals.{sweep_refusal}
use Rattle.boot_session.specs.Scripts.{content_of, script_session}
use Rattle.boot_sweep.specs.StepResults.{HasResults}
use Rattle.boot_sweep.proofs.TextLemmas.{is-found, recorder-of}
use Rattle.boot_sweep.proofs.script.swept.Goals as goal

pub returns-in-Ok-judged-clause-swept : goal.returns-in-Ok-judged-clause-swept
returns-in-Ok-judged-clause-swept c =
    let steps = script_session (content_of c.args.flash.now.items c.args.otp.now.items) c.args.cpu c.args.script.now in
    subst (λ (s : State). sweep_refusal s.content c.args.cpu steps ≡ None) c.in_ok-board.ensures.made
    (c.in-Ok-judged.ensures.judged steps (recorder-of c.in-Ok.recorder c.in_ok-board_of.field-0 c.in_ok-board.board
    c.args.flash.now.items c.args.otp.now.items c.args.cpu c.args.script.now c.in_ok-board_of.ensures.made
    c.in_ok-board.ensures.made c.in-Ok.ensures)).0

pub returns-in-Ok-judged-clause-found : goal.returns-in-Ok-judged-clause-found
returns-in-Ok-judged-clause-found c =
    let start = content_of c.args.flash.now.items c.args.otp.now.items in
    let steps = script_session start c.args.cpu c.args.script.now in
    let is = recorder-of c.in-Ok.recorder c.in_ok-board_of.field-0 c.in_ok-board.board
    c.args.flash.now.items c.args.otp.now.items c.args.cpu c.args.script.now c.in_ok-board_of.ensures.made
    c.in_ok-board.ensures.made c.in-Ok.ensures in
    let found = c.in-Ok-judged.ensures.judged steps is in
    is-found c.in-Ok.recorder start c.args.cpu c.args.pattern.now steps _ c.requires.content
    (subst (λ (s : State). IsRecorderOf c.in-Ok.recorder s.content c.args.cpu steps) c.in_ok-board.ensures.made is)
    (subst (λ (s : State). sweep_refusal s.content c.args.cpu steps ≡ None) c.in_ok-board.ensures.made found.0)
    refl
    (subst (λ (s : State). HasResults s.content c.args.cpu c.args.pattern.now steps
    c.in-Ok-judged.cuts.items c.in-Ok-judged.end)
    c.in_ok-board.ensures.made found.1)

pub returns-in-Err-judged-clause-swept : goal.returns-in-Err-judged-clause-swept
returns-in-Err-judged-clause-swept c =
    let steps = script_session (content_of c.args.flash.now.items c.args.otp.now.items) c.args.cpu c.args.script.now in
    subst (λ (s : State). (c.in-Err-judged.reason ≡ Memory)
    ⊎ (sweep_refusal s.content c.args.cpu steps ≡ Some c.in-Err-judged.reason))
    c.in_ok-board.ensures.made
    (c.in-Err-judged.ensures.judged steps (recorder-of c.in-Ok.recorder c.in_ok-board_of.field-0 c.in_ok-board.board
    c.args.flash.now.items c.args.otp.now.items c.args.cpu c.args.script.now c.in_ok-board_of.ensures.made
    c.in_ok-board.ensures.made c.in-Ok.ensures)).0
