use Rattle.std.proofs.Common.{ap, arith, ◌∙◌}
use Rattle.pico_board.specs.MemBoard.{state_of}
use Rattle.boot_script.specs.Scripts.{script_events}
use Rattle.boot_script.proofs.JudgingLemmas.{script-exact}
use Rattle.boot_session.specs.Sessions.{entered_host}
use Rattle.boot_session.proofs.MarkLemmas.{session-recorded}
use Rattle.boot_session.proofs.StepBoundLemmas.{few-steps}
use Rattle.boot_session.proofs.session.session_on.Goals as goal

pub invariant_of-judged : goal.invariant_of-judged
invariant_of-judged c = record { whole = script-exact c.args.script.now c.requires.script }

pub returns : goal.returns
returns c =
    session-recorded c.args.board c.in_ok-recorder.recorder c.in_ok-machine.machine.board c.play.new.machine.board
    c.into_board.result c.args.cpu c.in_ok-machine.machine.cpu (script_events c.args.script.now)
    c.in_ok-recorder.ensures.bench
    (ap (λ us. us.items) c.in_ok-recorder.ensures.units ∙ c.boot_units_in-units.ensures)
    c.in_ok-recorder.ensures.none c.in_ok-machine.ensures.board c.in_ok-machine.ensures.cpu
    (c.play.ensures (entered_host (state_of c.in_ok-recorder.recorder.bench).content) c.in_ok-machine.ensures.entered)
    c.into_board.ensures
    (few-steps (state_of c.args.board).content c.args.cpu c.args.script.now c.args.board.sizes.flash_length.most
    (λ i. omega (arith, c.type_inv.script i)) c.requires.script)
