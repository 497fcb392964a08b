use Rattle.std.proofs.Common.{◌∙◌, ap}
use Rattle.boot_script.specs.Events.{event_from}
use Rattle.boot_tape.specs.Playing.{behind_in}
use Rattle.boot_tape.proofs.ComingLemmas.{come-passed}
use Rattle.boot_tape.proofs.playing.pass.Goals as goal

pub returns : goal.returns
returns c = λ m stands none.
    come-passed c.args.machine.now c.advance-outcome.new.self m (event_from c.args.event.now) c.advance-outcome.result
    c.in_ok-behind.behind
    (c.in_ok-behind.ensures ∙ ap (λ s. behind_in s (event_from c.args.event.now)) c.state.ensures)
    c.requires.other stands none (c.advance-outcome.ensures m stands)
    (λ n outcome moves lost.
    (c.only_lost_power_says_so.ensures.told m n (event_from c.args.event.now) outcome moves).0 lost)
