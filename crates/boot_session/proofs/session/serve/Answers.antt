use Rattle.std.proofs.Common.{ap, ◌∙◌}
use Rattle.std.specs.Prelude.{◌&&◌, is_none}
use Rattle.boot_script.specs.Events.{event_from}
use Rattle.boot_machine.specs.Standing.{is_bootsel}
use Rattle.boot_session.proofs.ServedLemmas.{served-on}
use Rattle.boot_session.proofs.session.serve.Goals as goal

pub returns : goal.returns
returns g c = λ host stands.
    served-on g.B.Board.state g.B.Board.history c.args.machine.now c.answer-asked.new.self host
    (event_from c.args.event.now) c.answer-asked.result.boot c.goes_on.result c.answer-asked.result.outcome
    c.requires.unarmed (c.answer-asked.ensures.serves host stands)
    (c.goes_on.ensures ∙ ap (λ s. is_none c.answer-asked.result.boot && is_bootsel s) c.state.ensures)
