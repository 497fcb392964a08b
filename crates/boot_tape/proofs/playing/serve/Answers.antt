use Rattle.std.proofs.Common.{◌≡◌, ◌∙◌, ◌-◌, List, ap, length, subst, sym}
use Rattle.pico_board.specs.declared.Step.{Step}
use Rattle.boot_script.specs.Events.{event_from}
use Rattle.boot_tape.specs.Playing.{HasCome}
use Rattle.boot_tape.proofs.ComingLemmas.{come-served, is-hosted, is-serving}
use Rattle.boot_tape.proofs.playing.serve.Goals as goal

pub answer-outcome-requires-clause-bootsel : goal.answer-outcome-requires-clause-bootsel
answer-outcome-requires-clause-bootsel c =
    is-serving c.args.machine.now.state (event_from c.args.event.now) c.requires.served

pub answer-outcome-requires-clause-hosted : goal.answer-outcome-requires-clause-hosted
answer-outcome-requires-clause-hosted c =
    is-hosted c.args.machine.now.state (event_from c.args.event.now) c.requires.served

pub returns : goal.returns
returns c = λ m stands none.
    let former : length c.as_slice-former.result.now ≡ length c.args.machine.now.board.steps.items =
    ap (λ (xs : List Step). length xs) c.as_slice-former.ensures.value
    ∙ ap (λ t. length t.steps.items) c.board.ensures in
    let now : length c.as_slice-now.result.now ≡ length c.answer-outcome.new.self.board.steps.items =
    ap (λ (xs : List Step). length xs) c.as_slice-now.ensures.value
    ∙ ap (λ t. length t.steps.items) c.board-2.ensures in
    subst (λ b. HasCome c.args.machine.now m (event_from c.args.event.now) (record {
      outcome = c.answer-outcome.result.outcome;
      own = c.saturating_sub.result;
      behind = b;
    }) c.boot.new.machine) (sym c.behind_asked.ensures)
    (come-served c.args.machine.now c.answer-outcome.new.self c.boot.new.machine m (event_from c.args.event.now)
    c.answer-outcome.result.boot c.answer-outcome.result.outcome c.saturating_sub.result c.requires.served c.answer-outcome.ensures.serves
    (c.saturating_sub.ensures
    ∙ (ap (λ n. n - length c.as_slice-former.result.now) now
    ∙ ap (λ n. length c.answer-outcome.new.self.board.steps.items - n) former))
    c.boot.ensures stands none)
