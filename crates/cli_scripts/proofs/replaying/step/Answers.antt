use Rattle.std.proofs.Common.{subst, ap, ◌∙◌}
use Rattle.pico_board.specs.MemBoard.{state_of}
use Rattle.pico_board.specs.Supply.{armed_of}
use Rattle.boot_script.specs.Events.{event_from}
use Rattle.text_lines.specs.Events.{outcome_text}
use Rattle.boot_machine.specs.Standing.{Stands}
use Rattle.boot_machine.proofs.PlayLemmas.{moves-only}
use Rattle.cli_scripts.proofs.replaying.step.Goals as goal

pub returns : goal.returns
returns c = λ m stands.
    let s = c.step.ensures m stands in
    let one = moves-only m (armed_of c.args.machine.now.board.supply) (event_from c.args.event.now) s.step.next
    s.outcome stands.armed s.step.moves in (
      subst (λ n. Stands state_of c.step.new.self n) one.machine s.step.stands,
      s.told ∙ ap outcome_text one.told,
    )
