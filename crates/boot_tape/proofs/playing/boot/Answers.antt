use Rattle.std.proofs.Common.{subst, sym}
use Rattle.boot_script.specs.Events.{EventView}
use Rattle.boot_tape.specs.Playing.{IsStepped, asked_effect}
use Rattle.boot_tape.proofs.ComingLemmas.{none-asked}
use Rattle.boot_tape.proofs.PlayLemmas.{stepped-by}
use Rattle.boot_tape.proofs.playing.boot.Goals as goal

pub returns-in-Some : goal.returns-in-Some
returns-in-Some c = λ m stands none.
    subst (λ a. IsStepped c.args.machine.now m (asked_effect m a) c.advance.new.self) (sym c.in-Some.is)
    (stepped-by c.args.machine.now m (EventView.Reset c.in-Some.kind) c.advance.new.self c.advance.result none
    (c.advance.ensures m stands)
    (λ n outcome moves lost.
    (c.only_lost_power_says_so.ensures.told m n (EventView.Reset c.in-Some.kind) outcome moves).0 lost))

pub returns-in-None : goal.returns-in-None
returns-in-None c = λ m stands none.
    subst (λ a. IsStepped c.args.machine.now m (asked_effect m a) c.args.machine.now) (sym c.in-None.is)
    (none-asked c.args.machine.now m stands none)
