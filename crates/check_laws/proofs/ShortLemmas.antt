-- A machine on whose board no cut is armed, in an event that arms none: its steps complete.
use Rattle.std.proofs.Common.{◌≡◌, true, List, [], ◌∷◌, Some, None, refl, ap, ◌∙◌}
use Rattle.pico_board.specs.declared.Step.{Step}
use Rattle.pico_board.specs.declared.boot.Cpu.{Cpu}
use Rattle.pico_board.specs.Content.{Content}
use Rattle.pico_board.specs.Cuts.{CutOutcome, cut_steps}
use Rattle.pico_board.specs.Steps.{after, after_all}
use Rattle.boot_script.specs.Events.{EventView}
use Rattle.boot_machine.specs.Machines.{MachineView, StateView}
use Rattle.boot_machine.specs.Moves.{armed_for, effect}
use Rattle.boot_machine.specs.Plays.{Moved, moved_as, moved_machine, told_cut}
use Rattle.boot_machine.proofs.PlayLemmas.{moved-as}
use Rattle.boot_tape.specs.Traces.{completed, event_steps}

-- a machine in this state, on whose board no cut is armed
abbrev pub unarmed : Content → Cpu → StateView → MachineView
unarmed c cpu place = record { content = c; armed = Some None; cpu = cpu; place = place }

told-none : (steps : List Step) (c : Content)
    → cut_steps steps None c ≡ (record { answer = true; content = after_all c steps; armed = None })
told-none [] c = refl
told-none (step ∷ steps) c = told-none steps (after c step)

pub moved-whole : (c : Content) (cpu : Cpu) (place : StateView) (event : EventView)
    → armed_for (Some None) event ≡ Some None
    → (moved_machine (unarmed c cpu place) event).next
    ≡ unarmed (after_all c (effect (unarmed c cpu place) event).steps) cpu (effect (unarmed c cpu place) event).place
moved-whole c cpu place event keeps =
    let m = unarmed c cpu place in
    let e = effect m event in
    ap (λ (w : Moved). w.next) (moved-as m event None keeps)
    ∙ ap (λ (o : CutOutcome). (moved_as m e o).next) (told-none e.steps c)

pub steps-whole : (c : Content) (cpu : Cpu) (place : StateView) (event : EventView)
    → armed_for (Some None) event ≡ Some None
    → event_steps (unarmed c cpu place) event ≡ (effect (unarmed c cpu place) event).steps
steps-whole c cpu place event keeps =
    ap (λ a. completed (told_cut a) (effect (unarmed c cpu place) event).steps) keeps
