-- What a script without a Cut event leaves is of class `former`, `finished` or `bootsel`.
use Rattle.std.proofs.Common.{◌≡◌, false, true, List, [], ◌∷◌, ◌++◌, Option, Some, None, refl, sym, ap, ◌∙◌}
use Rattle.std.specs.List.{AllByRecursion}
use Rattle.pico_board.specs.declared.Step.{Step}
use Rattle.pico_board.specs.declared.boot.Cpu.{Cpu}
use Rattle.pico_board.specs.declared.boot.BootKind.TheVariants.{Normal}
use Rattle.pico_board.specs.declared.window.Window.{Window}
use Rattle.pico_board.specs.Content.{Content}
use Rattle.pico_board.specs.Cuts.{Cut}
use Rattle.image_check.proofs.LawLemmas.{same-image}
use Rattle.slot_choice.specs.declared.choice.Choice.{Choice}
use Rattle.boot_rules.specs.declared.decision.Decision.TheVariants.{Start}
use Rattle.boot_rules.specs.Chosen.{Chosen}
use Rattle.boot_script.specs.Events.{EventView}
use Rattle.boot_machine.specs.Machines.{MachineView}
use Rattle.boot_machine.specs.Moves.{armed_for, effect}
use Rattle.boot_machine.specs.Plays.{Moved, moved_as, moved_machine, powerless, told_cut}
use Rattle.boot_machine.proofs.PlayLemmas.{moved-as}
use Rattle.boot_sweep.specs.Moving.{MoveView}
use Rattle.boot_sweep.proofs.ResultLemmas.{start-holds}
use Rattle.cut_class.specs.declared.class.Class.{Class}
use Rattle.cut_class.specs.declared.class.Class.TheVariants as classes
use Rattle.boot_cuts.specs.Classes.{IsClass, IsFinished}
use Rattle.boot_tape.specs.CutMoves.{cut_moves}
use Rattle.boot_cuts.specs.Tears.{IsLeftTorn, is_left_torn, left_torn}
use Rattle.boot_tape.specs.Traces.{event_moves, moves_in, trace}
use Rattle.boot_cuts.proofs.TearLemmas.{torn-exactly}
use Rattle.law_cuts.specs.Cases.{ArmsNoCut, IsWholeOrNone}
use Rattle.law_cuts.proofs.SessionTraceLemmas.{dones, none-cut, uncut}

arms-none : (armed : Option (Option Cut)) (event : EventView) → ArmsNoCut event → armed_for armed event ≡ armed
arms-none armed EventView.End quiet = refl
arms-none armed (EventView.Command command payload) quiet = refl
arms-none armed (EventView.Uf2 block) quiet = refl
arms-none armed (EventView.Cut left within pattern) quiet = absurd quiet
arms-none armed EventView.PowerOn quiet = refl
arms-none armed (EventView.Reset kind) quiet = refl
arms-none armed EventView.Buy quiet = refl

-- steps that complete leave nothing torn
behind-dones : (steps : List Step) (moves : List MoveView) → left_torn (dones steps ++ moves) ≡ left_torn moves
behind-dones [] moves = refl
behind-dones (step ∷ steps) moves = behind-dones steps moves

-- where no cut is armed, and none comes to be, nothing is left torn
none-left : (m : MachineView) (events : List EventView) → m.armed ≡ Some None → AllByRecursion ArmsNoCut events
    → left_torn (moves_in m events) ≡ []
none-left m [] none quiet = refl
none-left m (event ∷ events) none quiet =
    let e = effect m event in
    let keeps : armed_for m.armed event ≡ Some None = arms-none m.armed event quiet.0 ∙ none in
    let did : event_moves m event ≡ dones e.steps =
    ap (λ a. (cut_moves (told_cut a) e.steps).moves) keeps ∙ none-cut e.steps in
    let next : (moved_machine m event).next.armed ≡ Some None =
    ap (λ (w : Moved). w.next.armed) (moved-as m event None keeps ∙ ap (moved_as m e) (uncut e.steps m.content)) in
    let others = moves_in (moved_machine m event).next events in
    ap (λ ms. left_torn (ms ++ others)) did
    ∙ (behind-dones e.steps others ∙ none-left (moved_machine m event).next events next quiet.1)

none-torn : (c : Content) (cpu : Cpu) (events : List EventView) → AllByRecursion ArmsNoCut events → (w : Window)
    → IsLeftTorn (trace c cpu events).moves w → ⊥
none-torn c cpu events quiet w torn =
    let never : false ≡ true =
    sym (ap (λ xs. is_left_torn xs w) (none-left (powerless c cpu) events refl quiet))
    ∙ (torn-exactly (moves_in (powerless c cpu) events) w).0 torn in cc

-- what starts at the end has the bytes that it has there
end-finished : (z : Content) (moves : List MoveView) (cpu : Cpu) (choice : Choice)
    → ((w : Window) → IsLeftTorn moves w → ⊥) → Chosen z cpu Normal (Start choice) → IsFinished z moves z cpu
end-finished z moves cpu choice mended starts = record {
  choice = choice;
  last = starts;
  here = starts;
  mended = mended choice.image.window;
  image = same-image z z choice.image cpu (start-holds z cpu choice starts) refl;
}

end-class : (c z : Content) (moves : List MoveView) (cpu : Cpu) (class : Class)
    → ((w : Window) → IsLeftTorn moves w → ⊥) → IsClass c z moves z cpu class → IsWholeOrNone class
end-class c z moves cpu classes.Former mended is = tt
end-class c z moves cpu classes.Finished mended is = tt
end-class c z moves cpu classes.Whole mended is =
    absurd (is.1 (end-finished z moves cpu is.2.choice mended is.2.here))
end-class c z moves cpu classes.Tail mended is =
    absurd (is.1 (end-finished z moves cpu is.3.choice mended is.3.here))
end-class c z moves cpu classes.Mixed mended is =
    absurd (is.1 (end-finished z moves cpu is.4.choice mended is.4.here))
end-class c z moves cpu classes.Bootsel mended is = tt

pub end-is : (c : Content) (cpu : Cpu) (events : List EventView) (class : Class) → AllByRecursion ArmsNoCut events
    → IsClass c (trace c cpu events).last (trace c cpu events).moves (trace c cpu events).last cpu class
    → IsWholeOrNone class
end-is c cpu events class quiet is =
    end-class c (trace c cpu events).last (trace c cpu events).moves cpu class (none-torn c cpu events quiet) is
