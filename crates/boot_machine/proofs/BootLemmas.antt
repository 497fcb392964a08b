-- What a choice that a boot starts is, and stays while its steps are done.
use Rattle.std.proofs.Common.{◌≡◌, ◌/◌, true, [], length, Option, Some, None, refl, sym, ap, ◌∙◌, subst}
use Rattle.std.specs.Prelude.{IfSome, if◌then◌else◌}
use Rattle.pico_board.specs.declared.boot.Cpu.{Cpu}
use Rattle.pico_board.specs.declared.boot.BootKind.{BootKind}
use Rattle.pico_board.specs.declared.window.Window.{Window}
use Rattle.pico_board.specs.Content.{Content, IsContent}
use Rattle.pico_board.specs.Steps.{after_all}
use Rattle.part_table.specs.Windows.{IsPlacedWindow, IsPlacedIn}
use Rattle.image_check.specs.Valid.{Valid}
use Rattle.slot_choice.specs.declared.choice.Choice.{Choice}
use Rattle.trial_buy.specs.Starting.{settling, start_steps}
use Rattle.trial_buy.specs.Windows.{IsPlacedChoice}
use Rattle.boot_rules.specs.declared.decision.Decision.{Decision}
use Rattle.boot_rules.specs.declared.decision.Decision.TheVariants.{Start}
use Rattle.boot_rules.specs.Chosen.{Chosen}
use Rattle.boot_machine.specs.Standing.{IsHeldChoice}
use Rattle.boot_rules.proofs.StartLemmas.{start-placed, start-other, start-valid}

-- what holds of each value that an option has
if-some : {X : Type 0} (P : X → Type 0) (o : Option X) → ((x : X) → o ≡ Some x → P x) → IfSome o P
if-some P None h = tt
if-some P (Some x) h = h x refl

-- the windows of a choice are placed
pub placed-by : (c : Content) (cpu : Cpu) (kind : BootKind) (choice : Choice) (d : Decision) → IsContent c
    → Chosen c cpu kind d → d ≡ Start choice → IsPlacedChoice c choice
placed-by c cpu kind choice d right chosen is =
    let start = subst (Chosen c cpu kind) is chosen in record {
      started = start-placed c cpu kind choice right start;
      other = if-some (IsPlacedIn c) choice.other (λ w at. (start-other c cpu kind choice right start w at).0);
    }

-- the image of a choice is valid with trial allowed
pub valid-by : (c : Content) (cpu : Cpu) (kind : BootKind) (choice : Choice) (d : Decision) → IsContent c
    → Chosen c cpu kind d → d ≡ Start choice → Valid c choice.image.window cpu true choice.image
valid-by c cpu kind choice d right chosen is =
    start-valid c cpu kind choice (subst (Chosen c cpu kind) is chosen)

pub trial-steps : (c : Content) (cpu : Cpu) (choice : Choice) → choice.image.trial ≡ true
    → start_steps c cpu choice ≡ []
trial-steps c cpu choice trial = ap (λ b. if b then [] else settling c cpu choice) trial

if-same : {X : Type 0} (P Q : X → Type 0) (o : Option X) → ((x : X) → P x → Q x) → IfSome o P → IfSome o Q
if-same P Q None f h = tt
if-same P Q (Some x) f h = f x h

-- a placed choice is one in each flash of this length
pub placed-in : (c d : Content) (choice : Choice) → length d.flash ≡ length c.flash → IsPlacedChoice c choice
    → IsPlacedChoice d choice
placed-in c d choice same placed = record {
  started = move choice.image.window placed.started;
  other = if-same (IsPlacedIn c) (IsPlacedIn d) choice.other move placed.other;
}
  where
    move : (w : Window) → IsPlacedIn c w → IsPlacedIn d w
    move w at = subst (λ n. IsPlacedWindow w (n / 4096) 0) (sym same) at

-- a choice whose steps are done is held: those of a trial image are none
pub held-by : (c d : Content) (cpu : Cpu) (choice : Choice) → length d.flash ≡ length c.flash
    → d ≡ after_all c (start_steps c cpu choice) → IsPlacedChoice c choice
    → Valid c choice.image.window cpu true choice.image → IsHeldChoice d cpu choice
held-by c d cpu choice same done placed valid = record {
  placed = placed-in c d choice same placed;
  trial = λ trial. subst (λ e. Valid e choice.image.window cpu true choice.image)
      (sym (done ∙ ap (after_all c) (trial-steps c cpu choice trial))) valid;
}
