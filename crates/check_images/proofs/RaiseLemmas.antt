-- How many raises take rows to a version, counted row by row, and how many a start does.
use Rattle.std.proofs.Common.{◌≡◌, ◌∙◌, ℕ, ◌+◌, ◌*◌, ◌/◌, ◌≤◌, Bool, true, false, cond, List, [], ◌∷◌, ◌++◌, Option, Some, None, drop, refl, sym, ap, arith}
use Rattle.std.specs.Prelude.{◌&&◌}
use Rattle.std.proofs.lemmas.List.Sums.{sum_by-append}
use Rattle.pico_board.specs.declared.Step.{Step}
use Rattle.pico_board.specs.declared.step.Step.TheVariants.{Erase}
use Rattle.pico_board.specs.declared.boot.Cpu.{Cpu}
use Rattle.pico_board.specs.declared.boot.BootKind.TheVariants.{Normal}
use Rattle.pico_board.specs.declared.window.Window.{Window}
use Rattle.pico_board.specs.Content.{Content}
use Rattle.image_def.specs.declared.started.Started.{Started}
use Rattle.otp_roll.specs.Raises.{raise_each}
use Rattle.slot_choice.specs.declared.choice.Choice.{Choice}
use Rattle.trial_buy.specs.Starting.{erase_of, image_raises, is_other_better, other_erase, other_image, settling, start_steps}
use Rattle.boot_rules.specs.declared.decision.Decision.{Decision}
use Rattle.boot_rules.specs.Chosen.{Chosen}
use Rattle.boot_rules.proofs.DecisionLemmas.{chosen-decision}
use Rattle.boot_machine.specs.Boots.{decided_steps}
use Rattle.check_images.specs.Raising.{boot_raises, is_raise, raise_count}

pub count-append : (xs ys : List Step) → raise_count (xs ++ ys) ≡ raise_count xs + raise_count ys
count-append xs ys = sum_by-append (λ step. cond (is_raise step) 1 0) xs ys

-- the raises of the rows that are left, and those of the rows so far
pub record IsCounted (otp rows : List ℕ) (all wanted at raised : ℕ) : Type 0 where
  pub whole : raised + raise_count (raise_each otp wanted (drop at rows)) ≡ all
  pub most : raised ≤ 3 * at

-- an erase is no raise
no-erase : (choice : Choice) (o : Option Window) (image : Option Started) → raise_count (erase_of choice o image) ≡ 0
no-erase choice None image = refl
no-erase choice (Some w) None = refl
no-erase choice (Some w) (Some other) =
    go (choice.updated && is_other_better choice.member choice.image.version other.version)
  where
    go : (b : Bool) → raise_count (cond b (Erase (w.start / 4096) ∷ []) []) ≡ 0
    go true = refl
    go false = refl

pub start-counted : (c : Content) (cpu : Cpu) (choice : Choice) → choice.image.trial ≡ false
    → raise_count (start_steps c cpu choice) ≡ raise_count (image_raises c.otp choice.image)
start-counted c cpu choice plain =
    let none = no-erase choice choice.other (other_image c cpu choice.other) in
    let both = count-append (other_erase c cpu choice) (image_raises c.otp choice.image) in
    let all : raise_count (other_erase c cpu choice ++ image_raises c.otp choice.image)
    ≡ raise_count (image_raises c.otp choice.image) = omega (arith, none, both) in
    ap raise_count (ap (λ b. cond b [] (settling c cpu choice)) plain) ∙ all

pub boot-counted : (c : Content) (cpu : Cpu) (d : Decision) → Chosen c cpu Normal d → (n : ℕ)
    → n ≡ raise_count (decided_steps c cpu d) → n ≡ boot_raises c cpu
boot-counted c cpu d chosen n is =
    is ∙ ap (λ e. raise_count (decided_steps c cpu e)) (chosen-decision c cpu Normal d chosen)
