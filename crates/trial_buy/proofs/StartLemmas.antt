-- What a start writes, as one list.
use Rattle.std.proofs.Common.{◌≡◌, ℕ, ◌/◌, Bool, true, false, List, [], ◌∷◌, ◌++◌, Option, Some, None, refl, ap, ◌∙◌}
use Rattle.std.specs.Prelude.{if◌then◌else◌}
use Rattle.pico_board.specs.declared.Step.{Step}
use Rattle.pico_board.specs.declared.Step.TheVariants.{Erase}
use Rattle.pico_board.specs.declared.boot.Cpu.{Cpu}
use Rattle.pico_board.specs.declared.window.Window.{Window}
use Rattle.pico_board.specs.Content.{Content}
use Rattle.otp_roll.specs.Raises.{raises}
use Rattle.image_def.specs.declared.started.Started.{Started}
use Rattle.image_check.specs.Valid.{Valid}
use Rattle.slot_choice.specs.declared.choice.Choice.{Choice}
use Rattle.trial_buy.specs.Starting.{image_raises, is_other_better, other_erase, raises_of, settling, start_steps}
use Rattle.trial_buy.proofs.EraseLemmas.{erased, not-updated}

trial-steps : (trial : Bool) (steps : List Step) → trial ≡ false
    → (let r : List Step = if trial then [] else steps in r) ≡ steps
trial-steps false steps e = refl
trial-steps true steps e = cc

-- a start of an image that is no trial, by what it erases and the image's rollback version
starts-by : (c : Content) (cpu : Cpu) (choice : Choice) (erases : List Step) (rollback : Option ℕ)
    → choice.image.trial ≡ false → other_erase c cpu choice ≡ erases → choice.image.rollback ≡ rollback
    → start_steps c cpu choice ≡ erases ++ raises_of c.otp choice.image.rows.items rollback
starts-by c cpu choice erases rollback plain first version =
    trial-steps choice.image.trial (settling c cpu choice) plain
    ∙ (ap (λ before. before ++ image_raises c.otp choice.image) first
    ∙ ap (λ v. erases ++ raises_of c.otp choice.image.rows.items v) version)

pub starts-both : (c : Content) (cpu : Cpu) (choice : Choice) (w : Window) (s : Started) (v : ℕ)
    → choice.image.trial ≡ false → choice.updated ≡ true → choice.other ≡ Some w → Valid c w cpu false s
    → is_other_better choice.member choice.image.version s.version ≡ true → choice.image.rollback ≡ Some v
    → start_steps c cpu choice ≡ Erase (w.start / 4096) ∷ raises c.otp choice.image.rows.items v
starts-both c cpu choice w s v plain updated other valid better version =
    let first = erased c cpu choice w s updated other valid better in
    starts-by c cpu choice (Erase (w.start / 4096) ∷ []) (Some v) plain first version

pub starts-raises : (c : Content) (cpu : Cpu) (choice : Choice) (v : ℕ) → choice.image.trial ≡ false
    → choice.updated ≡ false → choice.image.rollback ≡ Some v
    → start_steps c cpu choice ≡ raises c.otp choice.image.rows.items v
starts-raises c cpu choice v plain same version =
    starts-by c cpu choice [] (Some v) plain (not-updated c cpu choice same) version

pub starts-nothing : (c : Content) (cpu : Cpu) (choice : Choice) → choice.updated ≡ false
    → choice.image.rollback ≡ None → start_steps c cpu choice ≡ []
starts-nothing c cpu choice same none = go choice.image.trial refl
  where
    go : (trial : Bool) → choice.image.trial ≡ trial → start_steps c cpu choice ≡ []
    go true e = ap (λ t. (let r : List Step = if t then [] else settling c cpu choice in r)) e
    go false e = starts-by c cpu choice [] None e (not-updated c cpu choice same) none
