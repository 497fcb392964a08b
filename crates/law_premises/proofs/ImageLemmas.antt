-- The images of the worked pair, member by member.
use Rattle.std.proofs.Common.{ℕ, zero, suc, ◌≡◌, ◌≢◌, Bool, List, [], ◌∷◌, Option, None, Some, refl, sym, subst, slice_get}
use Rattle.std.proofs.lemmas.Option.{none-some, same_Some}
use Rattle.pico_board.specs.declared.window.Window.{Window}
use Rattle.slot_choice.specs.declared.unit.Member.{Member}
use Rattle.slot_choice.specs.declared.unit.Member.TheVariants.{A, B}
use Rattle.slot_choice.specs.declared.unit.SlotUnit.{SlotUnit}
use Rattle.slot_choice.specs.Examples.{the_pair}
use Rattle.slot_choice.specs.Units.{member_window}
use Rattle.image_def.specs.declared.started.Started.{Started}
use Rattle.law_premises.specs.Examples.{images_with_second, no_images, second_window}

-- in another window than that of B no image stands
pub member-same : (m : Member) (v : Window) (trial : Bool) → member_window m the_pair ≡ Some v → v ≢ second_window
    → no_images v trial ≡ images_with_second v trial
member-same A v trial stands other =
    subst (λ (x : Window). no_images x trial ≡ images_with_second x trial) (same_Some _ _ stands) refl
member-same B v trial stands other = absurd (other (sym (same_Some _ _ stands)))

pub pair-same : (i : ℕ) (u : SlotUnit) (m : Member) (v : Window) (trial : Bool) → slice_get (the_pair ∷ []) i ≡ Some u
    → member_window m u ≡ Some v → v ≢ second_window → no_images v trial ≡ images_with_second v trial
pair-same zero u m v trial at =
    subst (λ (x : SlotUnit). member_window m x ≡ Some v → v ≢ second_window → no_images v trial ≡ images_with_second v trial)
    (same_Some _ _ at) (member-same m v trial)
pair-same (suc i) u m v trial at = absurd (none-some u at)
