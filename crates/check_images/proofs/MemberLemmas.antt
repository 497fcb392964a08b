-- The members of boot units stand inside the flash.
use Rattle.std.proofs.Common.{ℕ, List, [], ◌∷◌, ◌++◌, length, Option, Some, None}
use Rattle.std.specs.Prelude.{All, IfSome}
use Rattle.std.specs.List.{AllByRecursion, flat_map}
use Rattle.std.proofs.lemmas.List.Elements.{All-from_recursion, recursion_from_All}
use Rattle.pico_board.specs.declared.boot.Cpu.{Cpu}
use Rattle.pico_board.specs.declared.window.Window.{Window}
use Rattle.pico_board.specs.Content.{Content, IsContent}
use Rattle.slot_choice.specs.declared.unit.SlotUnit.{SlotUnit}
use Rattle.boot_rules.specs.Choosing.{boot_units_in}
use Rattle.boot_rules.specs.Picking.{AreInside, IsInside}
use Rattle.boot_rules.proofs.PlaceLemmas.{boot-units-inside}
use Rattle.check_images.specs.Lines.{option_list}
use Rattle.check_images.specs.Members.{members_in, unit_windows}

append : {X : Type 0} (P : X → Type 0) (xs ys : List X) → AllByRecursion P xs → AllByRecursion P ys
    → AllByRecursion P (xs ++ ys)
append P [] ys none all = all
append P (x ∷ xs) ys both all = (both.0, append P xs ys both.1 all)

second : (n : ℕ) (o : Option Window) → IfSome o (IsInside n) → AllByRecursion (IsInside n) (option_list o)
second n None inside = tt
second n (Some w) inside = (inside, tt)

each : (n : ℕ) (us : List SlotUnit) → AllByRecursion (AreInside n) us
    → AllByRecursion (IsInside n) (flat_map unit_windows us)
each n [] none = tt
each n (u ∷ us) both =
    append (IsInside n) (unit_windows u) (flat_map unit_windows us) (both.0.first, second n u.b both.0.second) (each n us both.1)

pub members-inside : (c : Content) (cpu : Cpu) → IsContent c → All (IsInside (length c.flash)) (members_in c cpu)
members-inside c cpu right =
    All-from_recursion (IsInside (length c.flash)) (members_in c cpu)
    (each (length c.flash) (boot_units_in c cpu)
    (recursion_from_All (AreInside (length c.flash)) (boot_units_in c cpu) (boot-units-inside c cpu right)))
