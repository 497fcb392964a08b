-- For the worked flash of three images: its raises, and the members of its units.
use Rattle.std.proofs.Common.{◌≡◌, ℕ, zero, suc, ◌<◌, ap, ◌∙◌, Some, None, arith}
use Rattle.std.specs.Prelude.{Contains, slice_index_or}
use Rattle.pico_board.specs.declared.Step.TheVariants.{Raise}
use Rattle.slot_choice.specs.declared.unit.Member.{Member}
use Rattle.slot_choice.specs.declared.unit.Member.TheVariants.{A, B}
use Rattle.slot_choice.specs.declared.unit.SlotUnit.{SlotUnit}
use Rattle.slot_choice.specs.Examples.{window_at}
use Rattle.slot_choice.specs.Units.{member_window}
use Rattle.pico_board.specs.declared.window.Window.{Window}
use Rattle.std.proofs.lemmas.Option.{same_Some}
use Rattle.law_boot_cuts.specs.Examples.{three_raises}

-- the three raises are of rows below 0x0c3
pub raised-low : (row bits : ℕ) → Contains three_raises (Raise row bits) → row < 0x0c3
raised-low row bits (k, lt, is) = go k lt is
  where
    go : (k : ℕ) → k < 3 → slice_index_or three_raises k (Raise row bits) ≡ Raise row bits → row < 0x0c3
    go zero lt is = let e : 0x0c0 ≡ row = cc is in omega (arith, e)
    go (suc zero) lt is = let e : 0x0c1 ≡ row = cc is in omega (arith, e)
    go (suc (suc zero)) lt is = let e : 0x0c2 ≡ row = cc is in omega (arith, e)
    go (suc (suc (suc k))) lt is = absurd (omega arith)

-- the unit of a partition of one sector
abbrev pub unit_at : ℕ → ℕ → SlotUnit
unit_at start part = record { a = window_at start 0x1000; b = None; a_part = Some part; b_part = None }

-- the one member of a unit
pub member-is : (start part : ℕ) (v : SlotUnit) (m : Member) (w : Window) → unit_at start part ≡ v
    → member_window m v ≡ Some w → window_at start 0x1000 ≡ w
member-is start part v m w is stands = go m (ap (member_window m) is ∙ stands)
  where
    go : (m : Member) → member_window m (unit_at start part) ≡ Some w → window_at start 0x1000 ≡ w
    go A e = same_Some (window_at start 0x1000) w e
    go B e = cc
