-- IsBootMember is membership in a boot unit that is a pair.
use Rattle.std.proofs.Common.{◌≡◌, ℕ, Some, refl, sym, ap, inl, inr}
use Rattle.std.specs.Prelude.{slice_get}
use Rattle.pico_board.specs.declared.boot.Cpu.{Cpu}
use Rattle.pico_board.specs.declared.window.Window.{Window}
use Rattle.pico_board.specs.Content.{Content}
use Rattle.slot_choice.specs.declared.unit.Member.{Member}
use Rattle.slot_choice.specs.declared.unit.Member.TheVariants.{A, B}
use Rattle.slot_choice.specs.declared.unit.SlotUnit.{SlotUnit}
use Rattle.slot_choice.specs.Units.{member_window, IsMember}
use Rattle.boot_rules.specs.Choosing.{boot_units_in, other_of}
use Rattle.boot_rules.specs.Chosen.{IsBootMember}

pub home-pair : (c : Content) (w : Window) (cpu : Cpu) → IsBootMember c w cpu
    → (i : ℕ) × (u : SlotUnit) × (second : Window) × (slice_get (boot_units_in c cpu) i ≡ Some u)
    × (u.b ≡ Some second) × IsMember u w
home-pair c w cpu h = go h.member h.stands h.pair
  where
    go : (m : Member) → member_window m h.unit ≡ Some w → member_window (other_of m) h.unit ≡ Some h.other
        → (i : ℕ) × (u : SlotUnit) × (second : Window) × (slice_get (boot_units_in c cpu) i ≡ Some u)
        × (u.b ≡ Some second) × IsMember u w
    go A stands pair = let same : w ≡ h.unit.a = cc in (h.place, h.unit, h.other, h.tried, pair, inl same)
    go B stands pair = (h.place, h.unit, w, h.tried, stands, inr stands)

pub pair-home : (c : Content) (w : Window) (cpu : Cpu) (i : ℕ) (u : SlotUnit) (second : Window)
    → slice_get (boot_units_in c cpu) i ≡ Some u → u.b ≡ Some second → IsMember u w → IsBootMember c w cpu
pair-home c w cpu i u second tried pair (inl same) = record {
  place = i;
  unit = u;
  member = A;
  other = second;
  tried = tried;
  stands = ap Some (sym same);
  pair = pair;
}
pair-home c w cpu i u second tried pair (inr same) = record {
  place = i;
  unit = u;
  member = B;
  other = u.a;
  tried = tried;
  stands = same;
  pair = refl;
}
