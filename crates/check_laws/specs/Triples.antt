-- Which rows the images of other boot units list, and which a boot or a buy raises.
use Rattle.std.specs.Prelude.{◌≡◌, ◌+◌, ℕ, nat_le, ◌&&◌, ◌||◌, not, Bool, true, false, List, Option, Some, None, Contains}
use Rattle.std.specs.List.{list_all, list_any}
use Rattle.pico_board.specs.declared.Step.{Step}
use Rattle.pico_board.specs.declared.step.Step.TheVariants.{Erase, Program, Raise}
use Rattle.pico_board.specs.declared.boot.Cpu.{Cpu}
use Rattle.pico_board.specs.declared.window.Window.{Window}
use Rattle.pico_board.specs.Content.{Content}
use Rattle.pico_board.specs.Windows.{is_same_window}
use Rattle.otp_roll.specs.Rows.{AreRowsApart, IsOutside}
use Rattle.image_def.specs.declared.started.Started.{Started}
use Rattle.image_check.specs.Valid.{Valid}
use Rattle.slot_choice.specs.declared.unit.Member.{Member}
use Rattle.slot_choice.specs.declared.unit.SlotUnit.{SlotUnit}
use Rattle.slot_choice.specs.Units.{IsMember, member_window}
use Rattle.boot_rules.specs.Choosing.{boot_units_in, images_in}

-- the steps raise a row of the triple of row q
abbrev pub IsTripleRaised : List Step → ℕ → Type 0
IsTripleRaised steps q =
    (row : ℕ) × (bits : ℕ) × Contains steps (Raise row bits) × (IsOutside row q → ⊥)

-- No image of another boot unit, valid in a normal boot, lists a row whose triple shares a row with
-- one that the steps raise; such a triple is that of a row of the image. Another boot unit is one
-- that has not the image's window.
abbrev pub AreTriplesApart : Content → Cpu → Started → List Step → Type 0
AreTriplesApart c cpu image steps =
    (u : SlotUnit) (m : Member) (w : Window) (s : Started) (r q : ℕ)
    → Contains (boot_units_in c cpu) u → (IsMember u image.window → ⊥)
    → member_window m u ≡ Some w → Valid c w cpu false s → Contains s.rows.items r
    → Contains image.rows.items q → IsTripleRaised steps q → AreRowsApart r q

-- the same, as functions
abbrev pub is_raise_in : ℕ → Step → Bool
is_raise_in q (Raise row bits) = nat_le q row && nat_le (row + 1) (q + 3)
is_raise_in q (Erase s) = false
is_raise_in q (Program p d) = false

abbrev pub is_apart : ℕ → ℕ → Bool
is_apart r q = nat_le (r + 3) q || nat_le (q + 3) r

-- the triples of r and q share no row, or the steps raise none of q's
abbrev pub is_kept_by : List Step → ℕ → ℕ → Bool
is_kept_by steps r q = is_apart r q || not (list_any (is_raise_in q) steps)

abbrev pub keeps_row : List Step → List ℕ → ℕ → Bool
keeps_row steps rows r = list_all (is_kept_by steps r) rows

abbrev pub keeps_image : List Step → List ℕ → Option Started → Bool
keeps_image steps rows None = true
keeps_image steps rows (Some s) = list_all (keeps_row steps rows) s.rows.items

-- the image of a window of this content
abbrev pub keeps_window : Content → Cpu → List ℕ → List Step → Window → Bool
keeps_window c cpu rows steps w = keeps_image steps rows (images_in c cpu w false)

abbrev pub keeps_second : Content → Cpu → List ℕ → List Step → Option Window → Bool
keeps_second c cpu rows steps None = true
keeps_second c cpu rows steps (Some w) = keeps_window c cpu rows steps w

abbrev pub is_second : Window → Option Window → Bool
is_second w None = false
is_second w (Some b) = is_same_window b w

-- the window is that of the unit's A or B
abbrev pub has_window : Window → SlotUnit → Bool
has_window w u = is_same_window u.a w || is_second w u.b

abbrev pub keeps_unit : Content → Cpu → Started → List Step → SlotUnit → Bool
keeps_unit c cpu image steps u =
    has_window image.window u
    || (keeps_window c cpu image.rows.items steps u.a
    && keeps_second c cpu image.rows.items steps u.b)

abbrev pub keeps_units : Content → Cpu → Started → List Step → Bool
keeps_units c cpu image steps = list_all (keeps_unit c cpu image steps) (boot_units_in c cpu)
