-- The slot that a session writes: the member of a pair that its first step lies in.
use Rattle.std.specs.Prelude.{◌≡◌, ℕ, ◌+◌, ◌*◌, ◌&&◌, nat_le, Bool, false, if◌then◌else◌, List, [], ◌∷◌, Option, Some, None}
use Rattle.std.specs.Option.{option_or}
use Rattle.pico_board.specs.declared.Step.{Step}
use Rattle.pico_board.specs.declared.step.Step.TheVariants.{Erase, Program, Raise}
use Rattle.pico_board.specs.declared.boot.Cpu.{Cpu}
use Rattle.pico_board.specs.declared.window.Window.{Window}
use Rattle.pico_board.specs.Content.{Content}
use Rattle.pico_board.specs.Sessions.{IsConfined}
use Rattle.slot_choice.specs.declared.unit.SlotUnit.{SlotUnit}
use Rattle.boot_rules.specs.Choosing.{boot_units_in}
use Rattle.boot_rules.specs.Chosen.{IsBootMember}

-- the window is that of a member of a pair, and the first step's range lies in it
pub record IsSlot (c : Content) (cpu : Cpu) (steps : List Step) (w : Window) : Type 0 where
  pub boot_member : IsBootMember c w cpu
  pub first : Step
  pub others : List Step
  pub whole : steps ≡ first ∷ others
  pub holds : IsConfined w first

-- the step is an erase or a program whose range lies in the window
abbrev pub is_confined : Window → Step → Bool
is_confined w (Erase s) = nat_le w.start (4096 * s) && nat_le (4096 * s + 4096) (w.start + w.len)
is_confined w (Program p d) = nat_le w.start (256 * p) && nat_le (256 * p + 256) (w.start + w.len)
is_confined w (Raise r b) = false

-- the member of a unit in which the step lies, where the unit is a pair
abbrev pub slot_in_unit : Window → Option Window → Step → Option Window
slot_in_unit a None step = None
slot_in_unit a (Some b) step =
    if is_confined a step then Some a else if is_confined b step then Some b else None

-- the member in which the step lies, of the first of the units that is a pair with such a member
abbrev pub slot_among : List SlotUnit → Step → Option Window
slot_among [] step = None
slot_among (unit ∷ units) step = option_or (slot_in_unit unit.a unit.b step) (slot_among units step)

-- the slot of steps on a flash with these boot units
abbrev pub slot_of : List SlotUnit → List Step → Option Window
slot_of units [] = None
slot_of units (step ∷ steps) = slot_among units step

-- the slot of a session on a content
abbrev pub session_slot : Content → Cpu → List Step → Option Window
session_slot c cpu steps = slot_of (boot_units_in c cpu) steps

-- the step lies in the slot, where there is one
abbrev pub is_in_slot : Option Window → Step → Bool
is_in_slot None step = false
is_in_slot (Some w) step = is_confined w step

-- the first of the steps that does not lie in the slot, by its number; the first one's is k
abbrev pub outside_from : ℕ → Option Window → List Step → Option ℕ
outside_from k slot [] = None
outside_from k slot (step ∷ steps) =
    if is_in_slot slot step then outside_from (k + 1) slot steps else Some k
