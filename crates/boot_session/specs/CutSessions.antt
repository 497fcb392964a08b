-- Sessions on one slot of a pair in which power is lost, and what a normal boot decides after
-- them.
use Rattle.std.specs.Prelude.{◌≡◌, ◌≢◌, ⊤, ℕ, false, List, None, Some, slice_get}
use Rattle.pico_board.specs.declared.Step.{Step}
use Rattle.pico_board.specs.declared.boot.Cpu.{Cpu}
use Rattle.pico_board.specs.declared.boot.BootKind.TheVariants.{Normal}
use Rattle.pico_board.specs.declared.window.Window.{Window}
use Rattle.pico_board.specs.Content.{Content, IsContent}
use Rattle.pico_board.specs.Sessions.{Confined, Gated, Unfinished}
use Rattle.pico_board.specs.Steps.{CutOf, MayLeave, after_all}
use Rattle.image_check.specs.SameImage.{SameImage}
use Rattle.image_check.specs.Valid.{Valid}
use Rattle.slot_choice.specs.declared.choice.Choice.{Choice}
use Rattle.slot_choice.specs.declared.unit.SlotUnit.{SlotUnit}
use Rattle.slot_choice.specs.Units.{IsMember}
use Rattle.boot_rules.specs.declared.decision.Decision.{Decision}
use Rattle.boot_rules.specs.declared.decision.Decision.TheVariants.{Start, Bootsel}
use Rattle.boot_rules.specs.Choosing.{boot_units_in}
use Rattle.boot_rules.specs.Chosen.{Chosen, IsBootMember}
use Rattle.boot_rules.specs.Tables.{table_in}
use Rattle.boot_rules.specs.AccidentalImages.{HasNoAccidentalImage}

-- the decision is no start of an image in the window
abbrev pub StartsOutside : Window → Decision → Type 0
StartsOutside w (Start choice) = choice.image.window ≢ w
StartsOutside w (Bootsel fall) = ⊤

-- a normal boot on d starts an image of the window, which is valid there with trial not allowed
pub record StartsThere (d : Content) (w : Window) (cpu : Cpu) : Type 0 where
  pub choice : Choice
  pub chosen : Chosen d cpu Normal (Start choice)
  pub there : choice.image.window ≡ w
  pub valid : Valid d w cpu false choice.image

-- a normal boot on d makes the same start as one on z, and the image has the same bytes in both
pub record StartsFinished (z d : Content) (cpu : Cpu) : Type 0 where
  pub choice : Choice
  pub here : Chosen d cpu Normal (Start choice)
  pub after : Chosen z cpu Normal (Start choice)
  pub same : SameImage d z choice.image cpu

-- a gated session on the content c writes one slot w of a pair, and power is lost in it, which
-- leaves d. The decision e of a normal boot on c starts no image of the slot (elsewhere). The
-- whole session leaves the table that there was, or leaves none (same table). Where d is
-- unfinished, it has the former table and no accidental image in the slot.
pub record CutSession (c : Content) (w : Window) (cpu : Cpu) (steps : List Step) (d : Content)
    (e : Decision) : Type 0 where
  pub right : IsContent c
  pub boot_member : IsBootMember c w cpu
  pub gated : Gated steps w
  pub cut : CutOf c steps d
  pub former : Chosen c cpu Normal e
  pub elsewhere : StartsOutside w e
  pub table : table_in (after_all c steps) ≡ table_in c
  pub no_accident : Unfinished c steps w d → HasNoAccidentalImage c (after_all c steps) d w cpu

-- a session on the content c writes only one slot w of a pair. It is done, or power is lost in it,
-- and leaves d. The decision e of a normal boot on c starts no image of the slot (elsewhere).
-- Where c has no table, d has none (no new table). That d has no accidental image in the slot is
-- not asked.
pub record ConfinedSession (c : Content) (w : Window) (cpu : Cpu) (steps : List Step) (d : Content)
    (e : Decision) : Type 0 where
  pub right : IsContent c
  pub boot_member : IsBootMember c w cpu
  pub confined : Confined steps w
  pub leaves : MayLeave c steps d
  pub former : Chosen c cpu Normal e
  pub elsewhere : StartsOutside w e
  pub table : table_in c ≡ None → table_in d ≡ None

-- the window is no member of a boot unit
abbrev pub IsInNoUnit : Content → Cpu → Window → Type 0
IsInNoUnit c cpu w = (k : ℕ) (u : SlotUnit) (x : Window)
    → slice_get (boot_units_in c cpu) k ≡ Some u → IsMember u x → x ≢ w
