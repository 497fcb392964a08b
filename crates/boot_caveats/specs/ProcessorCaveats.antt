-- Which images that a boot comes to are for the other processor, as functions.
use Rattle.std.specs.Prelude.{◌&&◌, not, Bool, if◌then◌else◌, List, [], ◌∷◌, ◌++◌, map, Option, Some, None, option_to_list, Result, is_ok}
use Rattle.std.specs.List.{filter_map, list_any}
use Rattle.pico_board.specs.declared.boot.Cpu.{Cpu}
use Rattle.pico_board.specs.declared.boot.BootKind.{BootKind}
use Rattle.pico_board.specs.declared.window.Window.{Window}
use Rattle.pico_board.specs.Content.{Content}
use Rattle.image_def.specs.declared.started.Started.{Started}
use Rattle.image_check.specs.declared.why.Why.{Why}
use Rattle.image_check.specs.Image.{image_at}
use Rattle.slot_choice.specs.declared.unit.Member.{Member}
use Rattle.slot_choice.specs.declared.unit.Member.TheVariants.{A, B}
use Rattle.boot_rules.specs.declared.decision.Decision.{Decision}
use Rattle.boot_rules.specs.Choosing.{boot_units_in, decision_in, order_of}
use Rattle.boot_rules.specs.Chosen.{is_member}
use Rattle.boot_reasons.specs.declared.looks.UnitReport.{UnitReport}
use Rattle.slot_caveats.specs.declared.caveat.Caveat.{Caveat}
use Rattle.slot_caveats.specs.declared.caveat.Caveat.TheVariants.{OtherProcessor}
use Rattle.slot_caveats.specs.Listing.{caveat_if}
use Rattle.boot_caveats.specs.ChoiceCaveats.{lacks_image, other_cpu, started_window}
use Rattle.boot_caveats.specs.ImageCaveats.{is_window}

-- a member of a unit that is looked at: its window, its image or why it has none that counts, and
-- whether a trial image is allowed in it
pub record LookedMember : Type 0 where
  pub window : Window
  pub image : Result Started Why
  pub trial : Bool

-- the second member of a unit, where it has one
abbrev pub second_looked : Bool → Option Window → Option (Result Started Why) → List LookedMember
second_looked trial None image = []
second_looked trial (Some w) None = []
second_looked trial (Some w) (Some image) =
    record { window = w; image = image; trial = trial } ∷ []

-- the members of a unit, of which one may be the updated one
abbrev pub members_of : UnitReport → Option Member → List LookedMember
members_of look updated =
    record { window = look.unit.a; image = look.first; trial = is_member updated A }
    ∷ second_looked (is_member updated B) look.unit.b look.second

-- the members of the units that are looked at, in the order of looking; one of the first unit may
-- be the updated one
abbrev pub looked_members : List UnitReport → Option Member → List LookedMember
looked_members [] updated = []
looked_members (look ∷ looks) updated = members_of look updated ++ looked_members looks None

-- the updated member of a boot
abbrev pub updated_in : Content → Cpu → BootKind → Option Member
updated_in c cpu kind = (order_of kind (boot_units_in c cpu)).updated

-- the window of a member without an image that counts, where it has one for the other processor,
-- with a trial image allowed where it is for the processor
abbrev pub other_window : Content → Cpu → LookedMember → Option Window
other_window c cpu m =
    if not (is_ok m.image) && is_ok (image_at c m.window (other_cpu cpu) m.trial)
    then Some m.window else None

-- the windows of such members
abbrev pub other_windows : Content → Cpu → List LookedMember → List Window
other_windows c cpu members = filter_map (other_window c cpu) members

-- a window that is none of these
abbrev pub other_among : List Window → Option Window → Option Caveat
other_among ws None = None
other_among ws (Some w) = caveat_if (not (list_any (is_window w) ws)) (OtherProcessor w)

-- no image starts, and for the other processor one would in a window that is none of these
abbrev pub other_start : Content → Cpu → BootKind → Decision → List Window → Option Caveat
other_start c cpu kind d ws =
    if lacks_image d
    then other_among ws (started_window (decision_in c (other_cpu cpu) kind))
    else None

-- first the windows of such members, and then that of the decision for the other processor
abbrev pub other_processors : Content → Cpu → BootKind → Decision → List LookedMember → List Caveat
other_processors c cpu kind d members =
    map OtherProcessor (other_windows c cpu members)
    ++ option_to_list (other_start c cpu kind d (other_windows c cpu members))
