-- The members of boot units: units in table order, and A first.
use Rattle.std.specs.Prelude.{List, ◌∷◌}
use Rattle.std.specs.List.{flat_map}
use Rattle.pico_board.specs.declared.boot.Cpu.{Cpu}
use Rattle.pico_board.specs.declared.window.Window.{Window}
use Rattle.pico_board.specs.Content.{Content}
use Rattle.slot_choice.specs.declared.unit.SlotUnit.{SlotUnit}
use Rattle.boot_rules.specs.Choosing.{boot_units_in}
use Rattle.check_images.specs.Lines.{option_list}

-- the windows of a unit's members
abbrev pub unit_windows : SlotUnit → List Window
unit_windows u = u.a ∷ option_list u.b

-- the windows of the members of a content's boot units
abbrev pub members_in : Content → Cpu → List Window
members_in c cpu = flat_map unit_windows (boot_units_in c cpu)
