-- The map of a flash as a function of its content.
use Rattle.std.specs.Prelude.{ℕ, ◌==◌, ◌&&◌, not, Bool, true, false, if◌then◌else◌, List, length, map, is_some, option_map, Option, Some, None, Result}
use Rattle.std.specs.Result.{result_ok}
use Rattle.pico_board.specs.declared.boot.Cpu.{Cpu}
use Rattle.pico_board.specs.declared.boot.BootKind.TheVariants.{Normal}
use Rattle.pico_board.specs.declared.window.Window.{Window}
use Rattle.pico_board.specs.Windows.{is_same_window}
use Rattle.pico_board.specs.Content.{Content}
use Rattle.image_def.specs.declared.started.Started.{Started}
use Rattle.image_check.specs.declared.why.Why.{Why}
use Rattle.image_check.specs.Image.{image_at}
use Rattle.otp_roll.specs.Flags.{slot_size}
use Rattle.part_table.specs.declared.partition.Partition.{Partition}
use Rattle.part_table.specs.declared.table.Table.{Table}
use Rattle.part_table.specs.Fields.{link_value}
use Rattle.part_table.specs.Links.{is_second, pair_of}
use Rattle.part_table.specs.Partitions.{part_at}
use Rattle.slot_choice.specs.declared.unit.Member.{Member}
use Rattle.slot_choice.specs.declared.unit.Member.TheVariants.{A, B}
use Rattle.boot_rules.specs.declared.decision.Decision.{Decision}
use Rattle.boot_rules.specs.declared.decision.Decision.TheVariants.{Start, Bootsel}
use Rattle.boot_rules.specs.Choosing.{decision_in}
use Rattle.boot_rules.specs.Tables.{slot_answer_in, table_of_content}
use Rattle.boot_reasons.specs.Reasons.{table_in_force_in}
use Rattle.boot_reasons.specs.Slots.{taken_table}
use Rattle.boot_map.specs.declared.maps.FlashMap.{FlashMap}
use Rattle.boot_map.specs.declared.maps.MapRow.{MapRow}
use Rattle.boot_map.specs.declared.maps.Pairing.{Pairing}
use Rattle.boot_map.specs.declared.places.MapWindow.{MapWindow}
use Rattle.boot_map.specs.declared.places.MapPlace.{MapPlace}
use Rattle.boot_map.specs.declared.places.MapPlace.TheVariants.{Slot, Partition as Part, Whole, Free}
use Rattle.boot_map.specs.Windows.{map_windows}

-- a window has an image or a fault where it is one of these: a partition, the whole flash, or a
-- slot of a flash without a table
abbrev pub has_image : Option Table → MapPlace → Bool
has_image t (Slot number) = not (is_some t)
has_image t (Part i) = true
has_image t Whole = true
has_image t Free = false

-- the image of a window, trial not allowed, or why there is none
abbrev pub row_image : Content → Cpu → Option Table → MapWindow → Option (Result Started Why)
row_image c cpu t m =
    if has_image t m.place then Some (image_at c m.window cpu false) else None

-- a member of a pair, and the other one
abbrev pub paired : Member → ℕ → Pairing
paired m j = record { member = m; other = j }

-- the pair of partition i: it is B of the A that its link names, or A of its B
abbrev pub part_pairing : List Partition → ℕ → Option Pairing
part_pairing parts i =
    if is_second (part_at parts i) then Some (paired B (link_value (part_at parts i)))
    else option_map (paired A) (pair_of parts i)

-- the pair of a slot where there is no table
abbrev pub slot_pairing : ℕ → Pairing
slot_pairing number = if number == 0 then paired A 1 else paired B 0

-- the pair of what a window is
abbrev pub pairing : Option Table → MapPlace → Option Pairing
pairing None (Slot number) = Some (slot_pairing number)
pairing None (Part i) = None
pairing None Whole = None
pairing None Free = None
pairing (Some t) (Slot number) = None
pairing (Some t) (Part i) = part_pairing t.parts.items i
pairing (Some t) Whole = None
pairing (Some t) Free = None

abbrev pub starts : Decision → Window → Bool
starts (Start choice) w = is_same_window choice.image.window w
starts (Bootsel fall) w = false

-- the row of a window
abbrev pub row_of : Content → Cpu → Option Table → Decision → MapWindow → MapRow
row_of c cpu t d m = record {
  place = m.place;
  window = m.window;
  image = row_image c cpu t m;
  pair = pairing t m.place;
  starts = starts d m.window;
}

-- the windows of a content
abbrev pub map_windows_in : Content → List MapWindow
map_windows_in c =
    map_windows (table_of_content c) (length c.flash) (slot_size c.otp (length c.flash))

-- the rows of a content's map, one for each of its windows
abbrev pub map_rows_in : Content → Cpu → List MapRow
map_rows_in c cpu =
    map (row_of c cpu (table_of_content c) (decision_in c cpu Normal)) (map_windows_in c)

-- the map of a content's flash
unfoldable pub map_in : Content → Cpu → FlashMap
map_in c cpu = record {
  decision = decision_in c cpu Normal;
  first = slot_answer_in c 0;
  second = slot_answer_in c 1;
  table = table_in_force_in c;
  rows = record { items = map_rows_in c cpu };
}

-- the table of the flash by its map
abbrev pub table_of_map : FlashMap → Option Table
table_of_map m = taken_table m.table (result_ok m.first) (result_ok m.second)
