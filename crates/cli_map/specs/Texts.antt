-- The texts of the windows of a flash, as its picture shows them.
use Rattle.std.specs.Prelude.{ℕ, ◌==◌, if◌then◌else◌, Bool, true, false, List, [], ◌++◌, map, Option, Some, None, Result, Ok, Err, codes, decimal}
use Rattle.image_def.specs.declared.started.Started.{Started}
use Rattle.image_check.specs.declared.why.Why.{Why}
use Rattle.part_table.specs.declared.partition.Partition.{Partition}
use Rattle.part_table.specs.declared.table.Table.{Table}
use Rattle.part_table.specs.Partitions.{part_at}
use Rattle.slot_choice.specs.declared.unit.Member.{Member}
use Rattle.slot_choice.specs.declared.unit.Member.TheVariants.{A, B}
use Rattle.boot_rules.specs.declared.slots.SlotFault.{SlotFault}
use Rattle.boot_map.specs.declared.maps.FlashMap.{FlashMap}
use Rattle.boot_map.specs.declared.maps.MapRow.{MapRow}
use Rattle.boot_map.specs.declared.maps.Pairing.{Pairing}
use Rattle.boot_map.specs.declared.places.MapPlace.{MapPlace}
use Rattle.boot_map.specs.declared.places.MapPlace.TheVariants.{Slot, Partition as Part, Whole, Free}
use Rattle.boot_map.specs.Maps.{table_of_map}
use Rattle.boot_map.specs.Windows.{parts_of}
use Rattle.svg_map.specs.Maps.{MapBarView, window_span_text}
use Rattle.text_lines.specs.Faults.{why_text}
use Rattle.text_lines.specs.Texts.{rollback_text, version_text}
use Rattle.cli_explain.specs.Partitions.{families_text, name_text}
use Rattle.cli_explain.specs.Texts.{slot_text}

-- an image, or the first rule that it fails
abbrev pub found_words : Result Started Why → List ℕ
found_words (Ok s) =
    codes " " ++ (version_text s.version ++ (codes " rollback=" ++ rollback_text s.rollback))
found_words (Err why) = codes " fault=" ++ why_text why

-- the image of a window, where its row has one
abbrev pub image_words : Option (Result Started Why) → List ℕ
image_words None = []
image_words (Some image) = found_words image

-- a member of a pair
abbrev pub member_words : Member → List ℕ
member_words A = codes "A"
member_words B = codes "B"

-- the pair of a window, where it is a member of one
abbrev pub pair_words : Option Pairing → List ℕ
pair_words None = []
pair_words (Some pair) =
    codes " pair " ++ (member_words pair.member ++ (codes " with " ++ decimal pair.other))

-- a slot: what it has or lacks where the flash has a table, and its number alone where it has none
abbrev pub slot_words : Option Table → ℕ → Result Table SlotFault → List ℕ
slot_words None number answer = codes "slot " ++ decimal number
slot_words (Some t) number answer = slot_text number answer

-- a partition: its number, its name and its families
abbrev pub part_label : ℕ → Partition → List ℕ
part_label i p =
    codes "partition "
    ++ (decimal i ++ (codes " name=" ++ (name_text p.name
    ++ (codes " families=" ++ families_text p))))

-- what slot 0 or 1 has or lacks by the map
abbrev pub mapped_slot : FlashMap → ℕ → Result Table SlotFault
mapped_slot m number = if number == 0 then m.first else m.second

-- what a window is
abbrev pub place_words : FlashMap → MapPlace → List ℕ
place_words m (Slot number) = slot_words (table_of_map m) number (mapped_slot m number)
place_words m (Part i) = part_label i (part_at (parts_of (table_of_map m)) i)
place_words m Whole = codes "whole"
place_words m Free = codes "free"

-- what is said of a window, without the word of the one that a boot starts
unfoldable pub row_text : FlashMap → MapRow → List ℕ
row_text m row =
    window_span_text row.window
    ++ (codes " " ++ (place_words m row.place ++ (image_words row.image ++ pair_words row.pair)))

-- a window is a free stretch
abbrev pub is_free_stretch : MapPlace → Bool
is_free_stretch Free = true
is_free_stretch _ = false

-- what is drawn of a window
abbrev pub bar_of : FlashMap → MapRow → MapBarView
bar_of m row = record {
  window = row.window;
  words = row_text m row;
  free = is_free_stretch row.place;
  starts = row.starts;
}

-- what is drawn of the windows of a map, in their order
abbrev pub bars_of : FlashMap → List MapBarView
bars_of m = map (bar_of m) m.rows.items
