-- The data windows of a started image: `data_of`.
use Rattle.std.specs.Prelude.{ℕ, Bool, true, false, ◌==◌, ◌&&◌, List, [], map, position, Option, Some, None, option_and_then}
use Rattle.pico_board.specs.declared.window.Window.{Window}
use Rattle.pico_board.specs.Windows.{is_same_window}
use Rattle.part_table.specs.declared.partition.Partition.{Partition}
use Rattle.part_table.specs.declared.table.Table.{Table}
use Rattle.part_table.specs.Windows.{part_window, partition_window}
use Rattle.slot_choice.specs.declared.unit.Member.{Member}
use Rattle.slot_choice.specs.declared.unit.Member.TheVariants.{A, B}
use Rattle.slot_choice.specs.declared.choice.Choice.{Choice}
use Rattle.owner_data.specs.Owners.{data_parts}

-- the window of the started unit's A
abbrev pub first_window : Choice → Member → Option Window
first_window choice A = Some choice.image.window
first_window choice B = choice.other

-- a partition is this window
abbrev pub has_window : Window → Partition → Bool
has_window w p = is_same_window (part_window p) w

-- the partition that is the started unit's A
abbrev pub started_part : Table → Choice → Option ℕ
started_part t choice = option_and_then (λ w. position (has_window w) t.parts.items)
    (first_window choice choice.member)

-- B is asked for
abbrev pub is_second_member : Member → Bool
is_second_member A = false
is_second_member B = true

-- the windows of the data of an owner, if there is one
abbrev pub owner_windows : Table → Bool → Option ℕ → List Window
owner_windows t second None = []
owner_windows t second (Some owner) =
    map (partition_window t) (data_parts t.parts.items owner second)

-- the data windows of a started image, in table order, of each partition whose owner is the A of
-- the started unit. It is the window of the partition's B where B was started and there is one, and
-- its own otherwise. Without a table there are none
abbrev pub data_of : Option Table → Choice → List Window
data_of None choice = []
data_of (Some t) choice = owner_windows t (is_second_member choice.member) (started_part t choice)
