-- What is to be looked up of the partitions of the table of the flash, as functions.
use Rattle.std.specs.Prelude.{ℕ, ◌&&◌, ◌||◌, not, Bool, false, List, [], length, slice_get, Option, Some, None, option_and_then}
use Rattle.std.specs.List.{filter_map, range_with_len}
use Rattle.std.specs.Option.{option_map_or}
use Rattle.pico_board.specs.declared.boot.Cpu.TheVariants.{Arm, Riscv}
use Rattle.pico_board.specs.declared.window.Window.{Window}
use Rattle.part_table.specs.declared.partition.Partition.{Partition}
use Rattle.part_table.specs.declared.table.Table.{Table}
use Rattle.part_table.specs.Fields.{has_bit, is_ignored, link_value}
use Rattle.part_table.specs.Links.{is_owned, is_second}
use Rattle.part_table.specs.Partitions.{part_at}
use Rattle.part_table.specs.Windows.{part_window}
use Rattle.boot_rules.specs.declared.decision.Decision.{Decision}
use Rattle.slot_caveats.specs.declared.caveat.Caveat.{Caveat}
use Rattle.slot_caveats.specs.declared.caveat.Caveat.TheVariants.{IgnoreFlags, NoRead}
use Rattle.slot_caveats.specs.Listing.{caveat_if}
use Rattle.boot_caveats.specs.ChoiceCaveats.{started_window}
use Rattle.boot_caveats.specs.ImageCaveats.{is_window}
use Rattle.slot_caveats.specs.TableCaveats.{is_same_flag}

-- one of the two ignore flags of a partition, for Arm and for RISC-V, differs from the other
-- partition's
abbrev pub differs_in_ignores : Partition → Partition → Bool
differs_in_ignores p q =
    not (is_same_flag (is_ignored Arm p) (is_ignored Arm q))
    || not (is_same_flag (is_ignored Riscv p) (is_ignored Riscv q))

-- a partition is the B of this one, which has no owner, and their ignore flags differ
abbrev pub has_other_ignores : Partition → Partition → Bool
has_other_ignores p first = is_second p && (not (is_owned first) && differs_in_ignores p first)

abbrev pub ignore_flags : List Partition → ℕ → Option Caveat
ignore_flags parts i =
    option_and_then
    (λ first. caveat_if (has_other_ignores (part_at parts i) first) (IgnoreFlags i))
    (slice_get parts (link_value (part_at parts i)))

-- a partition's location word has the right of secure read: bit 26 (RP2350 Datasheet, chapter 5,
-- "Partition permissions")
abbrev pub is_readable : Partition → Bool
is_readable p = has_bit p.location 26

-- the decision is a start in a window
abbrev pub starts_at : Decision → Window → Bool
starts_at d w = option_map_or (is_window w) (started_window d) false

-- the decision is a start in a partition that lacks this right
abbrev pub no_read : Decision → List Partition → ℕ → Option Caveat
no_read d parts i =
    caveat_if
    (starts_at d (part_window (part_at parts i)) && not (is_readable (part_at parts i)))
    (NoRead i)

-- the caveats of the partitions of the table of the flash, where there is one
abbrev pub of_parts : (List Partition → ℕ → Option Caveat) → Option Table → List Caveat
of_parts told None = []
of_parts told (Some t) =
    filter_map (told t.parts.items) (range_with_len 0 (length t.parts.items))
