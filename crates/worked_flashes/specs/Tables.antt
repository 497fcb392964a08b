-- The worked windows, tables, units and blocks of the crates below. The examples of several crates
-- take them from here.
pub use Rattle.pico_board.specs.Examples.{window_at}
pub use Rattle.part_table.specs.Examples.{guarded_table, named_table, one_part, owned_items, owned_table, pair_items, pair_table, pair_version, plain_partition, sectors, three_parts, two_parts}
pub use Rattle.slot_choice.specs.Examples.{lone_unit, pair_unit, small_pair, the_pair, three_table, unit_one, unit_two}
pub use Rattle.image_def.specs.Examples.{arm_block, arm_def, full_block, full_def}
