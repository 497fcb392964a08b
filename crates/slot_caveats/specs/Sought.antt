-- What is sought among the blocks of a loop.
use Rattle.std.specs.Prelude.{◌&&◌, nat_lt, Bool, false}
use Rattle.std.specs.Option.{option_map_or}
use Rattle.pico_board.specs.declared.boot.Cpu.{Cpu}
use Rattle.block_codec.specs.Blocks.{BlockView, block_size}
use Rattle.image_def.specs.declared.images.TheConstants.{MOST_BLOCK_BYTES}
use Rattle.image_def.specs.Suits.{does_suit, image_flags_of, suits_flags}
use Rattle.part_table.specs.TableOf.{has_table}
use Rattle.slot_caveats.specs.declared.seeking.Sought.{Sought}
use Rattle.slot_caveats.specs.declared.seeking.Sought.TheVariants.{Definition, LongDefinition, Table, Executable}
use Rattle.slot_caveats.specs.SlotCaveats.{is_executable}

-- a block has more than 384 bytes, and would suit the processor if it were shorter (RP2350
-- Datasheet, chapter 5, "Image definitions"; what a longer one is to the chip is to be looked up)
abbrev pub is_long_definition : Cpu → BlockView → Bool
is_long_definition cpu b =
    nat_lt MOST_BLOCK_BYTES (block_size b)
    && option_map_or (suits_flags cpu) (image_flags_of b) false

-- a block is what is sought
abbrev pub is_sought : Sought → BlockView → Bool
is_sought (Definition cpu) b = does_suit cpu b
is_sought (LongDefinition cpu) b = is_long_definition cpu b
is_sought Table b = has_table b
is_sought Executable b = is_executable b
