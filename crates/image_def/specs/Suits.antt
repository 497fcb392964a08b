-- Which blocks define an image for a processor (RP2350 Datasheet, chapter 5, "Image definitions";
-- this project's own where the datasheet is open).
use Rattle.std.specs.Prelude.{ℕ, Bool, false, ◌&&◌, ◌==◌, nat_le, List, reverse, Option, option_map, find, is_some}
use Rattle.std.specs.Option.{option_map_or}
use Rattle.pico_board.specs.declared.boot.Cpu.{Cpu}
use Rattle.pico_board.specs.declared.boot.Cpu.TheVariants.{Arm, Riscv}
use Rattle.block_codec.specs.declared.items.Item.{Item}
use Rattle.block_codec.specs.declared.kinds.TheConstants.{IMAGE_TYPE}
use Rattle.block_codec.specs.Items.{items_of}
use Rattle.block_codec.specs.Kinds.{item_of_kind}
use Rattle.block_codec.specs.Blocks.{BlockView, block_size}
use Rattle.image_def.specs.declared.images.TheConstants.{MOST_BLOCK_BYTES}
use Rattle.image_def.specs.Flags.{flags_of, image_kind, security_of, processor_of, chip_of}

-- the first IMAGE_TYPE item of a block, whatever its size is
abbrev pub image_type_of : BlockView → Option Item
image_type_of b = item_of_kind IMAGE_TYPE (items_of b.items)

abbrev pub has_image_type : BlockView → Bool
has_image_type b = is_some (image_type_of b)

-- the flags of a block's first IMAGE_TYPE item, where it has one
abbrev pub image_flags_of : BlockView → Option ℕ
image_flags_of b = option_map flags_of (image_type_of b)

-- the flags of an executable for the RP2350 and this processor, and for Arm a secure one
abbrev pub suits_flags : Cpu → ℕ → Bool
suits_flags Arm flags =
    image_kind flags == 1 && chip_of flags == 1 && processor_of flags == 0 && security_of flags == 2
suits_flags Riscv flags = image_kind flags == 1 && chip_of flags == 1 && processor_of flags == 1

-- a block suits a processor where it has at most 384 bytes and its first IMAGE_TYPE item says so
abbrev pub does_suit : Cpu → BlockView → Bool
does_suit cpu b =
    nat_le (block_size b) MOST_BLOCK_BYTES
    && option_map_or (suits_flags cpu) (image_flags_of b) false

-- the definition among the blocks of a loop, which is the last one that suits
abbrev pub last_suiting : Cpu → List BlockView → Option BlockView
last_suiting cpu blocks = find (does_suit cpu) (reverse blocks)
