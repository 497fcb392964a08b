-- How the addresses of images in flash and of images in RAM are read.
use Rattle.std.specs.Prelude.{ℕ, true, false}
use Rattle.pico_board.specs.Content.{flash_base}
use Rattle.image_check.specs.declared.addressing.Addressing.{Addressing}

-- an image in flash sees its window from 0x10000000 on, and may load entries into SRAM
abbrev pub in_flash : Addressing
in_flash = record { base = flash_base; in_place = false }

-- an image in RAM sees its window where it stands, and uses each entry there
abbrev pub in_ram : ℕ → Addressing
in_ram base = record { base = base; in_place = true }
