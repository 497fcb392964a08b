-- A worked script: a host writes an image into the second slot of a small pair.
use Rattle.std.specs.Prelude.{List, [], ◌∷◌, ◌++◌}
use Rattle.pico_board.specs.declared.boot.BootKind.TheVariants.{Bootsel}
use Rattle.boot_script.specs.Events.{EventView}
use Rattle.script_plan.specs.Commands.{erase_cmd, sent, write_cmd}
use Rattle.worked_flashes.specs.Flashes.{block_page, data_page, vector_page}

-- power comes back, BOOTSEL is entered, and the slot's first sector is erased and written: version
-- 1.10 without a load map, and behind it a page of other bytes
abbrev pub small_script : List EventView
small_script =
    EventView.PowerOn ∷ EventView.Reset Bootsel ∷ sent (erase_cmd 1 0x4000 0x1000) []
    ∷ sent (write_cmd 2 0x4000 0x300) (vector_page ++ (block_page 0x0001000a ++ data_page)) ∷ []
