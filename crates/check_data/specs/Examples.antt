-- Worked windows, decisions and contents, which the examples of this crate take.
use Rattle.std.specs.Prelude.{ℕ, false, List, [], ◌∷◌, pos, Some, None}
use Rattle.pico_board.specs.declared.window.Window.{Window}
use Rattle.pico_board.specs.Content.{Content}
use Rattle.block_codec.specs.Blocks.{BlockView}
use Rattle.load_map.specs.declared.load.Load.{Load}
use Rattle.slot_choice.specs.Examples.{window_at}
use Rattle.boot_rules.specs.declared.decision.Decision.{Decision}
use Rattle.boot_rules.specs.declared.decision.Decision.TheVariants.{Start, Bootsel}
use Rattle.boot_rules.specs.declared.decision.Fall.TheVariants.{NoImage}
use Rattle.check_require.specs.declared.report.DataOwner.{DataOwner}
use Rattle.check_require.specs.declared.report.DataWritten.{DataWritten}
use Rattle.worked_flashes.specs.Choices.{starts_alone}
use Rattle.worked_flashes.specs.Images.{plain_image}
use Rattle.check_data.specs.declared.found.DataWindow.{DataWindow}

-- the start of an image in the first 256 bytes, which begins at this PC
abbrev pub start_at : ℕ → Decision
start_at pc = Start (starts_alone false (plain_image (window_at 0 256) pc false))

abbrev pub falls : Decision
falls = Bootsel NoImage

-- sectors 2, 4 and 6
abbrev pub second : Window
second = window_at 0x2000 0x1000

abbrev pub fourth : Window
fourth = window_at 0x4000 0x1000

abbrev pub sixth : Window
sixth = window_at 0x6000 0x1000

abbrev pub told : Window → DataOwner → DataWritten → DataWindow
told w owner written = record { window = w; of = owner; written = written }

-- a flash of these bytes
abbrev pub bytes : List ℕ → Content
bytes flash = record { flash = flash; otp = [] }

-- the two bytes from 1 on
abbrev pub window_of : DataOwner → DataWritten → DataWindow
window_of owner written = told (window_at 1 2) owner written

-- a block of 20 bytes at this offset
abbrev pub block_at : ℕ → BlockView
block_at x = record { at = x; items = 0 ∷ []; link = pos 0 }

-- a load of so many bytes, which are stored at this offset
abbrev pub load_at : ℕ → ℕ → Load
load_at x size = record { storage = Some x; runtime = 0; size = size }

-- a clear entry
abbrev pub clear : ℕ → Load
clear size = record { storage = None; runtime = 0; size = size }
