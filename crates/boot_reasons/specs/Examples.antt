-- Tables and images of the worked examples.
use Rattle.std.specs.Prelude.{ℕ, Bool, []}
use Rattle.pico_board.specs.declared.window.Window.{Window}
use Rattle.block_codec.specs.declared.versions.Version.{Version}
use Rattle.image_def.specs.declared.started.Started.{Started}
use Rattle.image_def.specs.Examples.{started_in}
use Rattle.part_table.specs.declared.table.Table.{Table}

abbrev pub example_version : ℕ → ℕ → Version
example_version major minor = record { major = major; minor = minor }

-- a table of this version without partitions
abbrev pub example_table : ℕ → ℕ → Bool → Table
example_table major minor singleton = record {
  version = example_version major minor;
  singleton = singleton;
  unpartitioned = 0;
  parts = record { items = [] };
}

-- the windows of A and B
abbrev pub window_of_a : Window
window_of_a = record { start = 0x2000; len = 0x2000 }

abbrev pub window_of_b : Window
window_of_b = record { start = 0x4000; len = 0x2000 }

-- an image of this version in a window
abbrev pub example_image : Window → ℕ → ℕ → Started
example_image w major minor = record (started_in w 0x100 0x104 0x10000201) {
  version = example_version major minor;
}
