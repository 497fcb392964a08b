-- Worked examples of choices.
use Rattle.std.specs.Prelude.{ℕ, Bool, None}
use Rattle.pico_board.specs.declared.window.Window.{Window}
use Rattle.block_codec.specs.declared.versions.Version.{Version}
use Rattle.image_def.specs.declared.started.Started.{Started}
use Rattle.image_def.specs.Examples.{started_in}
use Rattle.slot_choice.specs.declared.unit.Member.{Member}
use Rattle.slot_choice.specs.declared.choice.Choice.{Choice}

-- a version
abbrev pub version : ℕ → ℕ → Version
version major minor = record { major = major; minor = minor }

-- a window of thirty sectors
abbrev pub thirty_sectors_at : ℕ → Window
thirty_sectors_at start = record { start = start; len = 0x1e000 }

-- an image of a version in the window at 0x2000
abbrev pub an_image : ℕ → ℕ → Started
an_image major minor = record (started_in (thirty_sectors_at 0x2000) 0x100 0x104 0x10000201) {
  version = version major minor;
}

-- the start of an image of version 1.0 in a member
abbrev pub choice_in : Member → Bool → Choice
choice_in member updated =
    record { image = an_image 1 0; member = member; other = None; updated = updated }
