-- Windows, images, tables, decisions and commands of the worked examples.
use Rattle.std.specs.Prelude.{ℕ, ◌-◌, ◌^◌, [], ◌∷◌, replicate, Option, Some, None, Bool, true, false}
use Rattle.pico_board.specs.declared.window.Window.{Window}
use Rattle.part_table.specs.declared.partition.Partition.{Partition}
use Rattle.image_def.specs.declared.started.Started.{Started}
use Rattle.image_def.specs.Examples.{started_in}
use Rattle.slot_choice.specs.declared.choice.Choice.{Choice}
use Rattle.slot_choice.specs.declared.unit.Member.TheVariants.{A}
use Rattle.picoboot_cmd.specs.declared.cmd.Cmd.{Cmd}
use Rattle.boot_rules.specs.declared.decision.Decision.{Decision}
use Rattle.boot_rules.specs.declared.decision.Decision.TheVariants.{Start}
use Rattle.boot_rules.specs.declared.tables.Found.{Found}

-- an image in this window, with its block there, of this version, rollback version and trial bit
abbrev pub image_in : ℕ → ℕ → ℕ → ℕ → ℕ → Option ℕ → Bool → Started
image_in start len block major minor rollback trial =
    record (started_in (record { start = start; len = len }) block block 0x10000201) {
      version = record { major = major; minor = minor };
      rollback = rollback;
      trial = trial;
    }

-- an image of 28 bytes in RAM
abbrev pub ram_image : Started
ram_image = started_in (record { start = 0x20000000; len = 28 }) 8 12 0x20000021

-- the choice of an image
abbrev pub example_choice : Started → Choice
example_choice image = record { image = image; member = A; other = None; updated = false }

-- the start of an image
abbrev pub start_of : Started → Decision
start_of image = Start (example_choice image)

-- an image whose text is the longest
abbrev pub widest : Started
widest = record {
  window = record { start = 2 ^ 32 - 1; len = 2 ^ 32 - 1 };
  block = 2 ^ 32 - 1;
  image_at = 2 ^ 32 - 1;
  pc = 2 ^ 32 - 1;
  sp = 2 ^ 32 - 1;
  limit = 2 ^ 32 - 1;
  version = record { major = 2 ^ 16 - 1; minor = 2 ^ 16 - 1 };
  rollback = Some (2 ^ 16 - 1);
  rows = record { items = [] };
  trial = true;
}

-- a command of this id and token
abbrev pub command : ℕ → ℕ → Cmd
command id token =
    record { token = token; id = id; arg_size = 0; transfer = 0; args = replicate 16 0 }

-- the window of a flash of 8192 bytes
abbrev pub small_window : Window
small_window = record { start = 0; len = 0x2000 }

-- an image there of this version, rollback version and trial bit
abbrev pub example_image : ℕ → ℕ → Option ℕ → Bool → Started
example_image major minor rollback trial = record (started_in small_window 0x114 0x118 0x10000201) {
  version = record { major = major; minor = minor };
  rollback = rollback;
  trial = trial;
}

abbrev pub example_part : Partition
example_part =
    record { location = 0; flags = 0; id = None; families = record { items = [] }; name = None }

-- a table of version 1.9 with two partitions, in slot 1
abbrev pub example_found : Found
example_found = record {
  slot = 1;
  table = record {
    version = record { major = 1; minor = 9 };
    singleton = false;
    unpartitioned = 0;
    parts = record { items = example_part ∷ example_part ∷ [] };
  };
}
