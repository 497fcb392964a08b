-- The values of the worked premises.
use Rattle.std.specs.Prelude.{ℕ, ◌*◌, ◌+◌, ◌==◌, Bool, false, true, if◌then◌else◌, pos, List, [], ◌∷◌, ◌++◌, replicate, Option, None, Some, Err}
use Rattle.pico_board.specs.declared.window.Window.{Window}
use Rattle.block_codec.specs.Blocks.{BlockView}
use Rattle.block_codec.specs.Words.{bytes_of}
use Rattle.load_map.specs.declared.load.Load.{Load}
use Rattle.sector_pool.specs.Pool.{Pool, erased}
use Rattle.part_table.specs.declared.target.Target.{Target}
use Rattle.slot_choice.specs.declared.unit.SlotUnit.{SlotUnit}
use Rattle.slot_choice.specs.Examples.{the_pair, window_at, pair_unit}
use Rattle.image_def.specs.Examples.{arm_def}
use Rattle.image_def.specs.declared.started.Started.{Started}
use Rattle.image_check.specs.declared.examining.Defined.{Defined}
use Rattle.image_check.specs.Examples.{map_of}
use Rattle.image_check.specs.declared.why.Why.TheVariants.{NoBlock}
use Rattle.boot_rules.specs.Changes.{Images}
use Rattle.boot_reasons.specs.declared.looks.UnitReport.{UnitReport}
use Rattle.uf2_place.specs.declared.block.Uf2.{Uf2}
use Rattle.uf2_place.specs.declared.current.Current.{Current}
use Rattle.uf2_place.specs.Accepting.{DownloadView}
use Rattle.boot_sweep.specs.declared.slots.Slot.{Slot}
use Rattle.pico_board.specs.declared.boot.Cpu.TheVariants.{Arm}
use Rattle.pico_board.specs.declared.Step.{Step}
use Rattle.pico_board.specs.declared.Step.TheVariants.{Erase}
use Rattle.pico_board.specs.Content.{Content}
use Rattle.pico_board.specs.Steps.{after}
use Rattle.trial_buy.specs.Buying.{cleared_sector, page_program, trial_place}
use Rattle.boot_machine.specs.Machines.{FromFlash, MachineView, Off, Running}
use Rattle.worked_flashes.specs.Flashes.{framed, region, whole_flash_of}
use Rattle.worked_flashes.specs.Choices.{running_trial, to}
use Rattle.worked_flashes.specs.Images.{arm_type, hash_of_four, in_b, plain_image, stored_digest, trial_type, window_with}
use Rattle.worked_flashes.specs.Writes.{slot}

-- a block of a download of two, of rp2350-arm-s, with a page of zeros
abbrev pub block_of_two : ℕ → Uf2
block_of_two number = record {
  flags = 0x2000;
  address = 0x10000000 + 256 * number;
  number = number;
  count = 2;
  family = 0xe48bff59;
  page = replicate 256 0;
}

abbrev pub first_of_two : Uf2
first_of_two = block_of_two 0

abbrev pub second_of_two : Uf2
second_of_two = block_of_two 1

-- what is kept of that download after its first block
abbrev pub current_of_two : Current
current_of_two = record {
  family = 0xe48bff59;
  count = 2;
  target = to slot false false;
  left = 1;
  held = None;
}

-- a unit in which no image stands
abbrev pub bare_report : UnitReport
bare_report = record {
  unit = the_pair;
  first = Err NoBlock;
  second = Some (Err NoBlock);
  taken = None;
}

-- no image in any window
abbrev pub no_images : Images
no_images w trial = None

-- the window of the B of the worked pair
abbrev pub second_window : Window
second_window = window_at 0x20000 0x1e000

-- an image in that window alone
abbrev pub images_with_second : Images
images_with_second w trial = if w.start == 0x20000 then Some (in_b 1 10 false) else None

-- the pair of data of the worked table, as a unit
abbrev pub owned_second : Window
owned_second = window_at 0x1a000 0x8000

abbrev pub owned_unit : SlotUnit
owned_unit = pair_unit (window_at 0x12000 0x8000) 2 owned_second 3

-- a window of two pages: the first has bytes 7, and the second bytes of this value
abbrev pub two_pages : ℕ → List ℕ
two_pages second = replicate 256 7 ++ replicate 256 second

-- the bytes of a window with one block, at offset 8, and a block there that has another link
abbrev pub one_block_window : List ℕ
one_block_window = window_with 0x10000201 (arm_type ∷ []) 0

abbrev pub linked_block : BlockView
linked_block = record { at = 8; items = arm_type ∷ []; link = pos 256 }

-- a pool of two free sectors
abbrev pub free_pool : Pool
free_pool = record { out = false ∷ false ∷ []; sectors = erased ∷ erased ∷ [] }

-- a download of two blocks after its first one: number 0 is taken, and sector 32 is erased
abbrev pub begun_download : DownloadView
begun_download = record {
  current = Some current_of_two;
  marks = record { numbers = 1 ∷ []; sectors = 0x100000000 ∷ [] };
}

-- no download
abbrev pub no_download : DownloadView
no_download = record { current = None; marks = record { numbers = []; sectors = [] } }

-- the second slot of the worked pair, in a flash with a table
abbrev pub swept_slot : Slot
swept_slot = record { window = slot; has_table = true }

-- a flash of two sectors with a trial image
abbrev pub trial_flash : Content
trial_flash = whole_flash_of (region 0x1000 (0x20082000 ∷ 0x20000001 ∷ framed (trial_type ∷ []) 0))

-- the items of an image that loads the eight bytes of its vector table, and has their digest where
-- the PC is 0x20000001
abbrev pub digested_items : List ℕ
digested_items = arm_type ∷ (map_of 0xfffffff0 0x10000000 8 ++ hash_of_four stored_digest)

-- a flash of two sectors with those items behind a vector table with this PC
abbrev pub digested_flash : ℕ → Content
digested_flash pc = whole_flash_of (region 0x1000 (0x20082000 ∷ pc ∷ framed digested_items 0))

-- the image as it starts, its definition, and what it loads
abbrev pub digested_image : Started
digested_image = plain_image (window_at 0 0x2000) 0x20000001 false

abbrev pub digested_definition : Defined
digested_definition = record {
  block = record { at = 8; items = digested_items; link = pos 0 };
  def = record arm_def {
    map_item = Some 1;
    hash_words = 4;
    digest = Some (bytes_of stored_digest);
  };
}

abbrev pub vector_load : Load
vector_load = record { storage = Some 0; runtime = 0x10000000; size = 8 }

-- the machine that runs the trial image, on a board that tells that no cut is armed
abbrev pub trial_machine : MachineView
trial_machine = record {
  content = trial_flash;
  armed = Some None;
  cpu = Arm;
  place = Running (FromFlash running_trial);
}

-- that machine with a cut armed before the second step that follows
abbrev pub armed_machine : MachineView
armed_machine = record {
  content = trial_flash;
  armed = Some (Some (record { left = 1; within = false; pattern = [] }));
  cpu = Arm;
  place = Running (FromFlash running_trial);
}

-- that step of its buy: the program of the first page, after the erase of its sector
abbrev pub first_program : Step
first_program =
    page_program 0 (cleared_sector trial_flash.flash (trial_place running_trial.image)) 0

-- the machine without power, with its first sector erased
abbrev pub lost_machine : MachineView
lost_machine = record {
  content = after trial_flash (Erase 0);
  armed = Some None;
  cpu = Arm;
  place = Off;
}
