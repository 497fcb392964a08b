-- Worked boots and buys that raise rows, worked out by hand from the rules.
use Rattle.std.specs.Prelude.{ℕ, Some, None, true, false, List, [], ◌∷◌, ◌++◌}
use Rattle.pico_board.specs.declared.boot.Cpu.TheVariants.{Arm}
use Rattle.pico_board.specs.declared.boot.BootKind.TheVariants.{Normal, Update}
use Rattle.pico_board.specs.Content.{Content}
use Rattle.slot_choice.specs.declared.choice.Choice.{Choice}
use Rattle.slot_choice.specs.Examples.{window_at}
use Rattle.worked_flashes.specs.Choices.{starts_alone}
use Rattle.worked_flashes.specs.Flashes.{framed, region}
use Rattle.worked_flashes.specs.Tables.{sectors, three_parts}
use Rattle.boot_script.specs.Events.{EventView, Buy, PowerOn, Reset}
use Rattle.boot_machine.specs.Machines.{MachineView, Running, FromFlash}
use Rattle.check_laws.specs.OwnLaws.{BootMade, BuyMade}
use Rattle.law_boot_cuts.specs.Examples.{rows_image, rows_sector, three_raises, triple_rows, typed_sector}
use Rattle.law_boot_cuts.specs.Running.{buys}

-- a flash of five sectors: a table of three partitions of one sector each, and in these an image
-- whose definition begins with this IMAGE_TYPE word, of this rollback version with row 0x0c0, and
-- two of rollback version 0 with the row after that triple; the triple of row 0x0c0 has these
-- values
abbrev pub rising_flash : ℕ → ℕ → ℕ → ℕ → ℕ → Content
rising_flash image_type version a b c = record {
  flash = region 0x2000 (framed (three_parts (sectors 2 2) 0xfc000000 (sectors 3 3) 0xfc000000
      (sectors 4 4) 0xfc000000) 0)
      ++ (typed_sector image_type version 0x0c0 ++ (rows_sector 0 0x0c3 ++ rows_sector 0 0x0c3));
  otp = triple_rows a b c;
}

-- the first image has rollback version 2
abbrev pub rising_images : ℕ → ℕ → ℕ → Content
rising_images a b c = rising_flash 0x10210142 2 a b c

-- a normal boot starts it, and raises its row
abbrev pub rising_choice : Choice
rising_choice = starts_alone false (rows_image (window_at 0x2000 0x1000) 2 0x0c0)

abbrev pub a_rise : BootMade
a_rise = record { before = rising_images 0 0 0; kind = Normal; done = three_raises }

-- the first image is a trial image of rollback version 1
abbrev pub rising_trial : Content
rising_trial = rising_flash 0x90210142 1 0 0 0

-- it runs after an update, and buys itself
abbrev pub rising_trial_choice : Choice
rising_trial_choice =
    starts_alone true (record (rows_image (window_at 0x2000 0x1000) 1 0x0c0) { trial = true })

abbrev pub runs_rising : MachineView
runs_rising = record {
  content = rising_trial;
  armed = Some None;
  cpu = Arm;
  place = Running (FromFlash rising_trial_choice);
}

abbrev pub a_rising_buy : BuyMade
a_rising_buy = record {
  before = rising_trial;
  choice = rising_trial_choice;
  done = buys runs_rising rising_trial_choice;
}

-- the script in which it does so
abbrev pub buying_events : List EventView
buying_events = PowerOn ∷ Reset (Update 0x10002000) ∷ Buy ∷ []
