-- What is found of the records of a script that is played on a content from no power on.
use Rattle.std.specs.Prelude.{false, List}
use Rattle.std.specs.List.{list_any}
use Rattle.pico_board.specs.declared.boot.Cpu.{Cpu}
use Rattle.pico_board.specs.Content.{Content}
use Rattle.boot_script.specs.Events.{EventView}
use Rattle.boot_machine.specs.Machines.{MachineView}
use Rattle.boot_machine.specs.Plays.{played, powerless}
use Rattle.check_records.specs.declared.found.Records.{Records}
use Rattle.check_records.specs.Idle.{idle_from, refused_of}
use Rattle.check_records.specs.Shares.{shares}
use Rattle.check_records.specs.Unfinished.{first_number, is_beginning, open_from}

-- the events that did nothing, the first one that begins a download which stays open, and whether
-- one begins a download
abbrev pub records_on : MachineView → List EventView → Records
records_on m events = record {
  refused = refused_of (idle_from false 0 (played m events).outcomes);
  unfinished = first_number (open_from 0 (shares m events));
  begins = list_any is_beginning (shares m events);
}

abbrev pub records_of : Content → Cpu → List EventView → Records
records_of c cpu events = records_on (powerless c cpu) events
