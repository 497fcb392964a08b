-- The blocks of gated downloads, by the download of which BOOTSEL knows behind them.
use Rattle.std.specs.Prelude.{◌&&◌, Bool, false, Option, Some, None}
use Rattle.uf2_place.specs.declared.answer.Accepted.{Accepted}
use Rattle.uf2_place.specs.declared.answer.Accepted.TheVariants as accepted
use Rattle.text_lines.specs.declared.outcome.BlockOutcome.{BlockOutcome}
use Rattle.text_lines.specs.declared.outcome.BlockOutcome.TheVariants as blocks
use Rattle.text_lines.specs.declared.outcome.EventOutcome.{EventOutcome}
use Rattle.text_lines.specs.declared.outcome.EventOutcome.TheVariants as events
use Rattle.boot_script.specs.Events.{EventView}
use Rattle.boot_machine.specs.Machines.{MachineView, Placing, StateView}
use Rattle.boot_machine.specs.Serving.{ServedEvent}
use Rattle.boot_machine.specs.Standing.{placing_at}
use Rattle.boot_tape.specs.Traces.{note_of, served_in}

-- the current download is gated
abbrev pub is_gated_download : Option Placing → Bool
is_gated_download None = false
is_gated_download (Some placing) = placing.target.gated

-- A block that is taken goes into a gated download, which is current in the place that it leads to.
-- With a block that is done a gated one is whole.
abbrev pub is_gated_by : Accepted → StateView → Bool
is_gated_by accepted.Skipped place = false
is_gated_by accepted.Again place = false
is_gated_by accepted.Taken place = is_gated_download (placing_at place)
is_gated_by (accepted.Done target) place = target.gated

abbrev pub is_gated_at : BlockOutcome → StateView → Bool
is_gated_at (blocks.Accepted number accepted) place = is_gated_by accepted place
is_gated_at (blocks.BadForm fault) place = false
is_gated_at (blocks.Refused refusal) place = false
is_gated_at (blocks.Downloaded number d) place = false

abbrev pub is_gated_outcome : EventOutcome → StateView → Bool
is_gated_outcome (events.Block b) place = is_gated_at b place
is_gated_outcome _ place = false

-- what BOOTSEL serves is such a block
abbrev pub serves_gated : Option ServedEvent → Bool
serves_gated None = false
serves_gated (Some s) = is_gated_outcome s.outcome s.place

-- the event is a block that is taken into a gated download or with which one is done, and no power
-- is lost in it
abbrev pub is_gated_block : MachineView → EventView → Bool
is_gated_block m event =
    (note_of m event).whole && serves_gated (served_in m.content m.cpu m.place event)
