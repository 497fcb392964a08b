-- What an event of a script has to do with downloads.
use Rattle.std.specs.Prelude.{◌==◌, ◌&&◌, Bool, false, not, is_some, if◌then◌else◌, List, [], ◌∷◌, Option, Some, None, Result, Ok, Err}
use Rattle.part_table.specs.Families.{absolute_family}
use Rattle.uf2_place.specs.declared.block.Uf2.{Uf2}
use Rattle.uf2_place.specs.declared.block.Uf2Fault.{Uf2Fault}
use Rattle.uf2_place.specs.declared.answer.Accepted.{Accepted}
use Rattle.uf2_place.specs.declared.answer.Accepted.TheVariants as accepted
use Rattle.uf2_place.specs.Blocks.{uf2_of}
use Rattle.text_lines.specs.declared.outcome.BlockOutcome.{BlockOutcome}
use Rattle.text_lines.specs.declared.outcome.BlockOutcome.TheVariants as blocks
use Rattle.text_lines.specs.declared.outcome.EventOutcome.{EventOutcome}
use Rattle.text_lines.specs.declared.outcome.EventOutcome.TheVariants as events
use Rattle.pico_board.specs.Cuts.{cut_steps}
use Rattle.boot_script.specs.Events.{EventView}
use Rattle.boot_machine.specs.Machines.{Host, MachineView, Placing, StateView, InBootsel}
use Rattle.boot_machine.specs.Serving.{ServedEvent, before_boot, served_event}
use Rattle.boot_machine.specs.Standing.{placing_at}
use Rattle.boot_machine.specs.Plays.{Moved, moved_as, moved_machine, told_cut}
use Rattle.check_records.specs.declared.downloads.Kind.{Kind}
use Rattle.check_records.specs.declared.downloads.Beginning.{Beginning}
use Rattle.check_records.specs.declared.downloads.Stage.{Stage}
use Rattle.check_records.specs.declared.downloads.Stage.TheVariants.{Taken, Done, Lost}
use Rattle.check_records.specs.declared.downloads.Share.{Share}
use Rattle.check_records.specs.declared.downloads.Share.TheVariants.{Begins, Continues, Keeps, Drops}

-- the family and the number of blocks of the download that a block is of
abbrev pub kind_of : Uf2 → Kind
kind_of b = record { family = b.family; count = b.count }

abbrev pub is_like : Kind → Kind → Bool
is_like k l = k.family == l.family && k.count == l.count

-- a download that begins with this block is one here: all but block 0 of 2 of the absolute family,
-- which tools put before a file, for an erratum, and of which they send no second
abbrev pub counts : Beginning → Bool
counts b = not (b.number == 0 && (b.kind.count == 2 && b.kind.family == absolute_family))

-- the kind of the download that is current, which is that of its first block
abbrev pub kind_in : List Uf2 → Option Kind
kind_in [] = None
kind_in (b ∷ bs) = Some (kind_of b)

abbrev pub kind_at : Option Placing → Option Kind
kind_at None = None
kind_at (Some placing) = kind_in placing.blocks

-- the block continues the current download, where there is one
abbrev pub continues : Option Kind → Uf2 → Bool
continues None b = false
continues (Some k) b = is_like k (kind_of b)

-- what a host's event comes to in BOOTSEL, without the boot that it may ask for: its own steps are
-- done, or power is lost in them
abbrev pub moved_by : MachineView → ServedEvent → Moved
moved_by m s =
    moved_as m (before_boot s) (cut_steps s.steps (told_cut m.armed) m.content)

abbrev pub served_alone : MachineView → Host → EventView → Moved
served_alone m host event = moved_by m (served_event m.content m.cpu host event)

-- how far a block came, where it went into a download
abbrev pub stage_of_accepted : Accepted → Option Stage
stage_of_accepted accepted.Skipped = None
stage_of_accepted accepted.Again = None
stage_of_accepted accepted.Taken = Some Taken
stage_of_accepted (accepted.Done target) = Some Done

abbrev pub stage_of_block : BlockOutcome → Option Stage
stage_of_block (blocks.Accepted number accepted) = stage_of_accepted accepted
stage_of_block (blocks.BadForm fault) = None
stage_of_block (blocks.Refused refusal) = None
stage_of_block (blocks.Downloaded number d) = None

abbrev pub stage_of : EventOutcome → Option Stage
stage_of (events.Block b) = stage_of_block b
stage_of events.PowerLost = Some Lost
stage_of _ = None

-- a block that came so far begins a download where it continues none
abbrev pub placed_share : Option Kind → Uf2 → Option Stage → Share
placed_share current b None = Keeps
placed_share current b (Some stage) =
    if continues current b then Continues stage
    else Begins (record { kind = kind_of b; number = b.number }) stage

abbrev pub block_share : Option Kind → Result Uf2 Uf2Fault → EventOutcome → Share
block_share current (Ok b) outcome = placed_share current b (stage_of outcome)
block_share current (Err fault) outcome = Keeps

-- another event leaves the current download as it is, or none
abbrev pub other_share : StateView → Share
other_share next = if is_some (kind_at (placing_at next)) then Keeps else Drops

abbrev pub share_at : MachineView → StateView → EventView → Share
share_at m (InBootsel host) (EventView.Uf2 block) =
    block_share (kind_at host.placing) (uf2_of block)
    (served_alone m host (EventView.Uf2 block)).outcome
share_at m place event = other_share (moved_machine m event).next.place

-- what the event has to do with downloads on the machine
unfoldable pub share_of : MachineView → EventView → Share
share_of m event = share_at m m.place event

-- the same of each of the events, one after another
abbrev pub shares : MachineView → List EventView → List Share
shares m [] = []
shares m (event ∷ events) = share_of m event ∷ shares (moved_machine m event).next events
