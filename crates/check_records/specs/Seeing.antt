-- What is seen of the events of a script, by what is noted of each.
use Rattle.std.specs.Prelude.{◌≡◌, ◌&&◌, ◌||◌, Bool, true, false, if◌then◌else◌, is_some, not, List, [], ◌∷◌, Option, None, option_map}
use Rattle.std.specs.List.{list_any}
use Rattle.uf2_place.specs.Blocks.{uf2_of}
use Rattle.text_lines.specs.declared.outcome.CommandAnswer.{CommandAnswer}
use Rattle.text_lines.specs.declared.outcome.CommandAnswer.TheVariants as answers
use Rattle.text_lines.specs.declared.outcome.EventOutcome.{EventOutcome}
use Rattle.text_lines.specs.declared.outcome.EventOutcome.TheVariants as events
use Rattle.boot_script.specs.Events.{EventView}
use Rattle.boot_machine.specs.Machines.{StateView, InBootsel}
use Rattle.boot_machine.specs.Standing.{placing_at}
use Rattle.boot_tape.specs.declared.notes.Note.{Note}
use Rattle.boot_tape.specs.Doers.{is_boot, is_own_whole}
use Rattle.check_records.specs.declared.downloads.Beginning.{Beginning}
use Rattle.check_records.specs.declared.downloads.Kind.{Kind}
use Rattle.check_records.specs.declared.downloads.Share.{Share}
use Rattle.check_records.specs.declared.downloads.Share.TheVariants.{Keeps, Drops}
use Rattle.check_records.specs.declared.found.Records.{Records}
use Rattle.check_records.specs.declared.noting.Downloads.{Downloads}
use Rattle.check_records.specs.declared.refusals.Refusals.{Refusals}
use Rattle.check_records.specs.Idle.{idle_from, refused_of}
use Rattle.check_records.specs.Noting.{current_after}
use Rattle.check_records.specs.Shares.{block_share, kind_at}
use Rattle.check_records.specs.Unfinished.{first_number, is_beginning, open_from}

-- what comes of steps that are done whole, or in which power is lost
abbrev pub unless_lost : Bool → EventOutcome → EventOutcome
unless_lost whole outcome = if whole then outcome else events.PowerLost

-- what comes of an event, but for the boot that it asks for
abbrev pub came_in : Note → EventOutcome
came_in note = unless_lost note.whole note.outcome

-- what comes of a host's event without that boot
abbrev pub alone_in : Note → EventOutcome
alone_in note = unless_lost (is_own_whole note) note.outcome

-- BOOTSEL served a block
abbrev pub is_block : EventOutcome → Bool
is_block (events.Block b) = true
is_block _ = false

-- an image in RAM is started
abbrev pub starts : CommandAnswer → Bool
starts (answers.RamStarted image) = true
starts _ = false

abbrev pub is_start : EventOutcome → Bool
is_start (events.Command c) = starts c.answer
is_start _ = false

-- no download is current behind an event that is no block in BOOTSEL
abbrev pub is_over : Note → Bool
is_over note = not note.whole || (is_boot note.behind || is_start note.outcome)

-- what such an event has to do with downloads
abbrev pub other_seen : Option Beginning → Note → Share
other_seen current note = if is_some current && not (is_over note) then Keeps else Drops

abbrev pub current_kind : Option Beginning → Option Kind
current_kind current = option_map (λ (b : Beginning). b.kind) current

-- what an event has to do with downloads, where the current one begins with this block
abbrev pub share_seen : Option Beginning → EventView → Note → Share
share_seen current (EventView.Uf2 bytes) note =
    if is_block note.outcome then
    block_share (current_kind current) (uf2_of bytes) (alone_in note)
    else other_seen current note
share_seen current event note = other_seen current note

-- what comes of events, one after another
abbrev pub outcomes_seen : List EventView → List Note → List EventOutcome
outcomes_seen [] notes = []
outcomes_seen (event ∷ events) [] = []
outcomes_seen (event ∷ events) (note ∷ notes) = came_in note ∷ outcomes_seen events notes

-- what they have to do with downloads
abbrev pub shares_seen : Option Beginning → List EventView → List Note → List Share
shares_seen current [] notes = []
shares_seen current (event ∷ events) [] = []
shares_seen current (event ∷ events) (note ∷ notes) =
    share_seen current event note
    ∷ shares_seen (current_after current (share_seen current event note)) events notes

-- what is found of them
abbrev pub records_seen : List EventView → List Note → Records
records_seen events notes = record {
  refused = refused_of (idle_from false 0 (outcomes_seen events notes));
  unfinished = first_number (open_from 0 (shares_seen None events notes));
  begins = list_any is_beginning (shares_seen None events notes);
}

-- what is kept of all of them
abbrev pub found_of : Refusals → Downloads → Records
found_of refusals downloads = record {
  refused = refusals.found;
  unfinished = first_number downloads.waiting.items;
  begins = downloads.begun;
}

-- the event is no block that BOOTSEL serves
abbrev pub is_other : StateView → EventView → Bool
is_other (InBootsel host) (EventView.Uf2 block) = false
is_other place event = true

-- this is the first block of the download that is current in this place, or none is
abbrev pub Knows : Option Beginning → StateView → Type 0
Knows current place = current_kind current ≡ kind_at (placing_at place)
