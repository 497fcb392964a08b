-- The events of a script that did nothing, by their outcomes.
use Rattle.std.specs.Prelude.{ℕ, ◌+◌, ◌&&◌, ◌||◌, Bool, true, false, not, if◌then◌else◌, List, [], ◌∷◌, ◌++◌, length, Option, Some, None}
use Rattle.text_lines.specs.declared.outcome.CommandAnswer.{CommandAnswer}
use Rattle.text_lines.specs.declared.outcome.CommandAnswer.TheVariants as answers
use Rattle.text_lines.specs.declared.outcome.CommandOutcome.{CommandOutcome}
use Rattle.text_lines.specs.declared.outcome.BlockOutcome.{BlockOutcome}
use Rattle.text_lines.specs.declared.outcome.BlockOutcome.TheVariants as blocks
use Rattle.text_lines.specs.declared.outcome.EventOutcome.{EventOutcome}
use Rattle.text_lines.specs.Outcomes.{has_reply}
use Rattle.text_lines.specs.declared.outcome.EventOutcome.TheVariants as events
use Rattle.check_records.specs.declared.found.Refused.{Refused}

-- the command has a status other than 0
abbrev pub is_refused : CommandAnswer → Bool
is_refused (answers.Refused status) = true
is_refused answers.Done = false
is_refused (answers.Replied reply) = false
is_refused (answers.Booted d) = false
is_refused (answers.RamStarted image) = false

-- a command that is no read and has a status other than 0
abbrev pub is_idle_command : CommandOutcome → Bool
is_idle_command c = is_refused c.answer && not (has_reply c.id)

-- 512 bytes that break the form of a block, or a block that is refused
abbrev pub is_idle_block : BlockOutcome → Bool
is_idle_block (blocks.BadForm fault) = true
is_idle_block (blocks.Refused refusal) = true
is_idle_block (blocks.Accepted number accepted) = false
is_idle_block (blocks.Downloaded number d) = false

-- the event did nothing, where power was lost before it in the script or was not
unfoldable pub is_idle : Bool → EventOutcome → Bool
is_idle lost events.Off = not lost
is_idle lost events.Ignored = true
is_idle lost events.NothingToBuy = true
is_idle lost events.BadMagic = true
is_idle lost (events.Command c) = is_idle_command c
is_idle lost (events.Block b) = is_idle_block b
is_idle lost events.Ended = false
is_idle lost events.CutArmed = false
is_idle lost events.PowerLost = false
is_idle lost (events.Booted d) = false
is_idle lost events.Bought = false

-- power was lost in a step of the event
abbrev pub is_lost : EventOutcome → Bool
is_lost events.PowerLost = true
is_lost _ = false

-- an event that did nothing: its number, and what came of it
pub record Idle : Type 0 where
  pub number : ℕ
  pub outcome : EventOutcome

abbrev pub idle_here : Bool → ℕ → EventOutcome → List Idle
idle_here lost n outcome =
    if is_idle lost outcome then record { number = n; outcome = outcome } ∷ [] else []

-- the events that did nothing, of those with these outcomes, the first of which has the number n
abbrev pub idle_from : Bool → ℕ → List EventOutcome → List Idle
idle_from lost n [] = []
idle_from lost n (outcome ∷ outcomes) =
    idle_here lost n outcome ++ idle_from (lost || is_lost outcome) (n + 1) outcomes

-- how many they are, and the first of them
abbrev pub refused_of : List Idle → Option Refused
refused_of [] = None
refused_of (i ∷ others) =
    Some (record { count = length (i ∷ others); first = i.number; outcome = i.outcome })
