-- What comes of an event of a script, of the values that the crates below answer with.
use Rattle.std.specs.Prelude.{ℕ, ◌==◌, ◌||◌, if◌then◌else◌, Bool, List, length, Option, Some, None}
use Rattle.sha2.specs.Sha256.{sha256}
use Rattle.image_def.specs.declared.started.Started.{Started}
use Rattle.picoboot_cmd.specs.declared.cmd.Cmd.{Cmd}
use Rattle.picoboot_cmd.specs.declared.kinds.TheConstants.{READ, OTP_READ, OK}
use Rattle.info_reply.specs.declared.kinds.TheConstants.{INFO}
use Rattle.uf2_place.specs.declared.answer.Accepted.{Accepted}
use Rattle.uf2_place.specs.declared.answer.PlaceFault.{PlaceFault}
use Rattle.uf2_place.specs.declared.answer.PlaceFault.TheVariants.{NoTarget, Outside, NotPermitted, PowerLost as Lost}
use Rattle.boot_rules.specs.declared.decision.Decision.{Decision}
use Rattle.text_lines.specs.declared.outcome.ReplySum.{ReplySum}
use Rattle.text_lines.specs.declared.outcome.CommandAnswer.{CommandAnswer}
use Rattle.text_lines.specs.declared.outcome.CommandAnswer.TheVariants as answers
use Rattle.text_lines.specs.declared.outcome.CommandOutcome.{CommandOutcome}
use Rattle.text_lines.specs.declared.outcome.Refusal.TheVariants as refusals
use Rattle.text_lines.specs.declared.outcome.BlockOutcome.{BlockOutcome}
use Rattle.text_lines.specs.declared.outcome.BlockOutcome.TheVariants as blocks
use Rattle.text_lines.specs.declared.outcome.EventOutcome.{EventOutcome}
use Rattle.text_lines.specs.declared.outcome.EventOutcome.TheVariants as events

-- the commands that are answered with bytes: a read, an info command and an OTP read
abbrev pub has_reply : ℕ → Bool
has_reply id = id == READ || (id == INFO || id == OTP_READ)

-- the number of a reply's bytes, and their SHA-256
abbrev pub reply_sum : List ℕ → ReplySum
reply_sum reply = record { count = length reply; digest = sha256 reply }

-- how a command with this id is answered, by its status and its reply
abbrev pub answer_of : ℕ → ℕ → List ℕ → CommandAnswer
answer_of id status reply =
    if status == OK then (if has_reply id then answers.Replied (reply_sum reply) else answers.Done)
    else answers.Refused status

-- a command with this answer
abbrev pub answered : Cmd → CommandAnswer → EventOutcome
answered cmd answer =
    events.Command (record { id = cmd.id; token = cmd.token; answer = answer })

abbrev pub command_outcome : Cmd → ℕ → List ℕ → EventOutcome
command_outcome cmd status reply = answered cmd (answer_of cmd.id status reply)

-- a command that starts an image in RAM
abbrev pub ram_start_outcome : Cmd → Started → EventOutcome
ram_start_outcome cmd image = answered cmd (answers.RamStarted image)

-- a UF2 block that is accepted, by its number
abbrev pub accepted_outcome : ℕ → Accepted → EventOutcome
accepted_outcome number accepted = events.Block (blocks.Accepted number accepted)

-- a UF2 block that is not placed, or power that was lost while it was
abbrev pub refused_outcome : PlaceFault → EventOutcome
refused_outcome NoTarget = events.Block (blocks.Refused refusals.NoTarget)
refused_outcome Outside = events.Block (blocks.Refused refusals.Outside)
refused_outcome NotPermitted = events.Block (blocks.Refused refusals.NotPermitted)
refused_outcome Lost = events.PowerLost

-- a block's outcome with the boot that it asks for: a download that is done
abbrev pub downloaded : BlockOutcome → Decision → BlockOutcome
downloaded (blocks.Accepted number accepted) d = blocks.Downloaded number d
downloaded (blocks.BadForm fault) d = blocks.BadForm fault
downloaded (blocks.Refused refusal) d = blocks.Refused refusal
downloaded (blocks.Downloaded number former) d = blocks.Downloaded number former

-- the outcome of a command or of a block that asks for a boot, with the decision of that boot. No
-- other outcome asks for one
abbrev pub with_boot : EventOutcome → Decision → EventOutcome
with_boot (events.Command c) d =
    events.Command (record { id = c.id; token = c.token; answer = answers.Booted d })
with_boot (events.Block b) d = events.Block (downloaded b d)
with_boot events.Off d = events.Off
with_boot events.Ignored d = events.Ignored
with_boot events.Ended d = events.Ended
with_boot events.CutArmed d = events.CutArmed
with_boot events.PowerLost d = events.PowerLost
with_boot (events.Booted former) d = events.Booted former
with_boot events.Bought d = events.Bought
with_boot events.NothingToBuy d = events.NothingToBuy
with_boot events.BadMagic d = events.BadMagic

-- a boot by itself, or behind what a host's event came to
abbrev pub boot_outcome : Option EventOutcome → Decision → EventOutcome
boot_outcome None d = events.Booted d
boot_outcome (Some outcome) d = with_boot outcome d
