-- The line of an event's outcome, and the ranges of what it tells.
use Rattle.std.specs.Prelude.{◌≡◌, ℕ, ◌^◌, ◌<◌, All, if◌then◌else◌, List, [], ◌++◌, length, codes, decimal, IfSome}
use Rattle.std.specs.List.{flat_map}
use Rattle.text_words.specs.Writing.{hex_byte, hex_digits, hex_word}
use Rattle.part_table.specs.declared.target.Target.{Target}
use Rattle.image_def.specs.declared.started.Started.{Started}
use Rattle.picoboot_cmd.specs.declared.kinds.TheConstants.{OK}
use Rattle.uf2_place.specs.declared.block.Uf2Fault.{Uf2Fault}
use Rattle.uf2_place.specs.declared.block.Uf2Fault.TheVariants.{Magic, Payload, Alignment, Number}
use Rattle.uf2_place.specs.declared.answer.Accepted.{Accepted}
use Rattle.uf2_place.specs.declared.answer.Accepted.TheVariants.{Skipped, Again, Taken, Done}
use Rattle.boot_rules.specs.declared.decision.Decision.{Decision}
use Rattle.boot_rules.specs.declared.decision.Decision.TheVariants.{Start, Bootsel}
use Rattle.text_lines.specs.declared.outcome.ReplySum.{ReplySum}
use Rattle.text_lines.specs.declared.outcome.CommandAnswer.{CommandAnswer}
use Rattle.text_lines.specs.declared.outcome.CommandAnswer.TheVariants as answers
use Rattle.text_lines.specs.declared.outcome.CommandOutcome.{CommandOutcome}
use Rattle.text_lines.specs.declared.outcome.Refusal.{Refusal}
use Rattle.text_lines.specs.declared.outcome.Refusal.TheVariants.{NoTarget, Outside, NotPermitted}
use Rattle.text_lines.specs.declared.outcome.BlockOutcome.{BlockOutcome}
use Rattle.text_lines.specs.declared.outcome.BlockOutcome.TheVariants as blocks
use Rattle.text_lines.specs.declared.outcome.EventOutcome.{EventOutcome}
use Rattle.text_lines.specs.declared.outcome.EventOutcome.TheVariants as events
use Rattle.text_lines.specs.Texts.{decision_text, range_text, rest_text}

-- a boot by itself, and behind a host's event
abbrev pub boot_text : Decision → List ℕ
boot_text d = codes "boot " ++ decision_text d

abbrev pub booted_text : Decision → List ℕ
booted_text d = codes " boot " ++ decision_text d

-- an image that starts in RAM, behind the text of its command
abbrev pub ram_start_text : Started → List ℕ
ram_start_text s = codes " boot start ram=" ++ (range_text s.window ++ rest_text s)

-- the number of reply bytes, and each byte of their digest as two digits
abbrev pub reply_text : ReplySum → List ℕ
reply_text reply =
    codes " reply="
    ++ (decimal reply.count ++ (codes " sha256=" ++ flat_map (hex_digits 2) reply.digest))

-- a command's id, token and status
abbrev pub status_text : ℕ → ℕ → ℕ → List ℕ
status_text id token status =
    codes "cmd "
    ++ (hex_byte id
    ++ (codes " token=" ++ (hex_word token ++ (codes " status=" ++ decimal status))))

-- the status of an answer
abbrev pub status_in : CommandAnswer → ℕ
status_in (answers.Refused status) = status
status_in answers.Done = OK
status_in (answers.Replied reply) = OK
status_in (answers.Booted d) = OK
status_in (answers.RamStarted image) = OK

-- what an answer has behind its status
abbrev pub answer_text : CommandAnswer → List ℕ
answer_text (answers.Refused status) = []
answer_text answers.Done = []
answer_text (answers.Replied reply) = reply_text reply
answer_text (answers.Booted d) = booted_text d
answer_text (answers.RamStarted image) = ram_start_text image

abbrev pub command_text : CommandOutcome → List ℕ
command_text c = status_text c.id c.token (status_in c.answer) ++ answer_text c.answer

-- a UF2 block that breaks its form
abbrev pub form_text : Uf2Fault → List ℕ
form_text Magic = codes "uf2 bad magic"
form_text Payload = codes "uf2 bad payload"
form_text Alignment = codes "uf2 bad alignment"
form_text Number = codes "uf2 bad number"

-- a UF2 block that is not placed
abbrev pub refusal_text : Refusal → List ℕ
refusal_text NoTarget = codes "uf2 refused no-target"
refusal_text Outside = codes "uf2 refused outside"
refusal_text NotPermitted = codes "uf2 refused not-permitted"

-- a UF2 block by its number, and what comes of it
abbrev pub numbered_text : ℕ → List ℕ → List ℕ
numbered_text number word = codes "uf2 " ++ (decimal number ++ (codes " " ++ word))

-- a download that is done: where its target does not stay in BOOTSEL, a boot follows
abbrev pub done_word : Target → List ℕ
done_word target = if target.stay then codes "done stay" else codes "done"

-- a UF2 block that is accepted, by its number
abbrev pub accepted_text : ℕ → Accepted → List ℕ
accepted_text number Skipped = codes "uf2 skipped"
accepted_text number Again = numbered_text number (codes "again")
accepted_text number Taken = numbered_text number (codes "taken")
accepted_text number (Done target) = numbered_text number (done_word target)

abbrev pub block_text : BlockOutcome → List ℕ
block_text (blocks.BadForm fault) = form_text fault
block_text (blocks.Refused refusal) = refusal_text refusal
block_text (blocks.Accepted number accepted) = accepted_text number accepted
block_text (blocks.Downloaded number d) = numbered_text number (codes "done") ++ booted_text d

-- the line of an event, without its number and line feed
abbrev pub outcome_text : EventOutcome → List ℕ
outcome_text events.Off = codes "off"
outcome_text events.Ignored = codes "ignored"
outcome_text events.Ended = codes "end"
outcome_text events.CutArmed = codes "cut armed"
outcome_text events.PowerLost = codes "power lost"
outcome_text (events.Booted d) = boot_text d
outcome_text events.Bought = codes "buy done"
outcome_text events.NothingToBuy = codes "buy none"
outcome_text events.BadMagic = codes "cmd bad-magic"
outcome_text (events.Command c) = command_text c
outcome_text (events.Block b) = block_text b

-- the numbers of an image that its text shows are in the ranges of their fields
pub record IsShown (s : Started) : Type 0 where
  pub start : s.window.start < 2 ^ 32
  pub len : s.window.len < 2 ^ 32
  pub block : s.block < 2 ^ 32
  pub pc : s.pc < 2 ^ 32
  pub sp : s.sp < 2 ^ 32
  pub limit : s.limit < 2 ^ 32
  pub major : s.version.major < 2 ^ 16
  pub minor : s.version.minor < 2 ^ 16
  pub rollback : IfSome s.rollback (λ v. v < 2 ^ 16)

-- the same for the image of a decision
abbrev pub IsDecided : Decision → Type 0
IsDecided (Start choice) = IsShown choice.image
IsDecided (Bootsel fall) = Unit {0}

-- the same for a reply
pub record IsSum (reply : ReplySum) : Type 0 where
  pub count : reply.count < 2 ^ 32
  pub long : length reply.digest ≡ 32
  pub bytes : All (λ b. b < 256) reply.digest

-- the same for the answer of a command
abbrev pub IsAnswer : CommandAnswer → Type 0
IsAnswer (answers.Refused status) = status < 2 ^ 32
IsAnswer answers.Done = Unit {0}
IsAnswer (answers.Replied reply) = IsSum reply
IsAnswer (answers.Booted d) = IsDecided d
IsAnswer (answers.RamStarted image) = IsShown image

-- the same for a command
pub record IsAnswered (c : CommandOutcome) : Type 0 where
  pub id : c.id < 256
  pub token : c.token < 2 ^ 32
  pub answer : IsAnswer c.answer

-- the same for a block
abbrev pub IsBlockOutcome : BlockOutcome → Type 0
IsBlockOutcome (blocks.BadForm fault) = Unit {0}
IsBlockOutcome (blocks.Refused refusal) = Unit {0}
IsBlockOutcome (blocks.Accepted number accepted) = number < 2 ^ 32
IsBlockOutcome (blocks.Downloaded number d) = (number < 2 ^ 32) × IsDecided d

-- the same for all that an outcome tells
abbrev pub IsOutcome : EventOutcome → Type 0
IsOutcome (events.Booted d) = IsDecided d
IsOutcome (events.Command c) = IsAnswered c
IsOutcome (events.Block b) = IsBlockOutcome b
IsOutcome _ = Unit {0}
