-- What the outcome of a move tells is in the ranges of its fields.
use Rattle.std.proofs.Common.{◌≡◌, ℕ, zero, suc, ◌+◌, ◌-◌, ◌*◌, ◌%◌, ◌^◌, ◌<◌, ◌==◌, Bool, true, false, List, [], ◌∷◌, ◌++◌, length, drop, Option, Some, None, Result, Ok, Err, refl, sym, subst, inl, inr, arith, length-drop}
use Rattle.std.specs.Prelude.{if◌then◌else◌, IfOk, All, nat_le, not, is_some, slice_range}
use Rattle.std.specs.List.{AllByRecursion}
use Rattle.std.specs.Result.{result_ok}
use Rattle.std.proofs.lemmas.Bool.{leb-true}
use Rattle.pico_board.specs.declared.Step.{Step}
use Rattle.pico_board.specs.declared.boot.BootKind.{BootKind}
use Rattle.pico_board.specs.declared.boot.BootKind.TheVariants.{Normal}
use Rattle.pico_board.specs.declared.boot.Cpu.{Cpu}
use Rattle.pico_board.specs.Content.{Content, IsContent}
use Rattle.pico_board.specs.Steps.{IsStepIn, after_all}
use Rattle.pico_board.proofs.ContentLemmas.{byte_at as content-byte}
use Rattle.pico_board.proofs.CuttingLemmas.{IsContent-after_all}
use Rattle.block_codec.specs.Words.{bytes_of, word_of}
use Rattle.block_codec.proofs.WordLemmas.{AreBytes, AreBytes-drop, AreBytes-take, length-bytes_of, word_of-lt}
use Rattle.part_table.specs.declared.Table.{Table}
use Rattle.part_table.specs.declared.Target.{Target}
use Rattle.image_def.specs.declared.started.Started.{Started}
use Rattle.image_check.specs.declared.why.Why.{Why}
use Rattle.uf2_place.specs.declared.block.Uf2.{Uf2}
use Rattle.uf2_place.specs.declared.block.Uf2Fault.{Uf2Fault}
use Rattle.uf2_place.specs.declared.block.TheConstants.{PAYLOAD}
use Rattle.uf2_place.specs.declared.answer.Ruling.{Ruling}
use Rattle.uf2_place.specs.declared.answer.Ruling.TheVariants.{Answered, Begins, Continues}
use Rattle.uf2_place.specs.Blocks.{has_magic, is_number, uf2_of, word_at}
use Rattle.uf2_place.specs.Placement.{grown, is_whole_download}
use Rattle.picoboot_cmd.specs.declared.cmd.Cmd.{Cmd}
use Rattle.picoboot_cmd.specs.declared.cmd.CmdFault.{CmdFault}
use Rattle.picoboot_cmd.specs.declared.kinds.TheConstants.{MAGIC, OK, READ, REBOOT, OTP_READ}
use Rattle.picoboot_cmd.specs.Arguments.{address, first_row, offset, reboot_p0, reboot_p1, row_count, size}
use Rattle.picoboot_cmd.specs.Checks.{Check, check, checks, first_failing, status_of}
use Rattle.picoboot_cmd.specs.Commands.{IsCommand, command_in, command_fields}
use Rattle.picoboot_cmd.specs.Served.{ServedCommand as Command, reply_of}
use Rattle.info_reply.specs.declared.ask.Ask.{Ask}
use Rattle.info_reply.specs.declared.kinds.TheConstants.{BUFFER_TOO_SMALL, INFO, NOT_FOUND}
use Rattle.info_reply.specs.Asks.{ask_in, asked_info, is_there, reply_checks}
use Rattle.info_reply.specs.Statuses.{checks_of_reply, info_checks}
use Rattle.load_map.specs.declared.addresses.TheConstants.{SRAM_START}
use Rattle.ram_start.specs.Images.{ram_image, ram_window}
use Rattle.ram_start.specs.Serving.{RamServed, is_ram_command, ram_checks, ram_reply, ram_status, reboot_image, reboot_range}
use Rattle.ram_start.specs.Sram.{IsSram}
use Rattle.image_check.specs.Addressing.{in_ram}
use Rattle.image_check.proofs.LawLemmas.{answered-valid}
use Rattle.boot_rules.specs.declared.decision.Decision.{Decision}
use Rattle.boot_rules.specs.declared.decision.Decision.TheVariants.{Start, Bootsel}
use Rattle.boot_rules.specs.declared.tables.Found.{Found}
use Rattle.boot_rules.specs.Choosing.{decision_in}
use Rattle.boot_rules.specs.Chosen.{Chosen}
use Rattle.boot_rules.specs.Targets.{target_of}
use Rattle.boot_rules.proofs.DecisionLemmas.{decision-chosen}
use Rattle.boot_rules.proofs.StartLemmas.{start-placed, start-valid}
use Rattle.boot_script.specs.Events.{EventView}
use Rattle.sha2.specs.Sha256.{sha256}
use Rattle.sha2.proofs.Facts256.{length-sha256}
use Rattle.part_table.proofs.RoundTripLemmas.{sha256_is_bytes}
use Rattle.text_lines.specs.Events.{IsAnswer, IsDecided, IsOutcome, IsShown, IsSum}
use Rattle.text_lines.specs.Outcomes.{answer_of, answered, command_outcome, has_reply, reply_sum, with_boot}
use Rattle.text_lines.specs.declared.outcome.CommandAnswer.{CommandAnswer}
use Rattle.text_lines.specs.declared.outcome.CommandAnswer.TheVariants as answers
use Rattle.text_lines.specs.declared.outcome.BlockOutcome.TheVariants as block_outcomes
use Rattle.text_lines.specs.declared.outcome.EventOutcome.{EventOutcome}
use Rattle.text_lines.specs.declared.outcome.EventOutcome.TheVariants as event_outcomes
use Rattle.uf2_place.specs.declared.answer.PlaceFault.TheVariants.{NoTarget, NotPermitted, Outside, PowerLost as Lost}
use Rattle.boot_machine.specs.Boots.{Effect}
use Rattle.boot_machine.specs.Machines.{Host, MachineView, StateView, Off, InBootsel, Running, FromFlash, FromRam}
use Rattle.boot_machine.specs.Moves.{Moves, effect, effect_in}
use Rattle.boot_machine.specs.Ranges.{AreInRange, HasHostBytes, HasSram}
use Rattle.boot_machine.specs.Serving.{ServedEvent, asked_target, block_served, blocks_of, command_served, device_of, followed_by, host_result, info_reply, info_status, info_words, ram_outcome, ruling_on, serves_host, serves_ram, served_event, table_slot_of, table_of_found, taken_in, uf2_served}
use Rattle.boot_machine.proofs.InfoLemmas.{few-asked, few-refused, status-asked, status-refused}
use Rattle.boot_machine.proofs.RamRunLemmas.{either}
use Rattle.boot_machine.proofs.ReplyLemmas.{slice-few}
use Rattle.boot_machine.proofs.ShownImageLemmas.{shown-flash, shown-valid}

-- what is served has an outcome in range, and so has the boot that it asks for
abbrev Serves : ServedEvent → Type 0
Serves s = IsOutcome s.outcome

-- a boot behind it too
boot-told : (outcome : EventOutcome) (d : Decision) → IsOutcome outcome → IsDecided d → IsOutcome (with_boot outcome d)
boot-told event_outcomes.Off d is shown = tt
boot-told event_outcomes.Ignored d is shown = tt
boot-told event_outcomes.Ended d is shown = tt
boot-told event_outcomes.CutArmed d is shown = tt
boot-told event_outcomes.PowerLost d is shown = tt
boot-told (event_outcomes.Booted former) d is shown = is
boot-told event_outcomes.Bought d is shown = tt
boot-told event_outcomes.NothingToBuy d is shown = tt
boot-told event_outcomes.BadMagic d is shown = tt
boot-told (event_outcomes.Command c) d is shown = record { id = is.id; token = is.token; answer = shown }
boot-told (event_outcomes.Block (block_outcomes.Accepted number accepted)) d is shown = (is, shown)
boot-told (event_outcomes.Block (block_outcomes.BadForm fault)) d is shown = tt
boot-told (event_outcomes.Block (block_outcomes.Refused refusal)) d is shown = tt
boot-told (event_outcomes.Block (block_outcomes.Downloaded number former)) d is shown = is

-- the decision of a content
decided : (c : Content) (cpu : Cpu) (kind : BootKind) → IsContent c → IsDecided (decision_in c cpu kind)
decided c cpu kind right = by (decision_in c cpu kind) (decision-chosen c cpu kind)
  where
    by : (d : Decision) → Chosen c cpu kind d → IsDecided d
    by (Start choice) chosen =
        shown-flash c choice.image.window cpu true choice.image right (start-placed c cpu kind choice right chosen)
        (start-valid c cpu kind choice chosen)
    by (Bootsel fall) chosen = tt

-- statuses are small
abbrev AreSmall : List Check → Type 0
AreSmall ks = AllByRecursion (λ (k : Check). k.status < 2 ^ 32) ks

small : (ks : List Check) → AreSmall ks → first_failing ks < 2 ^ 32
small [] all = omega arith
small (k ∷ ks) all = either (λ x. x < 2 ^ 32) k.passes (first_failing ks) k.status (small ks all.1) all.0

host-small : (n : ℕ) (otp : List ℕ) (t : Option Table) (busy : Bool) (cmd : Cmd) (payload : List ℕ)
    → status_of n otp t busy cmd payload < 2 ^ 32
host-small n otp t busy cmd payload =
    small (checks n otp t busy cmd payload) (
      omega arith,
      (
        omega arith,
        (
          omega arith,
          (
            omega arith,
            (
              omega arith,
              (omega arith, (omega arith, (omega arith, (omega arith, tt)))),
            ),
          ),
        ),
      ),
    )

ram-small : (c : Content) (ram : List ℕ) (cpu : Cpu) (busy : Bool) (cmd : Cmd) (payload : List ℕ)
    → ram_status c ram cpu busy cmd payload < 2 ^ 32
ram-small c ram cpu busy cmd payload =
    small (ram_checks c ram cpu busy cmd payload)
    (omega arith, (omega arith, (omega arith, (omega arith, (omega arith, tt)))))

-- the bytes of a command and of a block
number-lt : (bytes : List ℕ) (at : ℕ) → AreBytes bytes → word_at bytes at < 2 ^ 32
unfolding word_of
number-lt bytes at are = word_of-lt (drop at bytes) (AreBytes-drop at bytes are)

all-from : (xs : List ℕ) → AreBytes xs → All (λ b. b < 256) xs
all-from [] are i d lt = absurd (omega (arith, lt))
all-from (x ∷ xs) are zero d lt = are 0
all-from (x ∷ xs) are (suc i) d lt = all-from xs (λ k. are (suc k)) i d (omega (arith, lt))

command-fields : (bytes : List ℕ) → length bytes ≡ 32 → AreBytes bytes → IsCommand (command_fields bytes)
command-fields bytes long are =
    let rest = length-drop 16 bytes in record {
      token = number-lt bytes 4 are;
      id = are 8;
      arg_size = are 9;
      transfer = number-lt bytes 12 are;
      args = omega (arith, rest, long);
      bytes = all-from (drop 16 bytes) (AreBytes-drop 16 bytes are);
    }

abbrev IsRead : Result Cmd CmdFault → Type 0
IsRead r = IfOk r IsCommand

command-read : (bytes : List ℕ) → (length bytes ≡ 32) × All (λ b. b < 256) bytes → IsRead (command_in bytes)
command-read bytes is =
    either IsRead (word_at bytes 0 == MAGIC) _ _ (command-fields bytes is.0 (content-byte bytes is.1)) tt

abbrev IsNumbered : Result Uf2 Uf2Fault → Type 0
IsNumbered r = IfOk r (λ (b : Uf2). b.number < 2 ^ 32)

block-read : (bytes : List ℕ) → All (λ b. b < 256) bytes → IsNumbered (uf2_of bytes)
block-read bytes all =
    either IsNumbered (not (has_magic bytes)) _ _ tt
    (either IsNumbered (not (word_at bytes 16 == PAYLOAD)) _ _ tt
    (either IsNumbered (not (word_at bytes 12 % 256 == 0)) _ _ tt
    (either IsNumbered (not (is_number (word_at bytes 20) (word_at bytes 24))) _ _ tt
    (number-lt bytes 20 (content-byte bytes all)))))

-- the sum of a reply
sum-told : (reply : List ℕ) → length reply < 2 ^ 32 → IsSum (reply_sum reply)
sum-told reply short = record {
  count = short;
  long = length-sha256 reply;
  bytes = all-from (sha256 reply) (sha256_is_bytes reply);
}

-- a command that is answered
module _ (cmd : Cmd) (right : IsCommand cmd) where
  told : (answer : CommandAnswer) → IsAnswer answer → IsOutcome (answered cmd answer)
  told answer is = record { id = right.id; token = right.token; answer = is }

  told-answer : (status : ℕ) (reply : List ℕ) → status < 2 ^ 32 → length reply < 2 ^ 32
      → IsOutcome (command_outcome cmd status reply)
  told-answer status reply few short =
      told (answer_of cmd.id status reply) (either IsAnswer (status == OK) _ _
      (either IsAnswer (has_reply cmd.id) _ _ (sum-told reply short) tt) few)

-- a command of the host
module _ (c : Content) (host : Host) (cmd : Cmd) (payload : List ℕ) (content : IsContent c)
    (right : IsCommand cmd) where
  abbrev status : ℕ
  status = status_of (length c.flash) c.otp (table_of_found host.found) (is_some host.placing) cmd payload

  abbrev read_bytes : List ℕ
  read_bytes = slice_range c.flash (offset cmd) (offset cmd + size cmd)

  abbrev read_rows : List ℕ
  read_rows = bytes_of (slice_range c.otp (first_row cmd) (first_row cmd + row_count cmd))

  reply-few : length (reply_of c cmd) < 2 ^ 32
  reply-few =
      let flash = slice-few c.flash (offset cmd) (offset cmd + size cmd) in
      let rows = slice-few c.otp (first_row cmd) (first_row cmd + row_count cmd) in
      let long = length-bytes_of (slice_range c.otp (first_row cmd) (first_row cmd + row_count cmd)) in
      let most = content.flash_length.most in
      let count = content.otp_length in
      either (λ (r : List ℕ). length r < 2 ^ 32) (cmd.id == READ) _ _ (omega (arith, flash, most))
      (either (λ (r : List ℕ). length r < 2 ^ 32) (cmd.id == OTP_READ) _ _ (omega (arith, rows, long, count))
      (omega arith))

  host-serves : Serves (serves_host c host cmd payload)
  host-serves =
      either (λ (r : Command). Serves (host_result host cmd r)) (status == 0) _ _
      (told-answer cmd right OK (reply_of c cmd) (omega arith) reply-few)
      (told-answer cmd right status [] (host-small (length c.flash) c.otp (table_of_found host.found)
      (is_some host.placing) cmd payload) (omega arith))

-- a RAM command
module _ (c : Content) (cpu : Cpu) (host : Host) (cmd : Cmd) (payload : List ℕ) (sram : IsSram host.ram)
    (right : IsCommand cmd) where
  abbrev ram : List ℕ
  ram = host.ram

  abbrev ram_answer : ℕ
  ram_answer = ram_status c ram cpu (is_some host.placing) cmd payload

  abbrev from : ℕ
  from = reboot_p0 cmd - SRAM_START

  abbrev range : List ℕ
  range = reboot_range ram cmd

  abbrev ram_bytes : List ℕ
  ram_bytes = slice_range ram (address cmd - SRAM_START) (address cmd - SRAM_START + size cmd)

  ram_reply-few : length (ram_reply ram cmd) < 2 ^ 32
  ram_reply-few =
      let few = slice-few ram (address cmd - SRAM_START) (address cmd - SRAM_START + size cmd) in
      let long = sram.long in
      either (λ (r : List ℕ). length r < 2 ^ 32) (cmd.id == READ) _ _ (omega (arith, few, long)) (omega arith)

  started-shown : (s : Started) → ram_image c range (reboot_p0 cmd) cpu ≡ Ok s → IsShown s
  started-shown s is =
      let few = slice-few ram from (from + reboot_p1 cmd) in
      let long = sram.long in
      let short : length range < 2 ^ 32 = omega (arith, few, long) in
      let base = number-lt cmd.args 8 (content-byte cmd.args right.bytes) in
      shown-valid (in_ram (reboot_p0 cmd)) (ram_window (reboot_p0 cmd) range) cpu false c.otp range s
      (AreBytes-take (from + reboot_p1 cmd - from) (drop from ram)
      (AreBytes-drop from ram (content-byte ram sram.bytes))) short base base short
      (answered-valid (in_ram (reboot_p0 cmd)) (ram_window (reboot_p0 cmd) range) cpu false c.otp range s is)

  started : (o : Result Started Why) → ((s : Started) → o ≡ Ok s → IsShown s)
      → IsOutcome (ram_outcome cmd 0 (ram_reply ram cmd) (result_ok o))
  started (Ok s) shown = told cmd right (answers.RamStarted s) (shown s refl)
  started (Err why) shown = told-answer cmd right 0 (ram_reply ram cmd) (omega arith) ram_reply-few

  starting : (b : Bool)
      → IsOutcome (ram_outcome cmd 0 (ram_reply ram cmd) (if b then reboot_image c ram cpu cmd else None))
  starting true = started (ram_image c range (reboot_p0 cmd) cpu) started-shown
  starting false = told-answer cmd right 0 (ram_reply ram cmd) (omega arith) ram_reply-few

  ram-serves : Serves (serves_ram c cpu host cmd payload)
  ram-serves =
      either (λ (r : RamServed). IsOutcome (ram_outcome cmd r.status r.reply r.start)) (ram_answer == 0) _ _
      (starting (cmd.id == REBOOT))
      (told-answer cmd right ram_answer [] (ram-small c ram cpu (is_some host.placing) cmd payload) (omega arith))

-- an info command
module _ (c : Content) (cpu : Cpu) (found : Option Found) (cmd : Cmd) (payload : List ℕ)
    (right : IsCommand cmd) where
  info-small : info_status c cpu found cmd payload < 2 ^ 32
  unfolding info_status
  info-small =
      small (info_checks (device_of c cpu) (table_slot_of found) (table_of_found found)
      (asked_target c (table_of_found found) cpu (ask_in cmd)) cmd payload)
      (omega arith, (omega arith, (omega arith, by (ask_in cmd))))
    where
      by : (o : Option Ask) → AreSmall (checks_of_reply (device_of c cpu) (table_slot_of found) (table_of_found found)
          (asked_target c (table_of_found found) cpu (ask_in cmd)) o cmd)
      by None = tt
      by (Some ask) = (omega arith, (omega arith, tt))

  both-pass : (a b : Bool) → first_failing (check NOT_FOUND a ∷ check BUFFER_TOO_SMALL b ∷ []) ≡ 0 → b ≡ true
  both-pass true true e = refl
  both-pass true false e = absurd (omega (arith, e))
  both-pass false b e = absurd (omega (arith, e))

  fits : (ask : Ask)
      → first_failing (reply_checks (table_of_found found) ask (info_words c cpu found (Some ask)) cmd) ≡ 0
      → 4 * length (info_words c cpu found (Some ask)) < 2 ^ 32
  fits ask e =
      let test = both-pass (is_there (table_of_found found) ask)
      (nat_le (4 * length (info_words c cpu found (Some ask))) cmd.transfer) e in
      let most = leb-true (4 * length (info_words c cpu found (Some ask))) cmd.transfer test in
      let few = right.transfer in
      omega (arith, most, few)

  info-few : (r : Result Ask ℕ) → asked_info cmd payload ≡ r
      → length (info_reply (info_status c cpu found cmd payload) c cpu found cmd) < 2 ^ 32
  info-few (Ok ask) is =
      subst (λ s. length (info_reply s c cpu found cmd) < 2 ^ 32)
      (status-asked c cpu found cmd payload ask
      (first_failing (reply_checks (table_of_found found) ask (info_words c cpu found (Some ask)) cmd)) is refl)
      (few-asked c cpu found cmd payload ask
      (first_failing (reply_checks (table_of_found found) ask (info_words c cpu found (Some ask)) cmd)) is (fits ask))
  info-few (Err status) is =
      subst (λ s. length (info_reply s c cpu found cmd) < 2 ^ 32) (status-refused c cpu found cmd payload status is)
      (few-refused c cpu found cmd payload status is)

  info-tells : IsOutcome (command_outcome cmd (info_status c cpu found cmd payload)
      (info_reply (info_status c cpu found cmd payload) c cpu found cmd))
  info-tells =
      told-answer cmd right (info_status c cpu found cmd payload)
      (info_reply (info_status c cpu found cmd payload) c cpu found cmd) info-small
      (info-few (asked_info cmd payload) refl)

-- a UF2 block
module _ (host : Host) (b : Uf2) (number : b.number < 2 ^ 32) where
  taken-serves : (t : Target) (blocks : List Uf2) (steps : List Step) → Serves (taken_in host t blocks b steps)
  taken-serves t blocks steps = either Serves (is_whole_download blocks) _ _ number number

  block-serves : (r : Ruling) → Serves (block_served host b r)
  block-serves (Answered (Ok accepted)) = number
  block-serves (Answered (Err NoTarget)) = tt
  block-serves (Answered (Err Outside)) = tt
  block-serves (Answered (Err NotPermitted)) = tt
  block-serves (Answered (Err Lost)) = tt
  block-serves (Begins t) = taken-serves t (b ∷ []) (grown t [] (b ∷ []))
  block-serves (Continues t) =
      taken-serves t (blocks_of host.placing ++ b ∷ [])
      (grown t (blocks_of host.placing) (blocks_of host.placing ++ b ∷ []))

abbrev AreIn : Content → List Step → Type 0
AreIn c steps = AllByRecursion (IsStepIn (length c.flash)) steps

front : (P : Step → Type 0) (xs ys : List Step) → AllByRecursion P (xs ++ ys) → AllByRecursion P xs
front P [] ys all = tt
front P (x ∷ xs) ys all = (all.0, front P xs ys all.1)

-- the events of a host
module _ (c : Content) (cpu : Cpu) (host : Host) (content : IsContent c) (sram : IsSram host.ram) where
  command-serves : (r : Result Cmd CmdFault) (payload : List ℕ) → IsRead r
      → Serves (command_served c cpu host r payload)
  command-serves (Ok cmd) payload right =
      either Serves (cmd.id == INFO) _ _ (info-tells c cpu host.found cmd payload right)
      (either Serves (is_ram_command cmd) _ _ (ram-serves c cpu host cmd payload sram right)
      (host-serves c host cmd payload content right))
  command-serves (Err fault) payload right = tt

  uf2-serves : (r : Result Uf2 Uf2Fault) → IsNumbered r → Serves (uf2_served c cpu host r)
  uf2-serves (Ok b) number =
      block-serves host b number (ruling_on (length c.flash) (table_of_found host.found)
      (target_of c (table_of_found host.found) cpu b.family) host.placing b)
  uf2-serves (Err fault) number = tt

  followed-tells : (s : ServedEvent) (boot : Option BootKind) → Serves s
      → AreIn c (followed_by c cpu s boot).steps → IsOutcome (followed_by c cpu s boot).outcome
  followed-tells s None tells all = tells
  followed-tells s (Some kind) tells all =
      boot-told s.outcome (decision_in (after_all c s.steps) cpu kind) tells
      (decided (after_all c s.steps) cpu kind (IsContent-after_all c s.steps content
      (front (IsStepIn (length c.flash)) s.steps _ all)))

place-tells : (c : Content) (cpu : Cpu) (place : StateView) (event : EventView) → IsContent c → HasSram place
    → HasHostBytes event → AreIn c (effect_in c cpu place event).steps → IsOutcome (effect_in c cpu place event).outcome
place-tells c cpu Off EventView.PowerOn content sram bytes all =
    decided c cpu Normal content
place-tells c cpu Off EventView.End content sram bytes all = tt
place-tells c cpu Off EventView.Buy content sram bytes all = tt
place-tells c cpu Off (EventView.Command command payload) content sram bytes all = tt
place-tells c cpu Off (EventView.Uf2 block) content sram bytes all = tt
place-tells c cpu Off (EventView.Cut left within pattern) content sram bytes all = tt
place-tells c cpu Off (EventView.Reset kind) content sram bytes all = tt
place-tells c cpu (InBootsel host) (EventView.Command command payload) content sram bytes all =
    let s = served_event c cpu host (EventView.Command command payload) in
    followed-tells c cpu host content sram s s.boot
    (command-serves c cpu host content sram (command_in command) payload (command-read command bytes)) all
place-tells c cpu (InBootsel host) (EventView.Uf2 block) content sram bytes all =
    let s = served_event c cpu host (EventView.Uf2 block) in
    followed-tells c cpu host content sram s s.boot
    (uf2-serves c cpu host content sram (uf2_of block) (block-read block bytes)) all
place-tells c cpu (InBootsel host) (EventView.Reset kind) content sram bytes all =
    decided c cpu kind content
place-tells c cpu (InBootsel host) EventView.End content sram bytes all = tt
place-tells c cpu (InBootsel host) EventView.PowerOn content sram bytes all = tt
place-tells c cpu (InBootsel host) EventView.Buy content sram bytes all = tt
place-tells c cpu (InBootsel host) (EventView.Cut left within pattern) content sram bytes all =
    tt
place-tells c cpu (Running program) (EventView.Reset kind) content sram bytes all =
    decided c cpu kind content
place-tells c cpu (Running (FromFlash choice)) EventView.Buy content sram bytes all =
    either (λ (e : Effect). IsOutcome e.outcome) choice.image.trial _ _ tt tt
place-tells c cpu (Running (FromRam image)) EventView.Buy content sram bytes all = tt
place-tells c cpu (Running program) EventView.PowerOn content sram bytes all = tt
place-tells c cpu (Running program) EventView.End content sram bytes all = tt
place-tells c cpu (Running program) (EventView.Command command payload) content sram bytes all =
    tt
place-tells c cpu (Running program) (EventView.Uf2 block) content sram bytes all = tt
place-tells c cpu (Running program) (EventView.Cut left within pattern) content sram bytes all =
    tt

effect-tells : (m : MachineView) (event : EventView) → AreInRange m event → IsOutcome (effect m event).outcome
effect-tells m (EventView.Cut left within pattern) is = tt
effect-tells m EventView.End is = tt
effect-tells m (EventView.Command command payload) is =
    place-tells m.content m.cpu m.place (EventView.Command command payload) is.content is.sram is.bytes is.steps
effect-tells m (EventView.Uf2 block) is =
    place-tells m.content m.cpu m.place (EventView.Uf2 block) is.content is.sram is.bytes is.steps
effect-tells m EventView.PowerOn is =
    place-tells m.content m.cpu m.place EventView.PowerOn is.content is.sram is.bytes is.steps
effect-tells m (EventView.Reset kind) is =
    place-tells m.content m.cpu m.place (EventView.Reset kind) is.content is.sram is.bytes is.steps
effect-tells m EventView.Buy is =
    place-tells m.content m.cpu m.place EventView.Buy is.content is.sram is.bytes is.steps

pub move-tells : (m n : MachineView) (event : EventView) (outcome : EventOutcome) → AreInRange m event
    → Moves m event n outcome → IsOutcome outcome
move-tells m n event outcome is (inl done) = subst IsOutcome (sym done.told) (effect-tells m event is)
move-tells m n event outcome is (inr lost) = subst IsOutcome (sym lost.told) tt
