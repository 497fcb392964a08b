-- How long the texts are.
use Rattle.std.proofs.Common.{◌≡◌, ℕ, suc, ◌+◌, ◌*◌, ◌^◌, ◌<◌, ◌≤◌, Bool, true, false, List, [], ◌∷◌, ◌++◌, length, Option, Some, None, IfSome, codes, decimal, if◌then◌else◌, ◌&&◌, ◌==◌, refl, ap, ◌∙◌, arith, length-append}
use Rattle.std.proofs.lemmas.Fmt.{decimal_digit}
use Rattle.std.specs.List.{flat_map}
use Rattle.pico_board.specs.declared.window.Window.{Window}
use Rattle.block_codec.specs.declared.versions.Version.{Version}
use Rattle.block_codec.proofs.WordLemmas.{AreBytes}
use Rattle.pico_board.proofs.ContentLemmas.{byte_at}
use Rattle.image_def.specs.declared.started.Started.{Started}
use Rattle.picoboot_cmd.specs.declared.kinds.TheConstants.{OK}
use Rattle.uf2_place.specs.declared.block.Uf2Fault.{Uf2Fault}
use Rattle.uf2_place.specs.declared.block.Uf2Fault.TheVariants.{Magic, Payload, Alignment, Number}
use Rattle.uf2_place.specs.declared.answer.Accepted.{Accepted}
use Rattle.uf2_place.specs.declared.answer.Accepted.TheVariants.{Skipped, Again, Taken, Done}
use Rattle.boot_rules.specs.declared.decision.Decision.{Decision}
use Rattle.boot_rules.specs.declared.decision.Decision.TheVariants.{Start, Bootsel}
use Rattle.boot_rules.specs.declared.decision.Fall.{Fall}
use Rattle.boot_rules.specs.declared.decision.Fall.TheVariants.{Requested, FlashOff, NoImage}
use Rattle.text_words.specs.Writing.{hex_digits, hex_word, yes_or_no}
use Rattle.text_lines.specs.declared.outcome.ReplySum.{ReplySum}
use Rattle.text_lines.specs.declared.outcome.CommandAnswer.{CommandAnswer}
use Rattle.text_lines.specs.declared.outcome.CommandAnswer.TheVariants as answers
use Rattle.text_lines.specs.declared.outcome.CommandOutcome.{CommandOutcome}
use Rattle.text_lines.specs.declared.outcome.Refusal.{Refusal}
use Rattle.text_lines.specs.declared.outcome.Refusal.TheVariants.{NoTarget, Outside, NotPermitted}
use Rattle.text_lines.specs.declared.outcome.BlockOutcome.{BlockOutcome}
use Rattle.text_lines.specs.declared.outcome.BlockOutcome.TheVariants as blocks
use Rattle.text_lines.specs.declared.outcome.EventOutcome.{EventOutcome}
use Rattle.text_lines.specs.declared.outcome.EventOutcome.TheVariants as events
use Rattle.text_lines.specs.Texts.{range_text, entry_text, version_text, rollback_text, standing_text, rest_text, start_text, fall_text, decision_text}
use Rattle.text_lines.specs.Events.{IsAnswered, IsAnswer, IsBlockOutcome, IsDecided, IsOutcome, IsShown, IsSum, accepted_text, answer_text, block_text, booted_text, command_text, done_word, form_text, numbered_text, outcome_text, ram_start_text, refusal_text, reply_text, status_in, status_text}
use Rattle.text_words.proofs.HexLemmas.{length_eight, length_two}
use Rattle.text_words.proofs.DecimalLemmas.{length_number, length_short}

length_range : (w : Window) → w.start < 2 ^ 32 → w.len < 2 ^ 32 → length (range_text w) ≡ 21
length_range w start len =
    let both = length-append (hex_word w.start) (codes "+" ++ hex_word w.len) in
    omega (arith, both, length_eight w.start start, length_eight w.len len)

length_entry : (s : Started) → IsShown s → length (entry_text s) ≡ 61
length_entry s shown =
    let limit = codes " limit=" ++ hex_word s.limit in
    let sp = codes " sp=" ++ (hex_word s.sp ++ limit) in
    let pc = codes " pc=" ++ (hex_word s.pc ++ sp) in
    omega (
      arith,
      length_eight s.block shown.block,
      length_eight s.pc shown.pc,
      length_eight s.sp shown.sp,
      length_eight s.limit shown.limit,
      length-append (hex_digits 8 s.block) pc,
      length-append (hex_digits 8 s.pc) sp,
      length-append (hex_digits 8 s.sp) limit,
    )

length_version : (v : Version) → v.major < 2 ^ 16 → v.minor < 2 ^ 16 → length (version_text v) ≤ 19
length_version v major minor =
    omega (
      arith,
      length_short v.major major,
      length_short v.minor minor,
      length-append (decimal v.major) (codes "." ++ decimal v.minor),
    )

length_rollback : (rollback : Option ℕ) → IfSome rollback (λ v. v < 2 ^ 16) → length (rollback_text rollback) ≤ 5
length_rollback None small = omega arith
length_rollback (Some version) small = length_short version small

length_yes : (yes : Bool) → length (yes_or_no yes) ≤ 3
length_yes true = omega arith
length_yes false = omega arith

length_standing : (s : Started) → IsShown s → length (standing_text s) ≤ 25
length_standing s shown =
    omega (
      arith,
      length_rollback s.rollback shown.rollback,
      length_yes s.trial,
      length-append (rollback_text s.rollback) (codes " trial=" ++ yes_or_no s.trial),
    )

length_rest : (s : Started) → IsShown s → length (rest_text s) ≤ 107
length_rest s shown =
    let after = version_text s.version ++ standing_text s in
    omega (
      arith,
      length_entry s shown,
      length_version s.version shown.major shown.minor,
      length_standing s shown,
      length-append (entry_text s) (codes " " ++ after),
      length-append (version_text s.version) (standing_text s),
    )

length_start : (s : Started) → IsShown s → length (start_text s) ≤ 141
length_start s shown =
    omega (
      arith,
      length_range s.window shown.start shown.len,
      length_rest s shown,
      length-append (range_text s.window) (rest_text s),
    )

length_fall : (fall : Fall) → length (fall_text fall) ≤ 141
length_fall Requested = omega arith
length_fall FlashOff = omega arith
length_fall NoImage = omega arith

length_decision : (d : Decision) → IsDecided d → length (decision_text d) ≤ 141
length_decision (Start choice) shown = length_start choice.image shown
length_decision (Bootsel fall) shown = length_fall fall

length_ram_start : (s : Started) → IsShown s → length (ram_start_text s) ≤ 144
length_ram_start s shown =
    omega (
      arith,
      length_range s.window shown.start shown.len,
      length_rest s shown,
      length-append (range_text s.window) (rest_text s),
    )

length_pairs : (bytes : List ℕ) → AreBytes bytes → length (flat_map (hex_digits 2) bytes) ≡ 2 * length bytes
length_pairs [] are = refl
length_pairs (b ∷ bytes) are =
    omega (
      arith,
      length_two b (are 0),
      length_pairs bytes (λ i. are (suc i)),
      length-append (hex_digits 2 b) (flat_map (hex_digits 2) bytes),
    )

length_reply : (reply : ReplySum) → IsSum reply → length (reply_text reply) ≤ 89
length_reply reply is =
    let pairs = flat_map (hex_digits 2) reply.digest in
    omega (
      arith,
      length_number reply.count is.count,
      length_pairs reply.digest (byte_at reply.digest is.bytes),
      is.long,
      length-append (decimal reply.count) (codes " sha256=" ++ pairs),
    )

length_status : (id token status : ℕ) → id < 256 → token < 2 ^ 32
    → length (status_text id token status) ≡ length (decimal status) + 33
length_status id token status one two =
    let after = codes " token=" ++ (hex_word token ++ (codes " status=" ++ decimal status)) in
    omega (
      arith,
      length_two id one,
      length_eight token two,
      length-append (hex_digits 2 id) after,
      length-append (hex_digits 8 token) (codes " status=" ++ decimal status),
    )

length_digit : length (decimal OK) ≡ 1
length_digit = ap length (decimal_digit OK (omega arith))

length_command : (c : CommandOutcome) → IsAnswered c → length (command_text c) ≤ 181
length_command c is = by c.answer is.answer
  where
    front : (status : ℕ) → length (status_text c.id c.token status) ≡ length (decimal status) + 33
    front status = length_status c.id c.token status is.id is.token

    by : (a : CommandAnswer) → IsAnswer a
        → length (status_text c.id c.token (status_in a) ++ answer_text a) ≤ 181
    by (answers.Refused status) small =
        omega (arith, front status, length_number status small, length-append (status_text c.id c.token status) [])
    by answers.Done right =
        omega (arith, front OK, length_digit, length-append (status_text c.id c.token OK) [])
    by (answers.Replied reply) right =
        omega (
          arith,
          front OK,
          length_digit,
          length_reply reply right,
          length-append (status_text c.id c.token OK) (reply_text reply),
        )
    by (answers.Booted d) right =
        omega (
          arith,
          front OK,
          length_digit,
          length_decision d right,
          length-append (status_text c.id c.token OK) (booted_text d),
        )
    by (answers.RamStarted image) right =
        omega (
          arith,
          front OK,
          length_digit,
          length_ram_start image right,
          length-append (status_text c.id c.token OK) (ram_start_text image),
        )

length_done : (stay : Bool) → length (if stay then codes "done stay" else codes "done") ≤ 9
length_done true = omega arith
length_done false = omega arith

length_numbered : (number : ℕ) (word : List ℕ) → number < 2 ^ 32
    → length (numbered_text number word) ≤ length word + 15
length_numbered number word small =
    omega (arith, length_number number small, length-append (decimal number) (codes " " ++ word))

length_accepted : (number : ℕ) (accepted : Accepted) → number < 2 ^ 32
    → length (accepted_text number accepted) ≤ 24
length_accepted number Skipped small = omega arith
length_accepted number Again small = omega (arith, length_numbered number (codes "again") small)
length_accepted number Taken small = omega (arith, length_numbered number (codes "taken") small)
length_accepted number (Done target) small =
    omega (arith, length_numbered number (done_word target) small, length_done target.stay)

length_form : (fault : Uf2Fault) → length (form_text fault) ≤ 181
length_form Magic = omega arith
length_form Payload = omega arith
length_form Alignment = omega arith
length_form Number = omega arith

length_refusal : (refusal : Refusal) → length (refusal_text refusal) ≤ 181
length_refusal NoTarget = omega arith
length_refusal Outside = omega arith
length_refusal NotPermitted = omega arith

length_block : (b : BlockOutcome) → IsBlockOutcome b → length (block_text b) ≤ 181
length_block (blocks.BadForm fault) is = length_form fault
length_block (blocks.Refused refusal) is = length_refusal refusal
length_block (blocks.Accepted number accepted) is = omega (arith, length_accepted number accepted is)
length_block (blocks.Downloaded number decision) is =
    omega (
      arith,
      length_numbered number (codes "done") is.0,
      length_decision decision is.1,
      length-append (numbered_text number (codes "done")) (booted_text decision),
    )

pub length_outcome : (outcome : EventOutcome) → IsOutcome outcome → length (outcome_text outcome) ≤ 181
length_outcome events.Off is = omega arith
length_outcome events.Ignored is = omega arith
length_outcome events.Ended is = omega arith
length_outcome events.CutArmed is = omega arith
length_outcome events.PowerLost is = omega arith
length_outcome (events.Booted decision) is = omega (arith, length_decision decision is)
length_outcome events.Bought is = omega arith
length_outcome events.NothingToBuy is = omega arith
length_outcome events.BadMagic is = omega arith
length_outcome (events.Command c) is = length_command c is
length_outcome (events.Block b) is = length_block b is
