-- Replies are short, and what is told of a command.
use Rattle.std.proofs.Common.{◌≡◌, ℕ, zero, suc, ◌+◌, ◌-◌, ◌<◌, ◌≤◌, ◌^◌, ◌==◌, Bool, true, false, List, [], ◌∷◌, arith, length, Option, refl, ap, ◌∙◌}
use Rattle.std.specs.Prelude.{if◌then◌else◌, slice_range, take, drop}
use Rattle.block_codec.specs.Words.{bytes_of}
use Rattle.block_codec.proofs.WordLemmas.{length-bytes_of}
use Rattle.pico_board.specs.declared.boot.Cpu.{Cpu}
use Rattle.pico_board.specs.Content.{Content, IsContent}
use Rattle.part_table.specs.declared.Table.{Table}
use Rattle.picoboot_cmd.specs.declared.cmd.Cmd.{Cmd}
use Rattle.picoboot_cmd.specs.declared.kinds.TheConstants.{OTP_READ, READ}
use Rattle.picoboot_cmd.specs.Arguments.{address, first_row, offset, row_count, size}
use Rattle.picoboot_cmd.specs.Checks.{status_of}
use Rattle.picoboot_cmd.specs.declared.applying.Done.{Done}
use Rattle.picoboot_cmd.specs.declared.reply.HashReply.{HashReply}
use Rattle.picoboot_cmd.specs.Replies.{HasTakenBytes}
use Rattle.picoboot_cmd.specs.Served.{served_on, done_of, reply_of}
use Rattle.load_map.specs.declared.addresses.TheConstants.{SRAM_START}
use Rattle.ram_start.specs.Serving.{ram_command, ram_reply, ram_status}
use Rattle.text_lines.specs.Outcomes.{command_outcome}
use Rattle.text_lines.specs.declared.outcome.EventOutcome.{EventOutcome}

take-most : {X : Type 0} (k : ℕ) (xs : List X) → length (take k xs) ≤ k
take-most zero xs = omega arith
take-most (suc k) [] = omega arith
take-most (suc k) (x ∷ xs) = let rest = take-most k xs in omega (arith, rest)

take-few : {X : Type 0} (k : ℕ) (xs : List X) → length (take k xs) ≤ length xs
take-few zero xs = omega arith
take-few (suc k) [] = omega arith
take-few (suc k) (x ∷ xs) = let rest = take-few k xs in omega (arith, rest)

drop-few : {X : Type 0} (k : ℕ) (xs : List X) → length (drop k xs) ≤ length xs
drop-few zero xs = omega arith
drop-few (suc k) [] = omega arith
drop-few (suc k) (x ∷ xs) = let rest = drop-few k xs in omega (arith, rest)

slice-most : {X : Type 0} (xs : List X) (a n : ℕ) → length (slice_range xs a (a + n)) ≤ n
slice-most xs a n = let most = take-most (a + n - a) (drop a xs) in omega (arith, most)

pub slice-few : {X : Type 0} (xs : List X) (a b : ℕ) → length (slice_range xs a b) ≤ length xs
slice-few xs a b =
    let most = take-few (b - a) (drop a xs) in let few = drop-few a xs in omega (arith, most, few)

if-few : (n : ℕ) (b : Bool) (xs ys : List ℕ) → length xs < n → length ys < n → length (if b then xs else ys) < n
if-few n true xs ys one two = one
if-few n false xs ys one two = two

-- the reply of a RAM command
pub ram-few : (c : Content) (ram : List ℕ) (cpu : Cpu) (busy : Bool) (cmd : Cmd) (payload : List ℕ) → size cmd < 2 ^ 32
    → length (ram_command c ram cpu busy cmd payload).reply < 2 ^ 32
ram-few c ram cpu busy cmd payload most = by (ram_status c ram cpu busy cmd payload == 0) refl
  where
    here : length (ram_reply ram cmd) < 2 ^ 32
    here =
        let few = slice-most ram (address cmd - SRAM_START) (size cmd) in
        if-few (2 ^ 32) (cmd.id == READ)
        (slice_range ram (address cmd - SRAM_START) (address cmd - SRAM_START + size cmd)) []
        (omega (arith, few, most)) (omega arith)

    by : (b : Bool) → (ram_status c ram cpu busy cmd payload == 0) ≡ b
        → length (ram_command c ram cpu busy cmd payload).reply < 2 ^ 32
    by true is = rw is here
    by false is = rw is (omega arith)

-- the reply of a command of the host
pub host-few : (c : Content) (t : Option Table) (busy : Bool) (cmd : Cmd) (payload : List ℕ) → IsContent c
    → length (served_on c t busy cmd payload).reply < 2 ^ 32
host-few c t busy cmd payload right = by (status_of (length c.flash) c.otp t busy cmd payload == 0) refl
  where
    otp : length (bytes_of (slice_range c.otp (first_row cmd) (first_row cmd + row_count cmd))) < 2 ^ 32
    otp =
        let long = length-bytes_of (slice_range c.otp (first_row cmd) (first_row cmd + row_count cmd)) in
        let few = slice-few c.otp (first_row cmd) (first_row cmd + row_count cmd) in
        let rows = right.otp_length in
        omega (arith, long, few, rows)

    flash : length (slice_range c.flash (offset cmd) (offset cmd + size cmd)) < 2 ^ 32
    flash =
        let few = slice-few c.flash (offset cmd) (offset cmd + size cmd) in
        let most = right.flash_length.most in
        omega (arith, few, most)

    here : length (reply_of c cmd) < 2 ^ 32
    here =
        if-few (2 ^ 32) (cmd.id == READ) (slice_range c.flash (offset cmd) (offset cmd + size cmd))
        (if cmd.id == OTP_READ
        then bytes_of (slice_range c.otp (first_row cmd) (first_row cmd + row_count cmd)) else []) flash
        (if-few (2 ^ 32) (cmd.id == OTP_READ)
        (bytes_of (slice_range c.otp (first_row cmd) (first_row cmd + row_count cmd))) [] otp (omega arith))

    by : (b : Bool) → (status_of (length c.flash) c.otp t busy cmd payload == 0) ≡ b
        → length (served_on c t busy cmd payload).reply < 2 ^ 32
    by true is = rw is here
    by false is = rw is (omega arith)

-- what comes of a command of the host
pub host-told : (r : HashReply) (c : Content) (t u : Option Table) (busy : Bool) (cmd : Cmd) (payload : List ℕ)
    → IsContent c → t ≡ u → (outcome : EventOutcome) (done : Done) → done ≡ done_of (served_on c t busy cmd payload)
    → ((bytes : List ℕ) → HasTakenBytes r bytes → length bytes < 2 ^ 32
    → outcome ≡ command_outcome cmd done.status bytes)
    → HasTakenBytes r (served_on c t busy cmd payload).reply
    → outcome ≡ command_outcome cmd (served_on c u busy cmd payload).status (served_on c u busy cmd payload).reply
host-told r c t u busy cmd payload right same outcome done is told taken =
    told (served_on c t busy cmd payload).reply taken (host-few c t busy cmd payload right)
    ∙ ap (λ (d : Done). command_outcome cmd d.status (served_on c t busy cmd payload).reply) is
    ∙ ap (λ x. command_outcome cmd (served_on c x busy cmd payload).status (served_on c x busy cmd payload).reply) same
