-- What an info command is answered.
use Rattle.std.proofs.Common.{◌≡◌, ◌≢◌, ℕ, Bool, true, false, List, [], length, Ok, Err, Option, Some, refl, sym, ap, ◌∙◌, subst, ◌%◌, ◌==◌, ◌&&◌}
use Rattle.std.specs.Prelude.{if◌then◌else◌, ◌*◌, ◌<◌, ◌^◌}
use Rattle.std.proofs.Common.{arith}
use Rattle.block_codec.proofs.WordLemmas.{length-bytes_of}
use Rattle.block_codec.specs.Words.{bytes_of}
use Rattle.pico_board.specs.declared.boot.Cpu.{Cpu}
use Rattle.pico_board.specs.Content.{Content}
use Rattle.picoboot_cmd.specs.declared.cmd.Cmd.{Cmd}
use Rattle.picoboot_cmd.specs.declared.reply.HashReply.{HashReply}
use Rattle.picoboot_cmd.specs.Checks.{first_failing}
use Rattle.picoboot_cmd.specs.Replies.{HasTakenBytes}
use Rattle.info_reply.specs.declared.ask.Ask.{Ask}
use Rattle.info_reply.specs.declared.kinds.TheConstants.{INFO_SIZE}
use Rattle.info_reply.specs.Asks.{ask_in, asked_info, reply_checks}
use Rattle.info_reply.specs.Statuses.{checks_of_reply}
use Rattle.info_reply.proofs.AskingLemmas.{asks, err-parts, ok-parts, refused}
use Rattle.boot_rules.specs.declared.tables.Found.{Found}
use Rattle.boot_machine.specs.Serving.{asked_target, device_of, info_reply, info_status, info_words, table_slot_of, table_of_found}

module _ (c : Content) (cpu : Cpu) (found : Option Found) (cmd : Cmd) (payload : List ℕ) where
  abbrev size : Bool
  size = cmd.arg_size == INFO_SIZE

  abbrev transfer : Bool
  transfer = cmd.transfer % 4 == 0 && length payload == 0

  pub ask-in : (ask : Ask) → asked_info cmd payload ≡ Ok ask → ask_in cmd ≡ Some ask
  ask-in ask is = (ok-parts size transfer (ask_in cmd) ask is).1

  -- the status of a command that asks for something is that of its reply
  pub status-asked : (ask : Ask) (status : ℕ) → asked_info cmd payload ≡ Ok ask
      → status ≡ first_failing (reply_checks (table_of_found found) ask (info_words c cpu found (Some ask)) cmd)
      → status ≡ info_status c cpu found cmd payload
  unfolding info_status
  status-asked ask status is same =
      let target = asked_target c (table_of_found found) cpu (ask_in cmd) in
      let moved = ap (λ o. first_failing (reply_checks (table_of_found found) ask
      (info_words c cpu found o) cmd)) (ask-in ask is) in
      same ∙ whole ∙ sym
      (asks size transfer (ask_in cmd) (λ o. checks_of_reply (device_of c cpu) (table_slot_of found)
      (table_of_found found)
      target o cmd) ask is)
    where
      whole : first_failing (reply_checks (table_of_found found) ask (info_words c cpu found (Some ask)) cmd)
          ≡ first_failing (checks_of_reply (device_of c cpu) (table_slot_of found) (table_of_found found)
          (asked_target c (table_of_found found) cpu (ask_in cmd)) (Some ask) cmd)
      whole = ap (λ o. first_failing (checks_of_reply (device_of c cpu) (table_slot_of found) (table_of_found found)
          (asked_target c (table_of_found found) cpu o) (Some ask) cmd)) (sym (ask-in ask is))

  -- the status of a command that asks for something and is refused is that of the first of its checks that fails
  pub status-refused : (status : ℕ) → asked_info cmd payload ≡ Err status → status ≡ info_status c cpu found cmd payload
  unfolding info_status
  status-refused status is =
      sym (refused size transfer (ask_in cmd) (λ o.
      checks_of_reply (device_of c cpu) (table_slot_of found) (table_of_found found)
      (asked_target c (table_of_found found) cpu (ask_in cmd)) o cmd) status is)

  -- the reply of what is asked for
  pub reply-asked : (ask : Ask) (status : ℕ) (r : HashReply) → asked_info cmd payload ≡ Ok ask
      → HasTakenBytes r (if status == 0 then bytes_of (info_words c cpu found (Some ask)) else [])
      → HasTakenBytes r (info_reply status c cpu found cmd)
  unfolding info_reply
  reply-asked ask status r is taken =
      subst (λ o. HasTakenBytes r (if status == 0 then bytes_of (info_words c cpu found o) else []))
      (sym (ask-in ask is))
      taken

  -- nothing is replied to a refused command
  pub reply-refused : (status : ℕ) (r : HashReply) → asked_info cmd payload ≡ Err status → HasTakenBytes r []
      → HasTakenBytes r (info_reply status c cpu found cmd)
  unfolding info_reply
  reply-refused status r is taken = by (status == 0) refl
    where
      no : (status ≢ 0)
      no = (err-parts size transfer (ask_in cmd) status is).0

      by : (b : Bool) → (status == 0) ≡ b
          → HasTakenBytes r (if status == 0 then bytes_of (info_words c cpu found (ask_in cmd)) else [])
      by true zero = absurd (no (grind (arith, zero)))
      by false zero = rw zero taken

  few-by : (status : ℕ) (words : List ℕ) → (status ≡ 0 → 4 * length words < 2 ^ 32)
      → length (if status == 0 then bytes_of words else []) < 2 ^ 32
  few-by status words few = by (status == 0) refl
    where
      by : (b : Bool) → (status == 0) ≡ b → length (if status == 0 then bytes_of words else []) < 2 ^ 32
      by true zero = rw (zero, length-bytes_of words) (few (grind (arith, zero)))
      by false zero = rw zero (omega arith)

  -- a reply is no longer than the transfer length
  pub few-asked : (ask : Ask) (status : ℕ) → asked_info cmd payload ≡ Ok ask
      → (status ≡ 0 → 4 * length (info_words c cpu found (Some ask)) < 2 ^ 32)
      → length (info_reply status c cpu found cmd) < 2 ^ 32
  unfolding info_reply
  few-asked ask status is few =
      few-by status (info_words c cpu found (ask_in cmd)) (λ zero.
      subst (λ o. 4 * length (info_words c cpu found o) < 2 ^ 32) (sym (ask-in ask is)) (few zero))

  pub few-refused : (status : ℕ) → asked_info cmd payload ≡ Err status
      → length (info_reply status c cpu found cmd) < 2 ^ 32
  unfolding info_reply
  few-refused status is =
      few-by status (info_words c cpu found (ask_in cmd))
      (λ zero. absurd ((err-parts size transfer (ask_in cmd) status is).0 zero))
