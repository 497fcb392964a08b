-- The steps of a command lie in the content.
use Rattle.std.proofs.Common.{◌≡◌, ◌≢◌, ℕ, zero, suc, ◌+◌, ◌*◌, ◌/◌, ◌%◌, ◌^◌, ◌<◌, ◌≤◌, Bool, true, false, cond, ◌&&◌, ◌==◌, nat_lt, List, [], ◌∷◌, None, length, refl, sym, subst, arith, inl, inr, All}
use Rattle.std.specs.Prelude.{Option, take, drop}
use Rattle.std.proofs.lemmas.Bool.{cases_eq}
use Rattle.std.proofs.lemmas.Bool.Decides.{nat_tests}
use Rattle.std.proofs.lemmas.List.Elements.{All-nil, All-cons}
use Rattle.pico_board.specs.declared.Step.TheVariants.{Erase, Program, Raise}
use Rattle.pico_board.specs.Content.{Content, IsContent}
use Rattle.pico_board.specs.Steps.{IsStepIn}
use Rattle.block_codec.specs.Words.{words_of}
use Rattle.block_codec.proofs.WordLemmas.{length-words_of}
use Rattle.part_table.specs.declared.table.Table.{Table}
use Rattle.picoboot_cmd.specs.declared.cmd.Cmd.{Cmd}
use Rattle.picoboot_cmd.specs.declared.kinds.TheConstants.{ERASE, WRITE, OTP_WRITE}
use Rattle.picoboot_cmd.specs.Arguments.{offset, size, first_row, row_count}
use Rattle.picoboot_cmd.specs.Checks.{is_inside, has_transfer, has_valid_arguments, status_of}
use Rattle.picoboot_cmd.specs.Pages.{padded_page, programs_of}
use Rattle.picoboot_cmd.specs.Rows.{are_row_words, word_raises}
use Rattle.picoboot_cmd.specs.Sectors.{erases}
use Rattle.picoboot_cmd.specs.Served.{IsReady, ServedCommand, served_by_status, command_steps, reply_of, boot_of}
use Rattle.picoboot_cmd.proofs.ByCommandLemmas.{with_id}
use Rattle.picoboot_cmd.proofs.PassingLemmas.{in_flash, ready, pages-inside}

erases-inside : (n first k : ℕ) → 4096 * (first + k) ≤ n → All (IsStepIn n) (erases first k)
erases-inside n first zero inside = All-nil (IsStepIn n)
erases-inside n first (suc k) inside =
    All-cons (IsStepIn n) (Erase first) (erases (first + 1) k) (omega arith)
    (erases-inside n (first + 1) k (omega arith))

programs-inside : (n k page : ℕ) (bytes : List ℕ) → 256 * (page + k) ≤ n → All (IsStepIn n) (programs_of k page bytes)
programs-inside n zero page bytes inside = All-nil (IsStepIn n)
programs-inside n (suc k) page bytes inside =
    All-cons (IsStepIn n) (Program page (padded_page (take 256 bytes))) (programs_of k (page + 1) (drop 256 bytes))
    (omega arith) (programs-inside n k (page + 1) (drop 256 bytes) (omega arith))

both_of : (a b : Bool) → (a && b) ≡ true → (a ≡ true) × (b ≡ true)
both_of true b e = (refl, e)
both_of false b e = cc

narrow : (w : ℕ) → nat_lt w (2 ^ 24) ≡ true → w < 2 ^ 24
narrow w test = grind (arith, nat_tests)

raises-inside : (n row : ℕ) (words : List ℕ) → row + length words ≤ 4096 → are_row_words words ≡ true
    → All (IsStepIn n) (word_raises row words)
raises-inside n row [] inside narrow_all = All-nil (IsStepIn n)
raises-inside n row (w ∷ words) inside narrow_all =
    let parts = both_of _ _ narrow_all in
    All-cons (IsStepIn n) (Raise row w) (word_raises (row + 1) words) (omega arith, narrow w (parts.0))
    (raises-inside n (row + 1) words (omega arith) (parts.1))

module _ (n : ℕ) (whole : n % 4096 ≡ 0) (cmd : Cmd) (payload : List ℕ) (is : IsReady n cmd payload) where
  of_erase : cmd.id ≡ ERASE → All (IsStepIn n) (command_steps cmd payload)
  of_erase id =
      let inside : offset cmd + size cmd ≤ n =
      in_flash n cmd payload (subst (λ id. is_inside (with_id cmd id) n ≡ true) id is.inside) in
      subst (λ id. All (IsStepIn n) (command_steps (with_id cmd id) payload)) (sym id)
      (erases-inside n (offset cmd / 4096) (size cmd / 4096) (omega (arith, inside)))

  of_write : cmd.id ≡ WRITE → All (IsStepIn n) (command_steps cmd payload)
  of_write id =
      subst (λ id. All (IsStepIn n) (command_steps (with_id cmd id) payload)) (sym id)
      (programs-inside n ((length payload + 255) / 256) (offset cmd / 256) payload
      (pages-inside n cmd payload id is whole))

  of_otp_write : cmd.id ≡ OTP_WRITE → All (IsStepIn n) (command_steps cmd payload)
  of_otp_write id =
      let inside : first_row cmd + row_count cmd ≤ 4096 =
      (let test = subst (λ id. is_inside (with_id cmd id) n ≡ true) id is.inside in grind (arith, nat_tests, test)) in
      let transfer : (cmd.transfer == 4 * row_count cmd && length payload == cmd.transfer) ≡ true =
      subst (λ id. has_transfer (with_id cmd id) payload ≡ true) id is.transfer in
      let long : length payload ≡ 4 * row_count cmd = grind (arith, nat_tests, transfer) in
      let valid = subst (λ id. has_valid_arguments (with_id cmd id) payload ≡ true) id is.arguments in
      let count = length-words_of payload in
      subst (λ id. All (IsStepIn n) (command_steps (with_id cmd id) payload)) (sym id)
      (raises-inside n (first_row cmd) (words_of payload) (omega (arith, inside, long, count)) ((both_of _ _ valid).1))

  of_other : cmd.id ≢ ERASE → cmd.id ≢ WRITE → cmd.id ≢ OTP_WRITE → All (IsStepIn n) (command_steps cmd payload)
  of_other erase write otp_write =
      let none : command_steps cmd payload ≡ [] = grind (arith, nat_tests, erase, write, otp_write) in
      subst (λ steps. All (IsStepIn n) steps) (sym none) (All-nil (IsStepIn n))

  pub steps-inside : All (IsStepIn n) (command_steps cmd payload)
  steps-inside = elim (cases_eq cmd.id ERASE) [
    | inl erase ↦ of_erase erase
    | inr no_erase ↦ elim (cases_eq cmd.id WRITE) [
      | inl write ↦ of_write write
      | inr no_write ↦ elim (cases_eq cmd.id OTP_WRITE) [
        | inl otp_write ↦ of_otp_write otp_write
        | inr no_otp_write ↦ of_other no_erase no_write no_otp_write
      ]
    ]
  ]

by_status : (n : ℕ) (b : Bool) (done other : ServedCommand) → (b ≡ true → All (IsStepIn n) done.steps)
    → other.steps ≡ []
    → All (IsStepIn n) (cond b done other).steps
by_status n true done other all none = all refl
by_status n false done other all none = subst (λ steps. All (IsStepIn n) steps) (sym none) (All-nil (IsStepIn n))

zero_status : (status : ℕ) → (status == 0) ≡ true → status ≡ 0
zero_status status test = grind (arith, nat_tests)

pub command-inside : (c : Content) (t : Option Table) (busy : Bool) (cmd : Cmd) (payload : List ℕ) → IsContent c
    → All (IsStepIn (length c.flash)) (served_by_status
    (status_of (length c.flash) c.otp t busy cmd payload) c cmd payload).steps
command-inside c t busy cmd payload is =
    let status = status_of (length c.flash) c.otp t busy cmd payload in
    by_status (length c.flash) _
    (record { status = 0; steps = command_steps cmd payload; reply = reply_of c cmd; boot = boot_of cmd })
    (record { status = status; steps = []; reply = []; boot = None })
    (λ passes. steps-inside (length c.flash) is.flash_length.whole cmd payload
    (ready (length c.flash) c.otp t busy cmd payload (zero_status _ passes))) refl
