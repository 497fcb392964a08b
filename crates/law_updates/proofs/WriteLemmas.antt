-- Writes of OTP rows on a content whose rows have more bits.
use Rattle.std.proofs.Common.{◌≡◌, ◌⊎◌, inl, inr, ℕ, zero, suc, ◌+◌, ◌*◌, ◌/◌, ◌<◌, ◌≤◌, ◌==◌, Bool, true, false, cond, List, [], ◌∷◌, drop, length, slice_index, bit_and, Option, Some, None, refl, sym, ap, ◌∙◌, arith}
use Rattle.std.specs.Prelude.{◌&&◌, ◌||◌, max}
use Rattle.std.specs.Int.{bit_at}
use Rattle.std.specs.List.{AllByRecursion}
use Rattle.std.proofs.lemmas.Bool.{and_from, and_parts, cases_Bool, cases_eq, cases_lt, eq-eqb, eqb-true, ne_eqb}
use Rattle.std.proofs.lemmas.Nat.Bits.{bit_at_and, same_from_bits}
use Rattle.pico_board.specs.declared.boot.BootKind.{BootKind}
use Rattle.pico_board.specs.Content.{Content}
use Rattle.pico_board.specs.Steps.{IsRaise, after_all}
use Rattle.block_codec.specs.Words.{words_of}
use Rattle.block_codec.proofs.WordLemmas.{length-words_of}
use Rattle.part_table.specs.declared.table.Table.{Table}
use Rattle.picoboot_cmd.specs.declared.cmd.Cmd.{Cmd}
use Rattle.picoboot_cmd.specs.declared.kinds.TheConstants.{ERASE, READ, WRITE, REBOOT, OTP_READ, OTP_WRITE, UNKNOWN_COMMAND, COMMAND_LENGTH, TRANSFER_LENGTH, ADDRESS, ALIGNMENT, INVALID_STATE, NOT_PERMITTED, INVALID_ARGUMENT, UNSUPPORTED_MODIFICATION}
use Rattle.picoboot_cmd.specs.Arguments.{first_row, offset, reboot_flags, reboot_p0, row_count, size}
use Rattle.picoboot_cmd.specs.Checks.{check, clears_nothing, first_failing, has_arg_size, has_transfer, has_valid_arguments, is_aligned, is_inside, is_known, is_permitted, is_served_while_busy, status_of}
use Rattle.picoboot_cmd.specs.Pages.{programs, programs_of}
use Rattle.picoboot_cmd.specs.Rows.{keeps_raised, word_raises}
use Rattle.picoboot_cmd.specs.Sectors.{erases}
use Rattle.picoboot_cmd.specs.Served.{ServedCommand, boot_by, boot_of, command_steps, reply_of, served_by_status, served_on}
use Rattle.law_updates.proofs.RowBitLemmas.{added, done-already, raise-most, raise-there, row_bit}

-- a word has all the bits of its row
keeps-head : (x w : ℕ) → (bit_and x w == x) ≡ true → (k : ℕ) → bit_at x k ≤ bit_at w k
keeps-head x w test k =
    let here = ap (λ v. bit_at v k) (eqb-true (bit_and x w) x test) in
    let low = bit_at_and x w k in omega (arith, low, here)

from-bits : (x w : ℕ) → ((k : ℕ) → bit_at x k ≤ bit_at w k) → (bit_and x w == x) ≡ true
from-bits x w all = eq-eqb (bit_and x w) x (same_from_bits (bit_and x w) x each)
  where
    each : (k : ℕ) → bit_at (bit_and x w) k ≡ bit_at x k
    each k = let low = bit_at_and x w k in let few = all k in omega (arith, low, few)

-- words that keep the bits of rows keep those of rows that have fewer
pub keeps-less : (c d : Content) (row : ℕ) (ws : List ℕ) → ((r k : ℕ) → row_bit c r k ≤ row_bit d r k)
    → keeps_raised d.otp row ws ≡ true → keeps_raised c.otp row ws ≡ true
keeps-less c d row [] less keeps = refl
keeps-less c d row (w ∷ ws) less keeps =
    let both = and_parts (bit_and (slice_index d.otp row) w == slice_index d.otp row) (keeps_raised d.otp (row + 1) ws)
    keeps in
    and_from (bit_and (slice_index c.otp row) w == slice_index c.otp row) (keeps_raised c.otp (row + 1) ws)
    (from-bits (slice_index c.otp row) w (λ k.
    (let low = less row k in let up = keeps-head (slice_index d.otp row) w both.0 k in omega (arith, low, up))))
    (keeps-less c d (row + 1) ws less both.1)

-- the rows below the first one are not raised
added-below : (n row : ℕ) (ws : List ℕ) (r k : ℕ) → r < row → added n (word_raises row ws) r k ≡ 0
added-below n row [] r k lt = refl
added-below n row (w ∷ ws) r k lt =
    let here = raise-there n row w r k (λ e. absurd (omega (arith, lt, e))) in
    let rest = added-below n (row + 1) ws r k (omega (arith, lt)) in omega (arith, here, rest)

-- nor are those from behind the last one on
pub added-beyond : (n row : ℕ) (ws : List ℕ) (r k : ℕ) → row + length ws ≤ r → added n (word_raises row ws) r k ≡ 0
added-beyond n row [] r k le = refl
added-beyond n row (w ∷ ws) r k le =
    let here = raise-there n row w r k (λ e. absurd (omega (arith, le, e))) in
    let rest = added-beyond n (row + 1) ws r k (omega (arith, le)) in omega (arith, here, rest)

pub added-outside : (n row : ℕ) (ws : List ℕ) (r k : ℕ) → (r < row) ⊎ (row + length ws ≤ r)
    → added n (word_raises row ws) r k ≡ 0
added-outside n row ws r k (inl below) = added-below n row ws r k below
added-outside n row ws r k (inr beyond) = added-beyond n row ws r k beyond

-- words that keep the bits of rows keep those of rows that have no bits but these and the words' own
pub keeps-more : (n : ℕ) (c d : Content) (row : ℕ) (ws : List ℕ)
    → ((r k : ℕ) → row ≤ r → r < row + length ws
    → row_bit d r k ≤ max (row_bit c r k) (added n (word_raises row ws) r k))
    → keeps_raised c.otp row ws ≡ true → keeps_raised d.otp row ws ≡ true
keeps-more n c d row [] few keeps = refl
keeps-more n c d row (w ∷ ws) few keeps =
    let both = and_parts (bit_and (slice_index c.otp row) w == slice_index c.otp row) (keeps_raised c.otp (row + 1) ws)
    keeps in
    and_from (bit_and (slice_index d.otp row) w == slice_index d.otp row) (keeps_raised d.otp (row + 1) ws)
    (from-bits (slice_index d.otp row) w (λ k.
    (let most = few row k (omega arith) (omega arith) in
    let above = added-below n (row + 1) ws row k (omega arith) in
    let here = raise-most n row w row k in
    let was = keeps-head (slice_index c.otp row) w both.0 k in omega (arith, most, above, here, was))))
    (keeps-more n c d (row + 1) ws (λ r k low high.
    (let most = few r k (omega (arith, low)) (omega (arith, high)) in
    let none = raise-there n row w r k (λ e. absurd (omega (arith, low, e))) in omega (arith, most, none))) both.1)

all-raises : (row : ℕ) (ws : List ℕ) → AllByRecursion IsRaise (word_raises row ws)
all-raises row [] = tt
all-raises row (w ∷ ws) = (tt, all-raises (row + 1) ws)

-- the status by whether the last check passes
abbrev status_by : ℕ → Option Table → Bool → Cmd → List ℕ → Bool → ℕ
status_by n t busy cmd payload b =
    first_failing (check INVALID_STATE (is_served_while_busy busy cmd)
    ∷ check UNKNOWN_COMMAND (is_known cmd)
    ∷ check COMMAND_LENGTH (has_arg_size cmd)
    ∷ check TRANSFER_LENGTH (has_transfer cmd payload)
    ∷ check ALIGNMENT (is_aligned cmd)
    ∷ check ADDRESS (is_inside cmd n)
    ∷ check INVALID_ARGUMENT (has_valid_arguments cmd payload)
    ∷ check NOT_PERMITTED (is_permitted t cmd)
    ∷ check UNSUPPORTED_MODIFICATION b ∷ [])

-- where the last check fails the status is not 0
fails : (b1 b2 b3 b4 b5 b6 b7 b8 : Bool)
    → (first_failing (check INVALID_STATE b1 ∷ check UNKNOWN_COMMAND b2 ∷ check COMMAND_LENGTH b3
    ∷ check TRANSFER_LENGTH b4 ∷ check ALIGNMENT b5 ∷ check ADDRESS b6 ∷ check INVALID_ARGUMENT b7
    ∷ check NOT_PERMITTED b8 ∷ check UNSUPPORTED_MODIFICATION false ∷ []) == 0) ≡ false
fails false b2 b3 b4 b5 b6 b7 b8 = refl
fails true false b3 b4 b5 b6 b7 b8 = refl
fails true true false b4 b5 b6 b7 b8 = refl
fails true true true false b5 b6 b7 b8 = refl
fails true true true true false b6 b7 b8 = refl
fails true true true true true false b7 b8 = refl
fails true true true true true true false b8 = refl
fails true true true true true true true false = refl
fails true true true true true true true true = refl

-- where a status is 0 the transfer is as long as it says
transfer : (b1 b2 b3 b4 b5 b6 b7 b8 b9 : Bool)
    → (first_failing (check INVALID_STATE b1 ∷ check UNKNOWN_COMMAND b2 ∷ check COMMAND_LENGTH b3
    ∷ check TRANSFER_LENGTH b4 ∷ check ALIGNMENT b5 ∷ check ADDRESS b6 ∷ check INVALID_ARGUMENT b7
    ∷ check NOT_PERMITTED b8 ∷ check UNSUPPORTED_MODIFICATION b9 ∷ []) == 0) ≡ true → b4 ≡ true
transfer false b2 b3 b4 b5 b6 b7 b8 b9 e = cc
transfer true false b3 b4 b5 b6 b7 b8 b9 e = cc
transfer true true false b4 b5 b6 b7 b8 b9 e = cc
transfer true true true false b5 b6 b7 b8 b9 e = cc
transfer true true true true b5 b6 b7 b8 b9 e = refl

not-both : {P : Type 0} (b : Bool) → b ≡ true → b ≡ false → P
not-both b e f = cc

-- what is done by the status
steps-by : (status : ℕ) (c : Content) (cmd : Cmd) (payload : List ℕ)
    → (served_by_status status c cmd payload).steps ≡ cond (status == 0) (command_steps cmd payload) []
steps-by status c cmd payload = go (status == 0)
  where
    go : (b : Bool) → (cond {A = ServedCommand} b (record {
      status = 0;
      steps = command_steps cmd payload;
      reply = reply_of c cmd;
      boot = boot_of cmd;
    }) (record { status = status; steps = []; reply = []; boot = None })).steps ≡ cond b (command_steps cmd payload) []
    go true = refl
    go false = refl

boot-by : (status : ℕ) (c : Content) (cmd : Cmd) (payload : List ℕ)
    → (served_by_status status c cmd payload).boot ≡ cond (status == 0) (boot_of cmd) None
boot-by status c cmd payload = go (status == 0)
  where
    go : (b : Bool) → (cond {A = ServedCommand} b (record {
      status = 0;
      steps = command_steps cmd payload;
      reply = reply_of c cmd;
      boot = boot_of cmd;
    }) (record { status = status; steps = []; reply = []; boot = None })).boot ≡ cond b (boot_of cmd) None
    go true = refl
    go false = refl

module _ (cmd : Cmd) (payload : List ℕ) (id : cmd.id ≡ OTP_WRITE) where
  write-steps : command_steps cmd payload ≡ word_raises (first_row cmd) (words_of payload)
  write-steps =
      ap (λ i. cond (i == ERASE) (erases (offset cmd / 4096) (size cmd / 4096))
      (cond (i == WRITE) (programs (offset cmd / 256) payload)
      (cond (i == OTP_WRITE) (word_raises (first_row cmd) (words_of payload)) []))) id

  write-boot : boot_of cmd ≡ None
  write-boot = ap (λ i. cond (i == REBOOT) (Some (boot_by (reboot_flags cmd) (reboot_p0 cmd))) None) id

  clears-is : (otp : List ℕ)
      → clears_nothing otp cmd payload ≡ keeps_raised otp (first_row cmd) (words_of payload)
  clears-is otp = ap (λ i. cond (i == OTP_WRITE) (keeps_raised otp (first_row cmd) (words_of payload)) true) id

  -- the words of a write that is done are as many as its rows
  words-are : has_transfer cmd payload ≡ true → length (words_of payload) ≡ row_count cmd
  words-are test =
      let long = length-words_of payload in
      let both : (cmd.transfer == 4 * row_count cmd && length payload == cmd.transfer) ≡ true =
      sym (ap (λ i. cmd.transfer == (cond (i == READ || i == WRITE) (size cmd)
      (cond (i == OTP_READ || i == OTP_WRITE) (4 * row_count cmd) 0))
      && length payload == cond (i == WRITE || i == OTP_WRITE) cmd.transfer 0) id) ∙ test in
      let parts = and_parts (cmd.transfer == 4 * row_count cmd) (length payload == cmd.transfer) both in
      let first = eqb-true cmd.transfer (4 * row_count cmd) parts.0 in
      let second = eqb-true (length payload) cmd.transfer parts.1 in omega (arith, long, first, second)

none-either : (b : Bool) (o : Option BootKind) → o ≡ None → cond b o None ≡ None
none-either true o none = none
none-either false o none = refl

-- a command on a content d whose rows have more bits than those of c
module _ (n : ℕ) (c d : Content) (t : Option Table) (busy : Bool) (cmd : Cmd) (payload : List ℕ)
    (flash : length d.flash ≡ length c.flash) (less : (r k : ℕ) → row_bit c r k ≤ row_bit d r k) where
  abbrev pub first : ServedCommand
  first = served_on c t busy cmd payload

  abbrev pub again : ServedCommand
  again = served_on d t busy cmd payload

  pub record IsSame : Type 0 where
    pub steps : again.steps ≡ first.steps
    pub boot : again.boot ≡ first.boot

  pub record IsSkipped : Type 0 where
    pub none : again.steps ≡ []
    pub done : after_all d first.steps ≡ d
    pub boot : again.boot ≡ first.boot

  abbrev status_on : Content → ℕ
  status_on x = status_by (length c.flash) t busy cmd payload (clears_nothing x.otp cmd payload)

  first-is : first ≡ served_by_status (status_on c) c cmd payload
  first-is = refl

  again-is : again ≡ served_by_status (status_on d) d cmd payload
  again-is = ap (λ m. served_by_status (status_of m d.otp t busy cmd payload) d cmd payload) flash

  first-steps : first.steps ≡ cond (status_on c == 0) (command_steps cmd payload) []
  first-steps = steps-by (status_on c) c cmd payload

  again-steps : again.steps ≡ cond (status_on d == 0) (command_steps cmd payload) []
  again-steps = ap (λ (r : ServedCommand). r.steps) again-is ∙ steps-by (status_on d) d cmd payload

  first-boot : first.boot ≡ cond (status_on c == 0) (boot_of cmd) None
  first-boot = boot-by (status_on c) c cmd payload

  again-boot : again.boot ≡ cond (status_on d == 0) (boot_of cmd) None
  again-boot = ap (λ (r : ServedCommand). r.boot) again-is ∙ boot-by (status_on d) d cmd payload

  same-clears : clears_nothing d.otp cmd payload ≡ clears_nothing c.otp cmd payload → IsSame
  same-clears e =
      let status : status_on d ≡ status_on c = ap (status_by (length c.flash) t busy cmd payload) e in record {
        steps = again-steps
            ∙ (ap (λ s. cond (s == 0) (command_steps cmd payload) []) status ∙ sym first-steps);
        boot = again-boot ∙ (ap (λ s. cond (s == 0) (boot_of cmd) None) status ∙ sym first-boot);
      }

  other-same : (cmd.id ≡ OTP_WRITE → ⊥) → IsSame
  other-same ne = same-clears (clears d.otp ∙ sym (clears c.otp))
    where
      clears : (otp : List ℕ) → clears_nothing otp cmd payload ≡ true
      clears otp =
          ap (λ b. cond b (keeps_raised otp (first_row cmd) (words_of payload)) true) (ne_eqb cmd.id OTP_WRITE ne)

  module _ (id : cmd.id ≡ OTP_WRITE) where
    abbrev kept : Content → Bool
    kept x = keeps_raised x.otp (first_row cmd) (words_of payload)

    both-kept : kept d ≡ kept c → IsSame
    both-kept e = same-clears (clears-is cmd payload id d.otp ∙ (e ∙ sym (clears-is cmd payload id c.otp)))

    lost : (x : Content) → kept x ≡ false → (status_on x == 0) ≡ false
    lost x lacks =
        ap (λ b. status_by (length c.flash) t busy cmd payload b == 0) (clears-is cmd payload id x.otp ∙ lacks)
        ∙ fails (is_served_while_busy busy cmd) (is_known cmd) (has_arg_size cmd) (has_transfer cmd payload)
        (is_aligned cmd) (is_inside cmd (length c.flash)) (has_valid_arguments cmd payload) (is_permitted t cmd)

    first-none : first.boot ≡ None
    first-none = first-boot ∙ none-either (status_on c == 0) (boot_of cmd) (write-boot cmd payload id)

    again-none : again.boot ≡ None
    again-none = again-boot ∙ none-either (status_on d == 0) (boot_of cmd) (write-boot cmd payload id)

    again-idle : kept d ≡ false → again.steps ≡ []
    again-idle lacks = again-steps ∙ ap (λ b. cond b (command_steps cmd payload) []) (lost d lacks)

    refused : (status_on c == 0) ≡ false → IsSame
    refused null = elim (cases_Bool (kept d)) [
      | inl holds ↦ both-kept (holds ∙ sym (keeps-less c d (first_row cmd) (words_of payload) less holds))
      | inr lacks ↦ record {
        steps = again-idle lacks
            ∙ sym (first-steps ∙ ap (λ b. cond b (command_steps cmd payload) []) null);
        boot = again-none ∙ sym first-none;
      }
    ]

    module _ (null : (status_on c == 0) ≡ true) where
      pub raises-first : first.steps ≡ word_raises (first_row cmd) (words_of payload)
      raises-first =
          first-steps ∙ (ap (λ b. cond b (command_steps cmd payload) []) null ∙ write-steps cmd payload id)

      kept-first : kept c ≡ true
      kept-first = elim (cases_Bool (kept c)) [
        | inl holds ↦ holds
        | inr lacks ↦ not-both (status_on c == 0) null (lost c lacks)
      ]

      pub long-first : length (words_of payload) ≡ row_count cmd
      long-first =
          words-are cmd payload id
          (transfer (is_served_while_busy busy cmd) (is_known cmd) (has_arg_size cmd) (has_transfer cmd payload)
          (is_aligned cmd) (is_inside cmd (length c.flash)) (has_valid_arguments cmd payload) (is_permitted t cmd)
          (clears_nothing c.otp cmd payload) null)

    write-same : ((r k : ℕ) → first_row cmd ≤ r → r < first_row cmd + row_count cmd
        → row_bit d r k ≤ max (row_bit c r k) (added n first.steps r k)) → IsSame
    write-same few = elim (cases_Bool (status_on c == 0)) [
      | inr null ↦ refused null
      | inl null ↦ both-kept (keeps-more n c d (first_row cmd) (words_of payload) (λ r k low high.
          (let long = long-first null in
          let most = few r k low (omega (arith, high, long)) in
          let same = ap (λ xs. added n xs r k) (raises-first null) in omega (arith, most, same)))
          (kept-first null) ∙ sym (kept-first null))
    ]

    write-done : length d.otp ≡ n → ((r k : ℕ) → added n first.steps r k ≤ row_bit d r k) → IsSame ⊎ IsSkipped
    write-done long done = elim (cases_Bool (status_on c == 0)) [
      | inr null ↦ inl (refused null)
      | inl null ↦ elim (cases_Bool (kept d)) [
        | inl holds ↦ inl (both-kept (holds ∙ sym (kept-first null)))
        | inr lacks ↦ inr (record {
          none = again-idle lacks;
          done = ap (after_all d) (raises-first null)
              ∙ done-already d (word_raises (first_row cmd) (words_of payload))
              (all-raises (first_row cmd) (words_of payload))
              (λ r k.
              (let has = done r k in
              let same = ap (λ xs. added n xs r k) (raises-first null) in
              let rows = ap (λ m. added m (word_raises (first_row cmd) (words_of payload)) r k) long in
              omega (arith, has, same, rows)));
          boot = again-none ∙ sym first-none;
        })
      ]
    ]

  -- it does the same, where the rows that it names have no other bits
  pub command-same : ((r k : ℕ) → cmd.id ≡ OTP_WRITE → first_row cmd ≤ r → r < first_row cmd + row_count cmd
      → row_bit d r k ≤ max (row_bit c r k) (added n first.steps r k)) → IsSame
  command-same few = elim (cases_eq cmd.id OTP_WRITE) [
    | inl id ↦ write-same id (λ r k low high. few r k id low high)
    | inr ne ↦ other-same ne
  ]

  -- it does the same, or nothing where what it would do is done
  pub command-done : length d.otp ≡ n → ((r k : ℕ) → added n first.steps r k ≤ row_bit d r k) → IsSame ⊎ IsSkipped
  command-done long done = elim (cases_eq cmd.id OTP_WRITE) [
    | inl id ↦ write-done id long done
    | inr ne ↦ inl (other-same ne)
  ]

erases-none : (n sector count r k : ℕ) → added n (erases sector count) r k ≡ 0
erases-none n sector zero r k = refl
erases-none n sector (suc count) r k = let rest = erases-none n (sector + 1) count r k in omega (arith, rest)

programs-none : (n count page : ℕ) (bytes : List ℕ) (r k : ℕ) → added n (programs_of count page bytes) r k ≡ 0
programs-none n zero page bytes r k = refl
programs-none n (suc count) page bytes r k =
    let rest = programs-none n count (page + 1) (drop 256 bytes) r k in omega (arith, rest)

-- a command raises no row but those that it names
module _ (n : ℕ) (c : Content) (t : Option Table) (busy : Bool) (cmd : Cmd) (payload : List ℕ) (r k : ℕ) where
  other-steps : (cmd.id ≡ OTP_WRITE → ⊥) → added n (command_steps cmd payload) r k ≡ 0
  other-steps ne = go (cmd.id == ERASE) (cmd.id == WRITE) (cmd.id == OTP_WRITE) (ne_eqb cmd.id OTP_WRITE ne)
    where
      go : (a b w : Bool) → w ≡ false
          → added n (cond a (erases (offset cmd / 4096) (size cmd / 4096)) (cond b (programs (offset cmd / 256) payload)
          (cond w (word_raises (first_row cmd) (words_of payload)) []))) r k ≡ 0
      go true b w e = erases-none n (offset cmd / 4096) (size cmd / 4096) r k
      go false true w e = programs-none n ((length payload + 255) / 256) (offset cmd / 256) payload r k
      go false false true e = cc
      go false false false e = refl

  pub command-unnamed : (cmd.id ≡ OTP_WRITE → first_row cmd ≤ r → r < first_row cmd + row_count cmd → ⊥)
      → added n (served_on c t busy cmd payload).steps r k ≡ 0
  command-unnamed unnamed = elim (cases_Bool (status_of (length c.flash) c.otp t busy cmd payload == 0)) [
    | inr other ↦
        ap (λ xs. added n xs r k) (steps-by (status_of (length c.flash) c.otp t busy cmd payload) c cmd payload
        ∙ ap (λ b. cond b (command_steps cmd payload) []) other)
    | inl null ↦
        ap (λ xs. added n xs r k) (steps-by (status_of (length c.flash) c.otp t busy cmd payload) c cmd payload
        ∙ ap (λ b. cond b (command_steps cmd payload) []) null)
        ∙ (elim (cases_eq cmd.id OTP_WRITE) [
          | inr ne ↦ other-steps ne
          | inl id ↦
              ap (λ xs. added n xs r k) (write-steps cmd payload id)
              ∙ added-outside n (first_row cmd) (words_of payload) r k (place id null)
        ])
  ]
    where
      place : cmd.id ≡ OTP_WRITE → (status_of (length c.flash) c.otp t busy cmd payload == 0) ≡ true
          → (r < first_row cmd) ⊎ (first_row cmd + length (words_of payload) ≤ r)
      place id null = elim (cases_lt r (first_row cmd)) [
        | inl below ↦ inl below
        | inr from ↦ elim (cases_lt r (first_row cmd + row_count cmd)) [
          | inl within ↦ absurd (unnamed id from within)
          | inr beyond ↦ inr (let long = long-first n c c t busy cmd payload refl (λ i j. omega arith) id null in
              omega (arith, beyond, long))
        ]
      ]
