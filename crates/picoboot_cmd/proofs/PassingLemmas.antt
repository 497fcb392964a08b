-- What a command that passes its checks can rest on.
use Rattle.std.proofs.Common.{◌≡◌, ℕ, ◌+◌, ◌*◌, ◌/◌, ◌%◌, ◌<◌, ◌≤◌, Bool, true, false, cond, List, ◌∷◌, length, drop, refl, subst, arith}
use Rattle.std.specs.Prelude.{Option}
use Rattle.std.proofs.lemmas.Bool.Decides.{nat_tests}
use Rattle.part_table.specs.declared.table.Table.{Table}
use Rattle.picoboot_cmd.specs.declared.cmd.Cmd.{Cmd}
use Rattle.picoboot_cmd.specs.declared.kinds.TheConstants.{INVALID_STATE, UNKNOWN_COMMAND, COMMAND_LENGTH, TRANSFER_LENGTH, ALIGNMENT, ADDRESS, INVALID_ARGUMENT, WRITE}
use Rattle.picoboot_cmd.specs.Arguments.{address, size, offset}
use Rattle.picoboot_cmd.specs.Checks.{Check, check, is_served_while_busy, is_known, has_arg_size, status_of, first_failing, is_inside, is_range_in_flash, is_aligned, has_transfer, has_valid_arguments, checks}
use Rattle.picoboot_cmd.specs.Served.{IsReady}
use Rattle.picoboot_cmd.proofs.ByCommandLemmas.{with_id}

-- where none fails, the first passes, and none of the others fails
passes-next : (k : Check) (ks : List Check) → 0 < k.status → first_failing (k ∷ ks) ≡ 0
    → (k.passes ≡ true) × (first_failing ks ≡ 0)
passes-next k ks some none = by_test k.passes refl none
  where
    by_test : (b : Bool) → k.passes ≡ b → cond b (first_failing ks) k.status ≡ 0
        → (k.passes ≡ true) × (first_failing ks ≡ 0)
    by_test true is rest = (is, rest)
    by_test false is rest = absurd (omega arith)

module _ (n : ℕ) (otp : List ℕ) (t : Option Table) (busy : Bool) (cmd : Cmd) (payload : List ℕ) where
  -- a command with status 0 passes the checks that its work rests on
  pub ready : status_of n otp t busy cmd payload ≡ 0 → IsReady n cmd payload
  ready none =
      let all = checks n otp t busy cmd payload in
      let free = passes-next (check INVALID_STATE (is_served_while_busy busy cmd)) (drop 1 all) (omega arith) none in
      let known = passes-next (check UNKNOWN_COMMAND (is_known cmd)) (drop 2 all) (omega arith) (free.1) in
      let arg_size = passes-next (check COMMAND_LENGTH (has_arg_size cmd)) (drop 3 all) (omega arith) (known.1) in
      let transfer = passes-next (check TRANSFER_LENGTH (has_transfer cmd payload)) (drop 4 all)
      (omega arith) (arg_size.1) in
      let aligned = passes-next (check ALIGNMENT (is_aligned cmd)) (drop 5 all) (omega arith) (transfer.1) in
      let inside = passes-next (check ADDRESS (is_inside cmd n)) (drop 6 all) (omega arith) (aligned.1) in
      let arguments = passes-next (check INVALID_ARGUMENT (has_valid_arguments cmd payload)) (drop 7 all)
      (omega arith) (inside.1) in
      record { transfer = transfer.0; aligned = aligned.0; inside = inside.0; arguments = arguments.0 }

-- what the checks of a write say
module _ (n : ℕ) (cmd : Cmd) (payload : List ℕ) where
  pub in_flash : is_range_in_flash cmd n ≡ true → offset cmd + size cmd ≤ n
  in_flash inside = grind (arith, nat_tests)

  inside-write : cmd.id ≡ WRITE → is_inside cmd n ≡ true → offset cmd + size cmd ≤ n
  inside-write is inside = in_flash (subst (λ id. is_inside (with_id cmd id) n ≡ true) is inside)

  aligned-write : cmd.id ≡ WRITE → is_aligned cmd ≡ true → address cmd % 256 ≡ 0
  aligned-write is aligned =
      let test = subst (λ id. is_aligned (with_id cmd id) ≡ true) is aligned in grind (arith, nat_tests, test)

  payload-write : cmd.id ≡ WRITE → has_transfer cmd payload ≡ true → length payload ≡ size cmd
  payload-write is transfer =
      let test = subst (λ id. has_transfer (with_id cmd id) payload ≡ true) is transfer in
      grind (arith, nat_tests, test)

  -- the pages of a write lie in a flash of whole sectors
  pub pages-inside : cmd.id ≡ WRITE → IsReady n cmd payload → n % 4096 ≡ 0
      → 256 * (offset cmd / 256 + (length payload + 255) / 256) ≤ n
  pages-inside is ready whole =
      let inside = inside-write is ready.inside in
      let aligned = aligned-write is ready.aligned in
      let long = payload-write is ready.transfer in
      omega (arith, inside, aligned, long, whole)
