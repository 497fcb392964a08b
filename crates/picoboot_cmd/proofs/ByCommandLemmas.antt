-- What is left of the table of checks at each id.
use Rattle.std.proofs.Common.{◌≡◌, ℕ, ◌&&◌, Bool, false, cond, not, List, drop, refl, sym, subst, ap, ◌∙◌, arith}
use Rattle.std.proofs.lemmas.Bool.Decides.{nat_tests}
use Rattle.std.specs.Prelude.{Option}
use Rattle.part_table.specs.declared.table.Table.{Table}
use Rattle.picoboot_cmd.specs.declared.cmd.Cmd.{Cmd}
use Rattle.picoboot_cmd.specs.declared.kinds.TheConstants.{EXCLUSIVE, ERASE, READ, WRITE, EXIT_XIP, ENTER_XIP, REBOOT, OTP_READ, OTP_WRITE, UNKNOWN_COMMAND, INVALID_STATE}
use Rattle.picoboot_cmd.specs.ByCommand.{exclusive_checks, erase_checks, read_checks, write_checks, xip_checks, reboot_checks, otp_read_checks, otp_write_checks}
use Rattle.picoboot_cmd.specs.Checks.{status_of, first_failing, is_known, does_steps, checks}

-- the command with another id
abbrev pub with_id : Cmd → ℕ → Cmd
with_id cmd id =
    record { token = cmd.token; id = id; arg_size = cmd.arg_size; transfer = cmd.transfer; args = cmd.args }

module _ (n : ℕ) (otp : List ℕ) (t : Option Table) (busy : Bool) (cmd : Cmd) (payload : List ℕ) where
  pub at-exclusive : cmd.id ≡ EXCLUSIVE
      → status_of n otp t busy cmd payload ≡ first_failing (exclusive_checks cmd payload)
  at-exclusive is =
      subst (λ id. status_of n otp t busy (with_id cmd id) payload
      ≡ first_failing (exclusive_checks (with_id cmd id) payload)) (sym is) refl

  pub at-erase : cmd.id ≡ ERASE
      → status_of n otp t busy cmd payload ≡ first_failing (erase_checks n t busy cmd payload)
  at-erase is =
      subst (λ id. status_of n otp t busy (with_id cmd id) payload
      ≡ first_failing (erase_checks n t busy (with_id cmd id) payload)) (sym is) refl

  pub at-read : cmd.id ≡ READ
      → status_of n otp t busy cmd payload ≡ first_failing (read_checks n t cmd payload)
  at-read is =
      subst (λ id. status_of n otp t busy (with_id cmd id) payload
      ≡ first_failing (read_checks n t (with_id cmd id) payload)) (sym is) refl

  pub at-write : cmd.id ≡ WRITE
      → status_of n otp t busy cmd payload ≡ first_failing (write_checks n t busy cmd payload)
  at-write is =
      subst (λ id. status_of n otp t busy (with_id cmd id) payload
      ≡ first_failing (write_checks n t busy (with_id cmd id) payload)) (sym is) refl

  pub at-exit_xip : cmd.id ≡ EXIT_XIP
      → status_of n otp t busy cmd payload ≡ first_failing (xip_checks cmd payload)
  at-exit_xip is =
      subst (λ id. status_of n otp t busy (with_id cmd id) payload
      ≡ first_failing (xip_checks (with_id cmd id) payload)) (sym is) refl

  pub at-enter_xip : cmd.id ≡ ENTER_XIP
      → status_of n otp t busy cmd payload ≡ first_failing (xip_checks cmd payload)
  at-enter_xip is =
      subst (λ id. status_of n otp t busy (with_id cmd id) payload
      ≡ first_failing (xip_checks (with_id cmd id) payload)) (sym is) refl

  pub at-reboot : cmd.id ≡ REBOOT
      → status_of n otp t busy cmd payload ≡ first_failing (reboot_checks cmd payload)
  at-reboot is =
      subst (λ id. status_of n otp t busy (with_id cmd id) payload
      ≡ first_failing (reboot_checks (with_id cmd id) payload)) (sym is) refl

  pub at-otp_read : cmd.id ≡ OTP_READ
      → status_of n otp t busy cmd payload ≡ first_failing (otp_read_checks cmd payload)
  at-otp_read is =
      subst (λ id. status_of n otp t busy (with_id cmd id) payload
      ≡ first_failing (otp_read_checks (with_id cmd id) payload)) (sym is) refl

  pub at-otp_write : cmd.id ≡ OTP_WRITE
      → status_of n otp t busy cmd payload ≡ first_failing (otp_write_checks otp busy cmd payload)
  at-otp_write is =
      subst (λ id. status_of n otp t busy (with_id cmd id) payload
      ≡ first_failing (otp_write_checks otp busy (with_id cmd id) payload)) (sym is) refl

  pub at-unknown : is_known cmd ≡ false → status_of n otp t busy cmd payload ≡ UNKNOWN_COMMAND
  at-unknown none =
      let free : does_steps cmd.id ≡ false = grind (arith, nat_tests) in
      ap (λ b. cond (not (b && busy)) (first_failing (drop 1 (checks n otp t busy cmd payload))) INVALID_STATE) free
      ∙ ap (λ b. cond b (first_failing (drop 2 (checks n otp t busy cmd payload))) UNKNOWN_COMMAND) none
