-- What the OTP says that the model does not read, by the functions and in the words of the rules.
use Rattle.std.proofs.Common.{◌≡◌, ◌≢◌, ℕ, ◌+◌, ◌*◌, ◌<◌, ◌≤◌, ◌==◌, not, nat_le, nat_lt, Bool, true, false, List, count_by, refl, arith}
use Rattle.std.specs.Prelude.{option_to_list}
use Rattle.std.specs.Bool.{Decides}
use Rattle.std.proofs.lemmas.Bool.Decides.{nat_tests}
use Rattle.otp_roll.specs.declared.flags.TheConstants.{BOOT_FLAGS}
use Rattle.slot_caveats.specs.declared.otp.TheConstants.{FIRST_CRITICAL_ROW, FIRST_SECURE_ROW}
use Rattle.slot_caveats.specs.OtpCaveats.{asked_size, critical_caveats, has_lowest_bit, otp_caveats, raw_bits, raw_size_bits, secure_rows, short_slots, size_number, voted_bits}
use Rattle.slot_caveats.specs.OtpRules.{AreCriticalCaveats, AreOtpCaveats, IsShortSlots}
use Rattle.slot_caveats.proofs.ListingLemmas.{IsJust, and-decides, both-just, where-just}

pub at-least : (m n : ℕ) → Decides (nat_le m n) (m ≤ n)
at-least m n = (λ e. grind (arith, nat_tests), λ le. grind (arith, nat_tests))

pub some-bits : (n : ℕ) → Decides (not (n == 0)) (n ≢ 0)
some-bits n = go (n == 0) refl
  where
    go : (b : Bool) → (n == 0) ≡ b → Decides (not b) (n ≢ 0)
    go true e = (λ h. cc, λ h. absurd (h (grind (arith, nat_tests))))
    go false e = (λ h same. (let yes : (n == 0) ≡ true = grind (arith, nat_tests) in cc), λ h. refl)

pub otp-just : (otp : List ℕ) → IsJust (AreOtpCaveats otp) (otp_caveats otp)
otp-just otp =
    both-just _ _ (where-just _ _ _ (at-least 3 (count_by (has_lowest_bit otp) secure_rows)))
    (both-just _ _ (where-just _ _ _ (some-bits (raw_bits otp BOOT_FLAGS)))
    (both-just _ _ (where-just _ _ _ (some-bits (raw_bits otp (BOOT_FLAGS + 1))))
    (both-just _ _ (where-just _ _ _ (some-bits (raw_bits otp (BOOT_FLAGS + 2))))
    (where-just _ _ _ (some-bits (raw_size_bits otp))))))

is-below : (m n : ℕ) → Decides (nat_lt m n) (m < n)
is-below m n = (λ e. grind (arith, nat_tests), λ lt. grind (arith, nat_tests))

pub slots-short-just : (otp : List ℕ) (n : ℕ) → IsJust (IsShortSlots otp n) (option_to_list (short_slots otp n))
slots-short-just otp n =
    where-just _ _ _ (and-decides _ _ _ _ (at-least (size_number otp) 11)
    (is-below n (2 * asked_size (size_number otp))))

pub critical-just : (otp : List ℕ) → IsJust (AreCriticalCaveats otp) (critical_caveats otp)
critical-just otp =
    both-just _ _ (where-just _ _ _ (some-bits (voted_bits otp FIRST_CRITICAL_ROW 0)))
    (where-just _ _ _ (some-bits (voted_bits otp FIRST_SECURE_ROW 1)))
