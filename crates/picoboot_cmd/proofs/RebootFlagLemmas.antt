-- The flags that a reboot takes.
use Rattle.std.proofs.Common.{◌≡◌, ◌⊎◌, ℕ, true, ap, arith, inl, inr}
use Rattle.std.proofs.lemmas.Bool.Decides.{nat_tests}
use Rattle.picoboot_cmd.specs.Checks.{are_reboot_flags}

abbrev IsOne : ℕ → Type 0
IsOne flags =
    (flags ≡ 0) ⊎ ((flags ≡ 2) ⊎ ((flags ≡ 4) ⊎ ((flags ≡ 0x100) ⊎ ((flags ≡ 0x102) ⊎ (flags ≡ 0x104)))))

pub one-of_six : (flags : ℕ) → are_reboot_flags flags ≡ true → IsOne flags
one-of_six flags is = grind (arith, nat_tests)

pub six-are : (flags : ℕ) → IsOne flags → are_reboot_flags flags ≡ true
six-are flags (inl is) = ap are_reboot_flags is
six-are flags (inr (inl is)) = ap are_reboot_flags is
six-are flags (inr (inr (inl is))) = ap are_reboot_flags is
six-are flags (inr (inr (inr (inl is)))) = ap are_reboot_flags is
six-are flags (inr (inr (inr (inr (inl is))))) = ap are_reboot_flags is
six-are flags (inr (inr (inr (inr (inr is))))) = ap are_reboot_flags is
