-- Which caveats the rows of an OTP that a text describes give, and which they do not.
use Rattle.std.proofs.Common.{◌≡◌, ℕ, zero, suc, ◌+◌, ◌*◌, ◌%◌, ◌<◌, ◌≤◌, ◌==◌, Bool, true, false, cond, List, [], ◌∷◌, ◌++◌, All, count_by, refl, ap, subst, ◌∙◌, arith, inl, inr}
use Rattle.std.specs.Prelude.{◌⊎◌, ◌-◌, ◌^◌, nat_le, sum_by}
use Rattle.std.specs.List.{range_with_len}
use Rattle.std.proofs.Math.Nat.{zero-div}
use Rattle.std.proofs.lemmas.List.Sums.{sum_by-cons}
use Rattle.std.specs.Int.{bit_at}
use Rattle.pico_board.specs.declared.boot.Cpu.{Cpu}
use Rattle.pico_board.specs.declared.boot.BootKind.{BootKind}
use Rattle.pico_board.specs.Content.{Content}
use Rattle.slot_caveats.specs.declared.caveat.Caveat.{Caveat}
use Rattle.slot_caveats.specs.declared.caveat.Caveat.TheVariants.{SecureBoot}
use Rattle.slot_caveats.specs.OtpCaveats.{has_lowest_bit, has_row_bit, has_vote, raw_bits, raw_size_bits, secure_rows, voted_bit, voted_bits}
use Rattle.slot_caveats.specs.OtpRules.{AreCriticalCaveats, AreOtpCaveats, IsRawCritical, IsRawFlags, IsRawSlotSize, IsSecureBoot}
use Rattle.boot_caveats.specs.Rules.{AreCaveats}
use Rattle.table_json.specs.declared.otps.OtpRow.{OtpRow}
use Rattle.table_json.specs.Otps.{OtpView}
use Rattle.table_json.specs.OtpRules.{IsSound}
use Rattle.cli_otp.specs.OtpWords.{otp_words}
use Rattle.cli_otp.proofs.OtpLaws.{flags-few, row-low, row-secure, size-few}

-- a count of numbers that all pass the test, and of such of which none does
count-all : (p : ℕ → Bool) (a n : ℕ) → ((k : ℕ) → a ≤ k → k < a + n → p k ≡ true)
    → count_by p (range_with_len a n) ≡ n
count-all p a zero all = refl
count-all p a (suc n) all =
    let rest = count-all p (a + 1) n (λ k least most. all k (omega (arith, least)) (omega (arith, most))) in
    sum_by-cons (λ x. cond (p x) 1 0) a (range_with_len (a + 1) n)
    ∙ ap (λ t. cond t 1 0 + count_by p (range_with_len (a + 1) n)) (all a (omega arith) (omega arith))
    ∙ omega (arith, rest)

count-none : (p : ℕ → Bool) (a n : ℕ) → ((k : ℕ) → a ≤ k → k < a + n → p k ≡ false)
    → count_by p (range_with_len a n) ≡ 0
count-none p a zero none = refl
count-none p a (suc n) none =
    let rest = count-none p (a + 1) n (λ k least most. none k (omega (arith, least)) (omega (arith, most))) in
    sum_by-cons (λ x. cond (p x) 1 0) a (range_with_len (a + 1) n)
    ∙ ap (λ t. cond t 1 0 + count_by p (range_with_len (a + 1) n)) (none a (omega arith) (omega arith))
    ∙ omega (arith, rest)

-- each caveat of the rows, where its condition holds or does not
secure-so : (otp : List ℕ) (list : List Caveat) → count_by (has_lowest_bit otp) secure_rows ≡ 8
    → IsSecureBoot otp list → list ≡ SecureBoot ∷ []
secure-so otp list all (inl (enough, is)) = is
secure-so otp list all (inr (few, is)) = absurd (few (omega (arith, all)))

secure-not : (otp : List ℕ) (list : List Caveat) → count_by (has_lowest_bit otp) secure_rows ≡ 0
    → IsSecureBoot otp list → list ≡ []
secure-not otp list none (inl (enough, is)) = absurd (omega (arith, enough, none))
secure-not otp list none (inr (few, is)) = is

flags-not : (otp : List ℕ) (row : ℕ) (list : List Caveat) → raw_bits otp row ≡ 0 → IsRawFlags otp row list
    → list ≡ []
flags-not otp row list none (inl (some, is)) = absurd (some none)
flags-not otp row list none (inr (fails, is)) = is

size-not : (otp : List ℕ) (list : List Caveat) → raw_size_bits otp ≡ 0 → IsRawSlotSize otp list → list ≡ []
size-not otp list none (inl (some, is)) = absurd (some none)
size-not otp list none (inr (fails, is)) = is

-- two lists of which none has a caveat, and two of which the first one begins with a caveat
both-none : (list first second : List Caveat) → list ≡ first ++ second → first ≡ [] → second ≡ [] → list ≡ []
both-none list first second is none later = is ∙ ap (λ (xs : List Caveat). xs ++ second) none ∙ later

both-first : (caveat : Caveat) (list first second rest : List Caveat) → list ≡ first ++ second
    → first ≡ caveat ∷ rest → list ≡ caveat ∷ (rest ++ second)
both-first caveat list first second rest is front = is ∙ ap (λ (xs : List Caveat). xs ++ second) front

-- the rows of secure boot, by the caveat's own count
pub secure-all : (spec : OtpView) → spec.secure_boot ≡ true
    → All (λ (pair : OtpRow). (pair.row < 0x040) ⊎ (0x047 < pair.row)) spec.rows
    → count_by (has_lowest_bit (otp_words spec)) secure_rows ≡ 8
secure-all spec secure outside =
    count-all (has_lowest_bit (otp_words spec)) 0x040 8
    (λ row least most. ap (λ w. w % 2 == 1)
    (row-secure spec row secure least (omega (arith, most))
    (λ k d within same. apart row least most (outside k d within) same)))
  where
    apart : {n : ℕ} (row : ℕ) → 0x040 ≤ row → row < 0x048 → (n < 0x040) ⊎ (0x047 < n) → n ≡ row → ⊥
    apart row least most (inl below) same = omega (arith, least, below, same)
    apart row least most (inr past) same = omega (arith, most, past, same)

pub secure-none : (spec : OtpView) → spec.secure_boot ≡ false
    → All (λ (pair : OtpRow). 0x0c0 ≤ pair.row) spec.rows
    → count_by (has_lowest_bit (otp_words spec)) secure_rows ≡ 0
secure-none spec secure high =
    count-none (has_lowest_bit (otp_words spec)) 0x040 8
    (λ row least most. ap (λ w. w % 2 == 1)
    (row-low spec row secure high (omega (arith, most)) (λ same. omega (arith, most, same))
    (λ same. omega (arith, most, same))))

module _ (spec : OtpView) (secure : spec.secure_boot ≡ true)
    (outside : All (λ (pair : OtpRow). (pair.row < 0x040) ⊎ (0x047 < pair.row)) spec.rows) where
  pub secure-told : (list : List Caveat) → IsSecureBoot (otp_words spec) list → list ≡ SecureBoot ∷ []
  secure-told list is = secure-so (otp_words spec) list (secure-all spec secure outside) is

  -- it is the first caveat of all
  pub secure-first : (c : Content) (cpu : Cpu) (kind : BootKind) (list : List Caveat) → c.otp ≡ otp_words spec
      → AreCaveats c cpu kind list → (rest : List Caveat) × (list ≡ SecureBoot ∷ rest)
  secure-first c cpu kind list otp are =
      let board = are.listed in
      let rows = board.2 in
      let boot = rows.2 in
      let told = secure-told boot.0 (subst (λ (words : List ℕ). IsSecureBoot words boot.0) otp boot.2) in (
        (([] ++ boot.1) ++ rows.1) ++ board.1,
        both-first SecureBoot list board.0 board.1 (([] ++ boot.1) ++ rows.1) board.4
            (both-first SecureBoot board.0 rows.0 rows.1 ([] ++ boot.1) rows.4
            (both-first SecureBoot rows.0 boot.0 boot.1 [] boot.4 told)),
      )

-- the rows give no caveat
pub otp-none : (spec : OtpView) (list : List Caveat) → IsSound spec → spec.secure_boot ≡ false
    → All (λ (pair : OtpRow). 0x0c0 ≤ pair.row) spec.rows → AreOtpCaveats (otp_words spec) list → list ≡ []
otp-none spec list sound secure high are =
    let otp = otp_words spec in
    let flags = are.3 in
    let second = flags.3 in
    let third = second.3 in
    both-none list are.0 are.1 are.4 (secure-not otp are.0 (secure-none spec secure high) are.2)
    (both-none are.1 flags.0 flags.1 flags.4
    (flags-not otp 0x048 flags.0 (ap (λ q. 4 * q) (flags-few spec)) flags.2)
    (both-none flags.1 second.0 second.1 second.4
    (flags-not otp 0x049 second.0
    (row-low spec 0x049 secure high (omega arith) (λ e. omega (arith, e)) (λ e. omega (arith, e))) second.2)
    (both-none second.1 third.0 third.1 third.4
    (flags-not otp 0x04a third.0
    (row-low spec 0x04a secure high (omega arith) (λ e. omega (arith, e)) (λ e. omega (arith, e))) third.2)
    (size-not otp third.1 (ap (λ q. 16 * q) (size-few spec sound)) third.3))))

-- a sum of zeros
sum-none : (f : ℕ → ℕ) (a n : ℕ) → ((k : ℕ) → f k ≡ 0) → sum_by f (range_with_len a n) ≡ 0
sum-none f a zero none = refl
sum-none f a (suc n) none =
    let here = none a in
    let rest = sum-none f (a + 1) n none in
    sum_by-cons f a (range_with_len (a + 1) n) ∙ omega (arith, here, rest)

-- 0 has no bit
bit-none : (k : ℕ) → (bit_at 0 k == 1) ≡ false
bit-none k = ap (λ q. q % 2 == 1) (zero-div (2 ^ k))

critical-not : (otp : List ℕ) (row low : ℕ) (list : List Caveat) → voted_bits otp row low ≡ 0
    → IsRawCritical otp row low list → list ≡ []
critical-not otp row low list none (inl (some, is)) = absurd (some none)
critical-not otp row low list none (inr (fails, is)) = is

module _ (spec : OtpView) (secure : spec.secure_boot ≡ false)
    (high : All (λ (pair : OtpRow). 0x0c0 ≤ pair.row) spec.rows) where
  -- none of the eight copies of a critical row has a bit
  no-vote : (row k : ℕ) → row + 8 ≤ 0x048 → has_vote (otp_words spec) row k ≡ false
  no-vote row k low =
      ap (λ n. nat_le 3 n)
      (count-none (has_row_bit (otp_words spec) k) row 8
      (λ copy least most. ap (λ w. bit_at w k == 1)
      (row-low spec copy secure high (omega (arith, most, low)) (λ same. omega (arith, most, low, same))
      (λ same. omega (arith, most, low, same))) ∙ bit-none k))

  no-votes : (row low : ℕ) → row + 8 ≤ 0x048 → voted_bits (otp_words spec) row low ≡ 0
  unfolding voted_bits
  no-votes row low front =
      sum-none (voted_bit (otp_words spec) row) low (24 - low)
      (λ k. ap (λ b. cond b (2 ^ k) 0) (no-vote row k front))

  -- no critical flag is set but those that are listed
  pub critical-none : (list : List Caveat) → AreCriticalCaveats (otp_words spec) list → list ≡ []
  critical-none list are =
      both-none list are.0 are.1 are.4
      (critical-not (otp_words spec) 0x038 0 are.0 (no-votes 0x038 0 (omega arith)) are.2)
      (critical-not (otp_words spec) 0x040 1 are.1 (no-votes 0x040 1 (omega arith)) are.3)
