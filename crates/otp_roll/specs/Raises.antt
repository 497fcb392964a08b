-- The raises that take listed rollback rows to a version, as a list of steps. Their OTP is the one
-- before the first step.
use Rattle.std.specs.Prelude.{ℕ, zero, suc, ◌+◌, ◌-◌, ◌*◌, ◌/◌, ◌%◌, ◌==◌, if◌then◌else◌, min, List, [], ◌∷◌, ◌++◌, slice_index, bit_and, bit_xor, count_ones}
use Rattle.pico_board.specs.declared.Step.{Step}
use Rattle.pico_board.specs.declared.Step.TheVariants.{Raise}
use Rattle.otp_roll.specs.Rows.{majority, count}

-- the n lowest of the clear bits among the first `places` bits of v; all of these where there are
-- fewer than n
abbrev pub lowest_clear_among : ℕ → ℕ → ℕ → ℕ
lowest_clear_among zero n v = 0
lowest_clear_among (suc places) zero v = 0
lowest_clear_among (suc places) (suc n) v =
    if v % 2 == 0 then 1 + 2 * lowest_clear_among places n (v / 2)
    else 2 * lowest_clear_among places (suc n) (v / 2)

-- the n lowest clear bits of a row, which has 24 bits
unfoldable pub lowest_clear : ℕ → ℕ → ℕ
lowest_clear n v = lowest_clear_among 24 n v

-- how many of the 24 bits of the majority of row r's triple are clear
abbrev pub clear_count : List ℕ → ℕ → ℕ
clear_count otp r = 24 - count_ones (majority otp r)

-- the bits of b that a row of the value v lacks
abbrev pub lacking : ℕ → ℕ → ℕ
lacking b v = bit_and b (bit_xor v 0xff_ffff)

-- one raise of row r of the value v by the bits of b that v lacks; none where it lacks no bit
abbrev pub raise_lacking : ℕ → ℕ → ℕ → List Step
raise_lacking b v r = if lacking b v == 0 then [] else Raise r (lacking b v) ∷ []

-- the raises of the three rows from r on, ascending; each by the bits of b that the row lacks, and
-- none where it lacks no bit
abbrev pub raise_triple : List ℕ → ℕ → ℕ → List Step
raise_triple otp b r =
    raise_lacking b (slice_index otp r) r
    ++ (raise_lacking b (slice_index otp (r + 1)) (r + 1)
    ++ raise_lacking b (slice_index otp (r + 2)) (r + 2))

-- how many of the wanted bits the listed row r takes: all of them, or as many as its majority has
-- clear bits
abbrev pub taken_bits : List ℕ → ℕ → ℕ → ℕ
taken_bits otp wanted r = min (clear_count otp r) wanted

-- a listed row takes the lowest clear bits of its majority
abbrev pub raise_row : List ℕ → ℕ → ℕ → List Step
raise_row otp wanted r = raise_triple otp
    (lowest_clear (taken_bits otp wanted r) (majority otp r)) r

-- the listed rows in order, until no bit is wanted any more
abbrev pub raise_each : List ℕ → ℕ → List ℕ → List Step
raise_each otp wanted [] = []
raise_each otp wanted (r ∷ rows) =
    raise_row otp wanted r ++ raise_each otp (wanted - taken_bits otp wanted r) rows

-- the raises that take the count of the rows to the version; none where the count is at the
-- version already, or no row is listed
abbrev pub raises : List ℕ → List ℕ → ℕ → List Step
raises otp rows version = raise_each otp (version - count otp rows) rows
