-- The atomic writes of a board: what each leaves when it completes, and what it may leave when
-- power is lost in it. Source: RP2350 Datasheet, chapters 5 (Bootrom) and 13 (OTP): an erase sets
-- bits, a program clears bits, an OTP bit is never cleared. What a torn write leaves is this
-- project's own reading.
use Rattle.std.specs.Prelude.{◌≡◌, ◌⊎◌, ⊤, ℕ, ◌+◌, ◌-◌, ◌*◌, ◌^◌, ◌<◌, ◌≤◌, ◌&&◌, if◌then◌else◌, nat_le, nat_lt, Some, List, [], ◌∷◌, length, slice_get, slice_index, slice_set, take, bit_and, bit_or}
use Rattle.std.specs.Int.{bit_at}
use Rattle.pico_board.specs.Content.{Content}
-- the crate's own modules name a step from here, and other crates from
-- `Rattle.pico_board.specs.declared.Step`
pub use Rattle.pico_board.specs.declared.step.Step.{Step}
pub use Rattle.pico_board.specs.declared.step.Step.TheVariants.{Erase, Program, Raise}

-- the step's range lies in a content with a flash of n bytes, and a raise has bits of a row alone
abbrev pub IsStepIn : ℕ → Step → Type 0
IsStepIn n (Erase s) = 4096 * s + 4096 ≤ n
IsStepIn n (Program p d) = 256 * p + 256 ≤ n
IsStepIn n (Raise r b) = (r < 4096) × (b < 2 ^ 24)

-- `changed`, of a list that begins at place k
abbrev pub changed_from : ℕ → (ℕ → ℕ → ℕ) → ℕ → ℕ → List ℕ → List ℕ
changed_from k f at n [] = []
changed_from k f at n (x ∷ xs) =
    (if nat_le at k && nat_lt k (at + n) then f (k - at) x else x) ∷ changed_from (k + 1) f at n xs

-- the list with its n elements from `at` on changed by f; f takes the place in the range and what
-- was there
abbrev pub changed : (ℕ → ℕ → ℕ) → ℕ → ℕ → List ℕ → List ℕ
changed f at n xs = changed_from 0 f at n xs

-- the content after the step: an erase makes each byte of its sector 0xff; a program makes each
-- byte b of its page `b & d`; a raise makes its row v `v | b`
abbrev pub after : Content → Step → Content
after c (Erase s) = record { flash = changed (λ i b. 255) (4096 * s) 4096 c.flash; otp = c.otp }
after c (Program p d) = record
    { flash = changed (λ i b. bit_and b (slice_index d i)) (256 * p) 256 c.flash; otp = c.otp }
after c (Raise r b) = record
    { flash = c.flash; otp = slice_set c.otp r (bit_or (slice_index c.otp r) b) }

-- the content after the steps, in their order
abbrev pub after_all : Content → List Step → Content
after_all c [] = c
after_all c (step ∷ steps) = after_all (after c step) steps

-- each bit of x is that of a or that of b
abbrev pub IsBetween : ℕ → ℕ → ℕ → Type 0
IsBetween a b x = (k : ℕ) → (bit_at x k ≡ bit_at a k) ⊎ (bit_at x k ≡ bit_at b k)

-- the new list is as long as the old one, and has its elements but for the n from `at` on
pub record SameOutside (at n : ℕ) (old new : List ℕ) : Type 0 where
  pub long : length new ≡ length old
  pub below : (i : ℕ) → i < at → slice_index new i ≡ slice_index old i
  pub above : (i : ℕ) → at + n ≤ i → slice_index new i ≡ slice_index old i

-- power was lost in an erase: its sector has any bytes, and all else is as it was
pub record TornErase (c : Content) (s : ℕ) (d : Content) : Type 0 where
  pub outside : SameOutside (4096 * s) 4096 c.flash d.flash
  pub bytes : (i : ℕ) → i < 4096 → slice_index d.flash (4096 * s + i) < 256
  pub rows : d.otp ≡ c.otp

-- power was lost in a program: each bit of its page is as it was or as the program would leave it;
-- all else is as it was
pub record TornProgram (c : Content) (p : ℕ) (bytes : List ℕ) (d : Content) : Type 0 where
  pub outside : SameOutside (256 * p) 256 c.flash d.flash
  pub between : (i : ℕ) → i < 256
      → IsBetween (slice_index c.flash (256 * p + i))
      (slice_index (after c (Program p bytes)).flash (256 * p + i))
      (slice_index d.flash (256 * p + i))
  pub rows : d.otp ≡ c.otp

-- power was lost in a raise: each bit of its row is as it was or as the raise would leave it; all
-- else is as it was
pub record TornRaise (c : Content) (r b : ℕ) (d : Content) : Type 0 where
  pub outside : SameOutside r 1 c.otp d.otp
  pub between : IsBetween (slice_index c.otp r) (slice_index (after c (Raise r b)).otp r)
      (slice_index d.otp r)
  pub bytes : d.flash ≡ c.flash

-- d is a content that the loss of power in the step may leave; where the range stays as in c,
-- power was lost before the step
abbrev pub Torn : Content → Step → Content → Type 0
Torn c (Erase s) d = TornErase c s d
Torn c (Program p bytes) d = TornProgram c p bytes d
Torn c (Raise r b) d = TornRaise c r b d

-- d is what is left when the first steps, fewer than all, are done and power is lost in the next
-- one
abbrev pub CutOf : Content → List Step → Content → Type 0
CutOf c [] d = ⊥
CutOf c (step ∷ steps) d = Torn c step d ⊎ CutOf (after c step) steps d

-- d is a content that the steps may leave: that after all of them, or one that the loss of power
-- in one of them leaves
abbrev pub MayLeave : Content → List Step → Content → Type 0
MayLeave c steps d = (d ≡ after_all c steps) ⊎ CutOf c steps d

-- each bit that is set in x is set in y
abbrev pub HasBitsOf : ℕ → ℕ → Type 0
HasBitsOf y x = (k : ℕ) → bit_at x k ≤ bit_at y k

-- the step is a raise
abbrev pub IsRaise : Step → Type 0
IsRaise (Erase s) = ⊥
IsRaise (Program p d) = ⊥
IsRaise (Raise r b) = ⊤

-- each row of d has the bits of c's, and no bits but those of z's, and the flash is c's
pub record IsRaisedIn (c d z : Content) : Type 0 where
  pub flash : d.flash ≡ c.flash
  pub former : (i : ℕ) → HasBitsOf (slice_index d.otp i) (slice_index c.otp i)
  pub later : (i : ℕ) → HasBitsOf (slice_index z.otp i) (slice_index d.otp i)

-- the step is number k, counted from 0; d is left when the steps before it are done and power is
-- lost in it
pub record IsCutAt (c : Content) (steps : List Step) (k : ℕ) (step : Step)
    (d : Content) : Type 0 where
  pub stands : slice_get steps k ≡ Some step
  pub torn : Torn (after_all c (take k steps)) step d
