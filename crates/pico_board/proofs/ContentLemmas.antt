-- A step, done or torn, leaves a content.
use Rattle.std.proofs.Common.{◌≡◌, ℕ, ◌+◌, ◌-◌, ◌*◌, ◌%◌, ◌^◌, ◌<◌, Bool, true, false, List, All, length, get_or, slice_index, slice_set, set, bit_and, bit_or, bit_xor, cond, refl, sym, ◌∙◌, ap, subst, inl, inr, arith, length-set}
use Rattle.std.proofs.lemmas.Bool.{cases_lt, cases_eq}
use Rattle.std.proofs.lemmas.List.{get_or-set_same, get_or-set_other, get_or_past}
use Rattle.std.proofs.lemmas.List.Elements.{All-from_get_or}
use Rattle.std.proofs.lemmas.Nat.{and_le_l, or_lt}
use Rattle.pico_board.specs.Content.{Content, IsContent}
use Rattle.pico_board.specs.Steps.{Step, Erase, Program, Raise, IsStepIn, after, changed}
use Rattle.pico_board.specs.Cuts.{Cut, pattern_at, pattern_row, torn_by, cut_by}
use Rattle.pico_board.proofs.ChangedLemmas.{length-changed, changed-inside, changed-outside}

-- each element of a list of bytes, and what is read past its end
pub byte_at : (xs : List ℕ) → All (λ b. b < 256) xs → (k : ℕ) → get_or xs k 0 < 256
byte_at xs all k = elim (cases_lt k (length xs)) [
  | inl lt ↦ all k 0 lt
  | inr past ↦ subst (λ (b : ℕ). b < 256) (sym (get_or_past xs k 0 past)) (omega arith)
]

-- each element of a list of rows, and what is read past its end
pub row_at : (xs : List ℕ) → All (λ v. v < 2 ^ 24) xs → (k : ℕ) → get_or xs k 0 < 2 ^ 24
row_at xs all k = elim (cases_lt k (length xs)) [
  | inl lt ↦ all k 0 lt
  | inr past ↦ subst (λ (v : ℕ). v < 2 ^ 24) (sym (get_or_past xs k 0 past)) (omega arith)
]

-- a change by bytes keeps a list of bytes
pub All-changed : (f : ℕ → ℕ → ℕ) (at n : ℕ) (xs : List ℕ) → ((i b : ℕ) → b < 256 → f i b < 256)
    → All (λ b. b < 256) xs → All (λ b. b < 256) (changed f at n xs)
All-changed f at n xs small all =
    All-from_get_or (λ b. b < 256) (changed f at n xs) 0 (λ i lt. each i (omega (arith, lt, length-changed f at n xs)))
  where
    each : (i : ℕ) → i < length xs → get_or (changed f at n xs) i 0 < 256
    each i lt = elim (cases_lt i at) [
      | inl below ↦ subst (λ (b : ℕ). b < 256) (sym (changed-outside f at n xs i (inl below))) (all i 0 lt)
      | inr above ↦ elim (cases_lt i (at + n)) [
        | inl inside ↦ subst (λ (b : ℕ). b < 256) (sym (changed-inside f at n xs i above inside lt))
            (small (i - at) (get_or xs i 0) (all i 0 lt))
        | inr past ↦ subst (λ (b : ℕ). b < 256) (sym (changed-outside f at n xs i (inr past))) (all i 0 lt)
      ]
    ]

-- a content whose flash is changed by bytes is a content
pub IsContent-changed : (c : Content) (f : ℕ → ℕ → ℕ) (at n : ℕ) → IsContent c → ((i b : ℕ) → b < 256 → f i b < 256)
    → IsContent (record { flash = changed f at n c.flash; otp = c.otp })
IsContent-changed c f at n is small = record {
  flash_length = rw (length-changed f at n c.flash) is.flash_length;
  flash_bytes = All-changed f at n c.flash small is.flash_bytes;
  otp_length = is.otp_length;
  otp_rows = is.otp_rows;
}

-- a content with another row of 24 bits is a content
pub IsContent-row : (c : Content) (r v : ℕ) → IsContent c → v < 2 ^ 24
    → IsContent (record { flash = c.flash; otp = slice_set c.otp r v })
IsContent-row c r v is lt = record {
  flash_length = is.flash_length;
  flash_bytes = is.flash_bytes;
  otp_length = length-set c.otp r v ∙ is.otp_length;
  otp_rows = All-from_get_or (λ v. v < 2 ^ 24) (set c.otp r v) 0
      (λ i within. each i (omega (arith, within, length-set c.otp r v)));
}
  where
    each : (i : ℕ) → i < length c.otp → get_or (set c.otp r v) i 0 < 2 ^ 24
    each i within = elim (cases_eq i r) [
      | inl same ↦ subst (λ (w : ℕ). w < 2 ^ 24)
          (sym (ap (λ (j : ℕ). get_or (set c.otp r v) j 0) same ∙ get_or-set_same c.otp r v 0 (omega arith))) lt
      | inr ne ↦ subst (λ (w : ℕ). w < 2 ^ 24) (sym (get_or-set_other c.otp r i v 0 ne)) (is.otp_rows i 0 within)
    ]

-- a row that is raised by bits of a row has 24 bits
raised_lt : (c : Content) (r b : ℕ) → IsContent c → b < 2 ^ 24 → bit_or (slice_index c.otp r) b < 2 ^ 24
raised_lt c r b is lt = or_lt 24 (slice_index c.otp r) b (row_at c.otp is.otp_rows r) lt

-- a step of a content leaves a content
pub IsContent-after : (c : Content) (step : Step) → IsContent c → IsStepIn (length c.flash) step
    → IsContent (after c step)
IsContent-after c (Erase s) is inside = IsContent-changed c (λ i b. 255) (4096 * s) 4096 is (λ i b lt. omega arith)
IsContent-after c (Program p d) is inside =
    IsContent-changed c (λ i b. bit_and b (slice_index d i)) (256 * p) 256 is
    (λ i b lt. omega (arith, lt, and_le_l b (slice_index d i)))
IsContent-after c (Raise r b) is inside =
    IsContent-row c r (bit_or (slice_index c.otp r) b) is (raised_lt c r b is inside.1)

-- the flash keeps its length
pub length-after : (c : Content) (step : Step) → length (after c step).flash ≡ length c.flash
length-after c (Erase s) = length-changed (λ i b. 255) (4096 * s) 4096 c.flash
length-after c (Program p d) = length-changed (λ i b. bit_and b (slice_index d i)) (256 * p) 256 c.flash
length-after c (Raise r b) = refl

-- the repeated pattern has bytes
pub pattern_at-lt : (pattern : List ℕ) → All (λ b. b < 256) pattern → (i : ℕ) → pattern_at pattern i < 256
pattern_at-lt pattern small i = byte_at pattern small (i % length pattern)

-- the flash after a step, done or cut, is of bytes where it was
pub flash_bytes-after : (c : Content) (step : Step) → All (λ b. b < 256) c.flash
    → All (λ b. b < 256) (after c step).flash
flash_bytes-after c (Erase s) small = All-changed (λ i b. 255) (4096 * s) 4096 c.flash (λ i b lt. omega arith) small
flash_bytes-after c (Program p d) small =
    All-changed (λ i b. bit_and b (slice_index d i)) (256 * p) 256 c.flash
    (λ i b lt. omega (arith, lt, and_le_l b (slice_index d i))) small
flash_bytes-after c (Raise r b) small = small

pub flash_bytes-torn_by : (pattern : List ℕ) (c : Content) (step : Step) → All (λ b. b < 256) pattern
    → All (λ b. b < 256) c.flash → All (λ b. b < 256) (torn_by pattern c step).flash
flash_bytes-torn_by pattern c (Erase s) of small =
    All-changed (λ i b. pattern_at pattern i) (4096 * s) 4096 c.flash (λ i b lt. pattern_at-lt pattern of i) small
flash_bytes-torn_by pattern c (Program p d) of small =
    All-changed (λ i b. bit_and b (bit_or (slice_index d i) (pattern_at pattern i))) (256 * p) 256 c.flash
    (λ i b lt. omega (arith, lt, and_le_l b (bit_or (slice_index d i) (pattern_at pattern i)))) small
flash_bytes-torn_by pattern c (Raise r b) of small = small

pub flash_bytes-cut_by : (cut : Cut) (c : Content) (step : Step) → All (λ b. b < 256) cut.pattern
    → All (λ b. b < 256) c.flash → All (λ b. b < 256) (cut_by cut c step).flash
flash_bytes-cut_by cut c step of small = choose cut.within
  where
    choose : (within : Bool) → All (λ b. b < 256) (cond within (torn_by cut.pattern c step) c).flash
    choose true = flash_bytes-torn_by cut.pattern c step of small
    choose false = small

-- what a cut within a step leaves is a content
pub IsContent-torn_by : (pattern : List ℕ) (c : Content) (step : Step) → All (λ b. b < 256) pattern → IsContent c
    → IsStepIn (length c.flash) step
    → IsContent (torn_by pattern c step)
IsContent-torn_by pattern c (Erase s) small is inside =
    IsContent-changed c (λ i b. pattern_at pattern i) (4096 * s) 4096 is (λ i b lt. pattern_at-lt pattern small i)
IsContent-torn_by pattern c (Program p d) small is inside =
    IsContent-changed c (λ i b. bit_and b (bit_or (slice_index d i) (pattern_at pattern i))) (256 * p) 256 is
    (λ i b lt. omega (arith, lt, and_le_l b (bit_or (slice_index d i) (pattern_at pattern i))))
IsContent-torn_by pattern c (Raise r b) small is inside =
    let m = bit_xor (pattern_row pattern) 0xff_ffff in
    IsContent-row c r (bit_or (slice_index c.otp r) (bit_and b m)) is
    (raised_lt c r (bit_and b m) is (omega (arith, inside.1, and_le_l b m)))

-- what a cut before a step or within it leaves is a content
pub IsContent-cut_by : (cut : Cut) (c : Content) (step : Step) → All (λ b. b < 256) cut.pattern → IsContent c
    → IsStepIn (length c.flash) step
    → IsContent (cut_by cut c step)
IsContent-cut_by cut c step small is inside = choose cut.within
  where
    choose : (within : Bool) → IsContent (cond within (torn_by cut.pattern c step) c)
    choose true = IsContent-torn_by cut.pattern c step small is inside
    choose false = is

-- the flash keeps its length
length-torn_by : (pattern : List ℕ) (c : Content) (step : Step) → length (torn_by pattern c step).flash ≡ length c.flash
length-torn_by pattern c (Erase s) = length-changed (λ i b. pattern_at pattern i) (4096 * s) 4096 c.flash
length-torn_by pattern c (Program p d) =
    length-changed (λ i b. bit_and b (bit_or (slice_index d i) (pattern_at pattern i))) (256 * p) 256 c.flash
length-torn_by pattern c (Raise r b) = refl

pub length-cut_by : (cut : Cut) (c : Content) (step : Step) → length (cut_by cut c step).flash ≡ length c.flash
length-cut_by cut c step = choose cut.within
  where
    choose : (within : Bool) → length (cond within (torn_by cut.pattern c step) c).flash ≡ length c.flash
    choose true = length-torn_by cut.pattern c step
    choose false = refl
