-- Cuts of lists of steps: at which step, and of a prefix. What is left is a content.
use Rattle.std.proofs.Common.{◌≡◌, ℕ, zero, suc, ◌+◌, ◌-◌, ◌*◌, ◌^◌, ◌<◌, Some, All, List, [], ◌∷◌, ◌++◌, length, take, get_or, slice_get, slice_index, bit_and, bit_or, refl, sym, ◌∙◌, ap, subst, inl, inr, arith}
use Rattle.std.specs.List.{AllByRecursion}
use Rattle.std.specs.Int.{bit_at}
use Rattle.std.proofs.lemmas.List.Elements.{recursion_from_All, All-from_get_or}
use Rattle.std.proofs.lemmas.Bool.{cases_lt}
use Rattle.std.proofs.lemmas.Nat.{and_le_l, or_lt}
use Rattle.std.proofs.lemmas.Nat.Bits.{bit_at_and, bit_at_or, same_from_bits}
use Rattle.pico_board.specs.Content.{Content, IsContent, IsFlashLength}
use Rattle.pico_board.specs.Steps.{Step, Erase, Program, Raise, IsCutAt, IsStepIn, IsBetween, SameOutside, Torn, CutOf, MayLeave, after, after_all}
use Rattle.pico_board.proofs.ContentLemmas.{IsContent-after, length-after, byte_at, row_at}
use Rattle.pico_board.proofs.TornStepLemmas.{SameOutside-set, Torn-before, IsBetween-second}
use Rattle.pico_board.proofs.ChangedLemmas.{changed-same}
use Rattle.pico_board.proofs.StepLemmas.{CutOf-append_right}

-- a cut of a list falls in one of its steps
pub IsCutAt-from : (c : Content) (steps : List Step) (d : Content) → CutOf c steps d
    → (k : ℕ) × (step : Step) × IsCutAt c steps k step d
IsCutAt-from c [] d cut = absurd cut
IsCutAt-from c (step ∷ steps) d (inl torn) = (0, step, record { stands = refl; torn = torn })
IsCutAt-from c (step ∷ steps) d (inr later) =
    let at = IsCutAt-from (after c step) steps d later in
    (suc at.0, at.1, record { stands = at.2.stands; torn = at.2.torn })

CutOf-at : (c : Content) (steps : List Step) (k : ℕ) (step : Step) (d : Content) → slice_get steps k ≡ Some step
    → Torn (after_all c (take k steps)) step d → CutOf c steps d
CutOf-at c [] k step d stands torn = cc
CutOf-at c (x ∷ steps) zero step d stands torn = let same : x ≡ step = cc in
    inl (subst (λ (y : Step). Torn c y d) (sym same) torn)
CutOf-at c (x ∷ steps) (suc k) step d stands torn = inr (CutOf-at (after c x) steps k step d stands torn)

pub CutOf-from : (c : Content) (steps : List Step) (d : Content) → (k : ℕ) × (step : Step) × IsCutAt c steps k step d
    → CutOf c steps d
CutOf-from c steps d at = CutOf-at c steps at.0 at.1 d at.2.stands at.2.torn

-- steps in range stay in range, since the flash keeps its length
pub in_range-after : (c : Content) (step : Step) (steps : List Step) → AllByRecursion (IsStepIn (length c.flash)) steps
    → AllByRecursion (IsStepIn (length (after c step).flash)) steps
in_range-after c step steps all = subst (λ (n : ℕ). AllByRecursion (IsStepIn n) steps) (sym (length-after c step)) all

-- what steps leave is a content
pub IsContent-after_all : (c : Content) (steps : List Step) → IsContent c
    → AllByRecursion (IsStepIn (length c.flash)) steps → IsContent (after_all c steps)
IsContent-after_all c [] is all = is
IsContent-after_all c (step ∷ steps) is all =
    IsContent-after_all (after c step) steps (IsContent-after c step is all.0) (in_range-after c step steps all.1)

pub length-after_all : (c : Content) (steps : List Step) → length (after_all c steps).flash ≡ length c.flash
length-after_all c [] = refl
length-after_all c (step ∷ steps) = length-after_all (after c step) steps ∙ length-after c step

-- power may be lost after a step has changed all of its range
pub Torn-after : (c : Content) (step : Step) → IsContent c → IsStepIn (length c.flash) step → Torn c step (after c step)
Torn-after c (Erase s) is inside =
    let done = IsContent-after c (Erase s) is inside in
    record {
      outside = changed-same (λ i b. 255) (4096 * s) 4096 c.flash;
      bytes = λ i lt. byte_at (after c (Erase s)).flash done.flash_bytes (4096 * s + i);
      rows = refl;
    }
Torn-after c (Program p d) is inside = record {
  outside = changed-same (λ i b. bit_and b (slice_index d i)) (256 * p) 256 c.flash;
  between = λ i lt. IsBetween-second (slice_index c.flash (256 * p + i))
      (slice_index (after c (Program p d)).flash (256 * p + i));
  rows = refl;
}
Torn-after c (Raise r b) is inside = record {
  outside = SameOutside-set c.otp r (bit_or (slice_index c.otp r) b);
  between = IsBetween-second (slice_index c.otp r) (slice_index (after c (Raise r b)).otp r);
  bytes = refl;
}

-- power may be lost before a step, so what a proper prefix leaves is a cut
pub CutOf-prefix : (c : Content) (xs : List Step) (step : Step) (ys : List Step) → IsContent c
    → AllByRecursion (IsStepIn (length c.flash)) xs
    → CutOf c (xs ++ step ∷ ys) (after_all c xs)
CutOf-prefix c xs step ys is all =
    CutOf-append_right c xs (step ∷ ys) (after_all c xs)
    (inl (Torn-before (after_all c xs) step (IsContent-after_all c xs is all).flash_bytes))

-- power may be lost once the last step has changed all of its range
pub CutOf-end : (c : Content) (xs : List Step) (step : Step) → IsContent c
    → AllByRecursion (IsStepIn (length c.flash)) (xs ++ step ∷ [])
    → CutOf c (xs ++ step ∷ []) (after_all c (xs ++ step ∷ []))
CutOf-end c [] step is all = inl (Torn-after c step is all.0)
CutOf-end c (x ∷ xs) step is all =
    inr (CutOf-end (after c x) xs step (IsContent-after c x is all.0) (in_range-after c x (xs ++ step ∷ []) all.1))

-- bits between are bits of one of the two ends
pub between_lt : (a b x n : ℕ) → IsBetween a b x → a < 2 ^ n → b < 2 ^ n → x < 2 ^ n
between_lt a b x n between first second =
    let masked : x ≡ bit_and (bit_or a b) x = same_from_bits x (bit_and (bit_or a b) x) bits in
    omega (arith, masked, and_le_l (bit_or a b) x, or_lt n a b first second)
  where
    bits : (k : ℕ) → bit_at x k ≡ bit_at (bit_and (bit_or a b) x) k
    bits k = elim (between k) [
      | inl e ↦ omega (arith, e, bit_at_and (bit_or a b) x k, bit_at_or a b k)
      | inr e ↦ omega (arith, e, bit_at_and (bit_or a b) x k, bit_at_or a b k)
    ]

-- a list whose elements in a range are small, and else those of a list of small elements
All-range : (at n most : ℕ) (xs ys : List ℕ) → SameOutside at n xs ys → All (λ b. b < most) xs
    → ((i : ℕ) → i < n → get_or ys (at + i) 0 < most)
    → All (λ b. b < most) ys
All-range at n most xs ys same all inside =
    All-from_get_or (λ b. b < most) ys 0 (λ i lt. each i (omega (arith, lt, same.long)))
  where
    each : (i : ℕ) → i < length xs → get_or ys i 0 < most
    each i lt = elim (cases_lt i at) [
      | inl below ↦ subst (λ (b : ℕ). b < most) (sym (same.below i below)) (all i 0 lt)
      | inr above ↦ elim (cases_lt i (at + n)) [
        | inl within ↦ let e : at + (i - at) ≡ i = omega arith in
            subst (λ (j : ℕ). get_or ys j 0 < most) e (inside (i - at) (omega arith))
        | inr past ↦ subst (λ (b : ℕ). b < most) (sym (same.above i past)) (all i 0 lt)
      ]
    ]

-- what a torn step leaves is a content
pub IsContent-torn : (c : Content) (step : Step) (d : Content) → IsContent c → IsStepIn (length c.flash) step
    → Torn c step d → IsContent d
IsContent-torn c (Erase s) d is inside torn = record {
  flash_length = subst IsFlashLength (sym torn.outside.long) is.flash_length;
  flash_bytes = All-range (4096 * s) 4096 256 c.flash d.flash torn.outside is.flash_bytes torn.bytes;
  otp_length = ap length torn.rows ∙ is.otp_length;
  otp_rows = subst (All (λ v. v < 2 ^ 24)) (sym torn.rows) is.otp_rows;
}
IsContent-torn c (Program p bytes) d is inside torn =
    let done = IsContent-after c (Program p bytes) is inside in
    record {
      flash_length = subst IsFlashLength (sym torn.outside.long) is.flash_length;
      flash_bytes = All-range (256 * p) 256 256 c.flash d.flash torn.outside is.flash_bytes
          (λ i lt. between_lt (slice_index c.flash (256 * p + i))
          (slice_index (after c (Program p bytes)).flash (256 * p + i)) (slice_index d.flash (256 * p + i)) 8
          (torn.between i lt)
          (byte_at c.flash is.flash_bytes (256 * p + i))
          (byte_at (after c (Program p bytes)).flash done.flash_bytes (256 * p + i)));
      otp_length = ap length torn.rows ∙ is.otp_length;
      otp_rows = subst (All (λ v. v < 2 ^ 24)) (sym torn.rows) is.otp_rows;
    }
IsContent-torn c (Raise r b) d is inside torn =
    let done = IsContent-after c (Raise r b) is inside in
    record {
      flash_length = subst IsFlashLength (sym (ap length torn.bytes)) is.flash_length;
      flash_bytes = subst (All (λ v. v < 256)) (sym torn.bytes) is.flash_bytes;
      otp_length = torn.outside.long ∙ is.otp_length;
      otp_rows = All-range r 1 (2 ^ 24) c.otp d.otp torn.outside is.otp_rows
          (λ i lt.
          let row : slice_index d.otp r < 2 ^ 24 =
          between_lt (slice_index c.otp r) (slice_index (after c (Raise r b)).otp r)
          (slice_index d.otp r) 24 torn.between
          (row_at c.otp is.otp_rows r) (row_at (after c (Raise r b)).otp done.otp_rows r) in
          let e : r ≡ r + i = omega arith in
          subst (λ (j : ℕ). get_or d.otp j 0 < 2 ^ 24) e row);
    }

-- what the loss of power in one of the steps leaves is a content
pub IsContent-CutOf : (c : Content) (steps : List Step) (d : Content) → IsContent c
    → AllByRecursion (IsStepIn (length c.flash)) steps → CutOf c steps d → IsContent d
IsContent-CutOf c [] d is all cut = absurd cut
IsContent-CutOf c (step ∷ steps) d is all (inl torn) = IsContent-torn c step d is all.0 torn
IsContent-CutOf c (step ∷ steps) d is all (inr later) =
    IsContent-CutOf (after c step) steps d (IsContent-after c step is all.0) (in_range-after c step steps all.1) later

-- whatever steps leave is a content
pub IsContent-MayLeave : (c : Content) (steps : List Step) (d : Content) → IsContent c
    → All (IsStepIn (length c.flash)) steps → MayLeave c steps d → IsContent d
IsContent-MayLeave c steps d is all (inl done) =
    subst IsContent (sym done) (IsContent-after_all c steps is
    (recursion_from_All (IsStepIn (length c.flash)) steps all))
IsContent-MayLeave c steps d is all (inr cut) =
    IsContent-CutOf c steps d is (recursion_from_All (IsStepIn (length c.flash)) steps all) cut
