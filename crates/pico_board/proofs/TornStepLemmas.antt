-- What a told cut leaves is torn, as the loss of power may leave it.
use Rattle.std.proofs.Common.{◌≡◌, ℕ, ◌+◌, ◌*◌, ◌<◌, Bool, true, false, cond, List, All, length, get_or, slice_index, slice_set, bit_and, bit_or, bit_xor, refl, sym, ◌∙◌, ap, subst, inl, inr, arith, length-set}
use Rattle.std.specs.Int.{bit_at}
use Rattle.std.proofs.lemmas.Bool.{cases_lt, cases_eq}
use Rattle.std.proofs.lemmas.Nat.Bits.{bit_at_and, bit_at_or, bit_at-lt}
use Rattle.std.proofs.lemmas.List.{get_or-set_same, get_or-set_other, get_or_past}
use Rattle.pico_board.specs.Content.{Content}
use Rattle.pico_board.specs.Steps.{Step, Erase, Program, Raise, IsBetween, SameOutside, Torn, after, changed}
use Rattle.pico_board.specs.Cuts.{Cut, pattern_at, pattern_row, torn_by, cut_by}
use Rattle.pico_board.proofs.ChangedLemmas.{length-changed, changed-at, changed-same}
use Rattle.pico_board.proofs.ContentLemmas.{byte_at, flash_bytes-torn_by}

-- a list is the same as itself outside every range
pub SameOutside-refl : (at n : ℕ) (xs : List ℕ) → SameOutside at n xs xs
SameOutside-refl at n xs = record { long = refl; below = λ i lt. refl; above = λ i le. refl }

-- a list with another element is the same outside it
pub SameOutside-set : (xs : List ℕ) (r v : ℕ) → SameOutside r 1 xs (slice_set xs r v)
SameOutside-set xs r v = record {
  long = length-set xs r v;
  below = λ i lt. get_or-set_other xs r i v 0 (λ e. absurd (omega (arith, lt, e)));
  above = λ i le. get_or-set_other xs r i v 0 (λ e. absurd (omega (arith, le, e)));
}

-- nothing lies between but the two ends
pub IsBetween-first : (a b : ℕ) → IsBetween a b a
IsBetween-first a b k = inl refl

pub IsBetween-second : (a b : ℕ) → IsBetween a b b
IsBetween-second a b k = inr refl

-- some of the bits cleared that a program clears
between_and : (o d p : ℕ) → IsBetween o (bit_and o d) (bit_and o (bit_or d p))
between_and o d p k = elim (cases_eq (bit_at p k) 0) [
  | inl zero ↦ inr (omega (arith, zero, bit_at_and o d k, bit_at_and o (bit_or d p) k, bit_at_or d p k))
  | inr one ↦ inl (omega (arith, one, bit_at-lt o k, bit_at-lt p k, bit_at_and o (bit_or d p) k, bit_at_or d p k))
]

-- some of the bits set that a raise sets
between_or : (v b m : ℕ) → IsBetween v (bit_or v b) (bit_or v (bit_and b m))
between_or v b m k = elim (cases_eq (bit_at m k) 0) [
  | inl zero ↦ inl (omega (arith, zero, bit_at_or v (bit_and b m) k, bit_at_and b m k))
  | inr one ↦ inr (omega (
    arith,
    one,
    bit_at-lt b k,
    bit_at-lt m k,
    bit_at_or v b k,
    bit_at_or v
        (bit_and b m) k,
    bit_at_and b m k,
  ))
]

-- what is left where nothing changes
IsBetween-same : (a b x : ℕ) → x ≡ a → IsBetween a b x
IsBetween-same a b x same k = inl (ap (λ v. bit_at v k) same)

-- a program that power is lost in, at a place of its page
torn_page : (f g : ℕ → ℕ → ℕ) (at n : ℕ) (xs : List ℕ) (i : ℕ) → i < n
    → ((b : ℕ) → IsBetween b (f i b) (g i b))
    → IsBetween (get_or xs (at + i) 0) (get_or (changed f at n xs) (at + i) 0) (get_or (changed g at n xs) (at + i) 0)
torn_page f g at n xs i lt between = elim (cases_lt (at + i) (length xs)) [
  | inl within ↦
      let o = get_or xs (at + i) 0 in
      subst (λ (a : ℕ). IsBetween o a (get_or (changed g at n xs) (at + i) 0)) (sym (changed-at f at n xs i lt within))
      (subst (λ (x : ℕ). IsBetween o (f i o) x) (sym (changed-at g at n xs i lt within)) (between o))
  | inr past ↦
      IsBetween-same (get_or xs (at + i) 0) (get_or (changed f at n xs) (at + i) 0)
      (get_or (changed g at n xs) (at + i) 0)
      (get_or_past (changed g at n xs) (at + i) 0 (omega (arith, past, length-changed g at n xs))
      ∙ sym (get_or_past xs (at + i) 0 past))
]

-- a row that power is lost in
torn_row : (xs : List ℕ) (r a x : ℕ) → IsBetween (get_or xs r 0) a x
    → IsBetween (get_or xs r 0) (get_or (slice_set xs r a) r 0) (get_or (slice_set xs r x) r 0)
torn_row xs r a x between = elim (cases_lt r (length xs)) [
  | inl within ↦
      subst (λ (y : ℕ). IsBetween (get_or xs r 0) y (get_or (slice_set xs r x) r 0))
      (sym (get_or-set_same xs r a 0 within))
      (subst (λ (y : ℕ). IsBetween (get_or xs r 0) a y) (sym (get_or-set_same xs r x 0 within)) between)
  | inr past ↦
      IsBetween-same (get_or xs r 0) (get_or (slice_set xs r a) r 0) (get_or (slice_set xs r x) r 0)
      (get_or_past (slice_set xs r x) r 0 (omega (arith, past, length-set xs r x)) ∙ sym (get_or_past xs r 0 past))
]

-- a cut within a step of a flash of bytes
pub Torn-torn_by : (pattern : List ℕ) (c : Content) (step : Step) → All (λ b. b < 256) pattern
    → All (λ b. b < 256) c.flash → Torn c step (torn_by pattern c step)
Torn-torn_by pattern c (Erase s) of small = record {
  outside = changed-same (λ i b. pattern_at pattern i) (4096 * s) 4096 c.flash;
  bytes = λ i lt. byte_at (torn_by pattern c (Erase s)).flash
      (flash_bytes-torn_by pattern c (Erase s) of small) (4096 * s + i);
  rows = refl;
}
Torn-torn_by pattern c (Program p d) of small = record {
  outside = changed-same (λ i b. bit_and b (bit_or (slice_index d i) (pattern_at pattern i))) (256 * p) 256 c.flash;
  between = λ i lt. torn_page (λ i b. bit_and b (slice_index d i))
      (λ i b. bit_and b (bit_or (slice_index d i) (pattern_at pattern i))) (256 * p) 256 c.flash i lt
      (λ b. between_and b (slice_index d i) (pattern_at pattern i));
  rows = refl;
}
Torn-torn_by pattern c (Raise r b) of small = record {
  outside = SameOutside-set c.otp r
      (bit_or (slice_index c.otp r) (bit_and b (bit_xor (pattern_row pattern) 0xff_ffff)));
  between = torn_row c.otp r (bit_or (slice_index c.otp r) b)
      (bit_or (slice_index c.otp r) (bit_and b (bit_xor (pattern_row pattern) 0xff_ffff)))
      (between_or (slice_index c.otp r) b (bit_xor (pattern_row pattern) 0xff_ffff));
  bytes = refl;
}

-- power may be lost before a step, which leaves the content as it is
pub Torn-before : (c : Content) (step : Step) → All (λ b. b < 256) c.flash → Torn c step c
Torn-before c (Erase s) small = record {
  outside = SameOutside-refl (4096 * s) 4096 c.flash;
  bytes = λ i lt. byte_at c.flash small (4096 * s + i);
  rows = refl;
}
Torn-before c (Program p d) small = record {
  outside = SameOutside-refl (256 * p) 256 c.flash;
  between = λ i lt. IsBetween-first (slice_index c.flash (256 * p + i))
      (slice_index (after c (Program p d)).flash (256 * p + i));
  rows = refl;
}
Torn-before c (Raise r b) small = record {
  outside = SameOutside-refl r 1 c.otp;
  between = IsBetween-first (slice_index c.otp r) (slice_index (after c (Raise r b)).otp r);
  bytes = refl;
}

-- what a told cut leaves is torn
pub Torn-cut_by : (cut : Cut) (c : Content) (step : Step) → All (λ b. b < 256) cut.pattern
    → All (λ b. b < 256) c.flash → Torn c step (cut_by cut c step)
Torn-cut_by cut c step of small = choose cut.within
  where
    choose : (within : Bool) → Torn c step (cond within (torn_by cut.pattern c step) c)
    choose true = Torn-torn_by cut.pattern c step of small
    choose false = Torn-before c step small
