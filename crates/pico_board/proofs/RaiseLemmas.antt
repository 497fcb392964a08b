-- Raises, done or torn, only set bits, and only those that they set when they complete.
use Rattle.std.proofs.Common.{◌≡◌, ◌⊎◌, ℕ, ◌≤◌, List, [], ◌∷◌, length, get_or, slice_index, slice_set, bit_or, refl, sym, ◌∙◌, ap, subst, inl, inr, arith}
use Rattle.std.specs.List.{AllByRecursion}
use Rattle.std.specs.Int.{bit_at}
use Rattle.std.proofs.lemmas.Bool.{cases_lt, cases_eq}
use Rattle.std.proofs.lemmas.Nat.Bits.{bit_at_or}
use Rattle.std.proofs.lemmas.List.{get_or-set_same, get_or-set_other, set_past}
use Rattle.pico_board.specs.Content.{Content}
use Rattle.pico_board.specs.Steps.{Step, Erase, Program, Raise, IsRaise, IsRaisedIn, CutOf, Torn, TornRaise, after, after_all}

-- a row after a raise
raised_row : (xs : List ℕ) (r b i : ℕ) → (get_or (slice_set xs r (bit_or (slice_index xs r) b)) i 0 ≡ get_or xs i 0)
    ⊎ (get_or (slice_set xs r (bit_or (slice_index xs r) b)) i 0 ≡ bit_or (get_or xs i 0) b)
raised_row xs r b i = elim (cases_eq i r) [
  | inl same ↦ elim (cases_lt r (length xs)) [
    | inl lt ↦ inr (subst (λ (j : ℕ). get_or (slice_set xs r (bit_or (slice_index xs r) b)) j 0
        ≡ bit_or (get_or xs j 0) b) (sym same)
        (get_or-set_same xs r (bit_or (slice_index xs r) b) 0 lt))
    | inr past ↦ inl (grind (arith, set_past))
  ]
  | inr ne ↦ inl (get_or-set_other xs r i (bit_or (slice_index xs r) b) 0 ne)
]

-- a raise that completes keeps each bit
pub HasBitsOf-after : (c : Content) (step : Step) (i k : ℕ) → IsRaise step
    → bit_at (slice_index c.otp i) k ≤ bit_at (slice_index (after c step).otp i) k
HasBitsOf-after c (Erase s) i k is = absurd is
HasBitsOf-after c (Program p d) i k is = absurd is
HasBitsOf-after c (Raise r b) i k is = elim (raised_row c.otp r b i) [
  | inl same ↦ omega (arith, ap (λ (v : ℕ). bit_at v k) same)
  | inr more ↦ omega (arith, ap (λ (v : ℕ). bit_at v k) more, bit_at_or (slice_index c.otp i) b k)
]

-- raises that complete keep each bit
pub HasBitsOf-after_all : (c : Content) (steps : List Step) (i k : ℕ) → AllByRecursion IsRaise steps
    → bit_at (slice_index c.otp i) k ≤ bit_at (slice_index (after_all c steps).otp i) k
HasBitsOf-after_all c [] i k all = omega arith
HasBitsOf-after_all c (step ∷ steps) i k all =
    omega (arith, HasBitsOf-after c step i k all.0, HasBitsOf-after_all (after c step) steps i k all.1)

flash-after : (c : Content) (step : Step) → IsRaise step → (after c step).flash ≡ c.flash
flash-after c (Erase s) is = absurd is
flash-after c (Program p d) is = absurd is
flash-after c (Raise r b) is = refl

-- a row that is torn lies between the former one and that after the raise
torn_row : (c : Content) (r b : ℕ) (d : Content) (i k : ℕ) → TornRaise c r b d
    → (bit_at (slice_index c.otp i) k ≤ bit_at (slice_index d.otp i) k)
    × (bit_at (slice_index d.otp i) k ≤ bit_at (slice_index (after c (Raise r b)).otp i) k)
torn_row c r b d i k torn = elim (cases_eq i r) [
  | inl same ↦ subst (λ (j : ℕ). (bit_at (slice_index c.otp j) k ≤ bit_at (slice_index d.otp j) k)
      × (bit_at (slice_index d.otp j) k ≤ bit_at (slice_index (after c (Raise r b)).otp j) k)) (sym same) here
  | inr ne ↦ subst (λ (v : ℕ). (bit_at (slice_index c.otp i) k ≤ bit_at v k)
      × (bit_at v k ≤ bit_at (slice_index (after c (Raise r b)).otp i) k)) (sym (other ne))
      (omega arith, HasBitsOf-after c (Raise r b) i k tt)
]
  where
    grows : bit_at (slice_index c.otp r) k ≤ bit_at (slice_index (after c (Raise r b)).otp r) k
    grows = HasBitsOf-after c (Raise r b) r k tt

    here : (bit_at (slice_index c.otp r) k ≤ bit_at (slice_index d.otp r) k)
        × (bit_at (slice_index d.otp r) k ≤ bit_at (slice_index (after c (Raise r b)).otp r) k)
    here = elim (torn.between k) [
      | inl e ↦ (omega (arith, e), omega (arith, e, grows))
      | inr e ↦ (omega (arith, e, grows), omega (arith, e))
    ]

    other : (i ≡ r → ⊥) → slice_index d.otp i ≡ slice_index c.otp i
    other ne = elim (cases_lt i r)
        [ inl below ↦ torn.outside.below i below | inr above ↦ torn.outside.above i (omega arith) ]

-- a torn raise lies bit by bit between before and after, and so does what is left of a list of raises
pub IsRaisedIn-torn : (c : Content) (r b : ℕ) (d : Content) → Torn c (Raise r b) d
    → IsRaisedIn c d (after c (Raise r b))
IsRaisedIn-torn c r b d torn = record {
  flash = torn.bytes;
  former = λ i k. (torn_row c r b d i k torn).0;
  later = λ i k. (torn_row c r b d i k torn).1;
}

IsRaisedIn-one : (c : Content) (step : Step) (d : Content) → IsRaise step → Torn c step d
    → IsRaisedIn c d (after c step)
IsRaisedIn-one c (Erase s) d is torn = absurd is
IsRaisedIn-one c (Program p bytes) d is torn = absurd is
IsRaisedIn-one c (Raise r b) d is torn = IsRaisedIn-torn c r b d torn

pub IsRaisedIn-CutOf : (c : Content) (steps : List Step) (d : Content) → AllByRecursion IsRaise steps → CutOf c steps d
    → IsRaisedIn c d (after_all c steps)
IsRaisedIn-CutOf c [] d all cut = absurd cut
IsRaisedIn-CutOf c (step ∷ steps) d all (inl torn) =
    let one = IsRaisedIn-one c step d all.0 torn in
    record {
      flash = one.flash;
      former = one.former;
      later = λ i k. omega (arith, one.later i k, HasBitsOf-after_all (after c step) steps i k all.1);
    }
IsRaisedIn-CutOf c (step ∷ steps) d all (inr cut) =
    let rest = IsRaisedIn-CutOf (after c step) steps d all.1 cut in
    record {
      flash = rest.flash ∙ flash-after c step all.0;
      former = λ i k. omega (arith, rest.former i k, HasBitsOf-after c step i k all.0);
      later = rest.later;
    }
