-- What raises leave, done or torn: no count falls, no row outside the listed triples changes, and no torn raise adds
-- a bit to a majority that the finished one does not add.
use Rattle.std.proofs.Common.{◌≡◌, ℕ, ◌+◌, ◌-◌, ◌^◌, ◌<◌, ◌≤◌, ◌≢◌, List, [], ◌∷◌, ◌++◌, arith, refl, ap, subst, ◌∙◌, bit_xor, inl, inr}
use Rattle.std.specs.Prelude.{◌⊎◌, ⊤, Contains, slice_index}
use Rattle.std.specs.List.{AllByRecursion}
use Rattle.std.specs.Int.Bits.{and_le_l}
use Rattle.std.specs.Int.Count.{ones}
use Rattle.std.proofs.lemmas.Bool.{cases_eq, cases_lt, eq-eqb, ne_eqb}
use Rattle.std.proofs.lemmas.List.Elements.{All-contains, All-contains_itself, All-from_recursion, recursion_from_All, Contains-append_right}
use Rattle.std.proofs.lemmas.List.Sums.{sum_by-cons}
use Rattle.std.proofs.lemmas.List.{get_or-set_other}
use Rattle.pico_board.specs.Content.{Content}
use Rattle.pico_board.specs.Steps.{Torn, CutOf, MayLeave, IsRaise, IsRaisedIn, IsStepIn, HasBitsOf, after, after_all}
use Rattle.pico_board.specs.declared.Step.{Step}
use Rattle.pico_board.specs.declared.Step.TheVariants.{Erase, Program, Raise}
use Rattle.pico_board.proofs.RaiseLemmas.{IsRaisedIn-CutOf}
use Rattle.otp_roll.specs.Rows.{majority, count, Rises, IsOutside}
use Rattle.otp_roll.specs.declared.rows.TheConstants.{FIRST_ROW, LAST_ROW}
use Rattle.otp_roll.specs.Raises.{lacking, raise_lacking, raise_triple, raise_row, raise_each, raises, taken_bits, lowest_clear}
use Rattle.otp_roll.proofs.BitLemmas.{ones-mono, majority-mono, lowest_clear-lt}

-- each majority has every bit that it had
pub majority-Rises : {old new : List ℕ} → Rises old new → (r : ℕ) → HasBitsOf (majority new r) (majority old r)
majority-Rises rises r k = majority-mono _ _ _ _ _ _ k (rises.bits r k) (rises.bits (r + 1) k) (rises.bits (r + 2) k)

-- a count never falls where bits are only raised
pub count-Rises : {old new : List ℕ} → Rises old new → (rows : List ℕ) → count old rows ≤ count new rows
count-Rises rises [] = omega arith
count-Rises {old} {new} rises (r ∷ rows) =
    let one = ones-mono (majority old r) (majority new r) (majority-Rises rises r) in
    omega (
      arith,
      sum_by-cons (λ s. ones (majority old s)) r rows,
      sum_by-cons
          (λ s. ones (majority new s)) r rows,
      one,
      count-Rises rises rows,
    )

-- the step is no raise of row i
abbrev pub IsElsewhere : ℕ → Step → Type 0
IsElsewhere i (Erase s) = ⊤
IsElsewhere i (Program p d) = ⊤
IsElsewhere i (Raise r b) = i ≢ r

-- no step is one where none of its raises is
pub elsewhere-from : (i : ℕ) (steps : List Step) → ((r b : ℕ) → Contains steps (Raise r b) → i ≢ r)
    → AllByRecursion (IsElsewhere i) steps
elsewhere-from i [] none = tt
elsewhere-from i (step ∷ steps) none = (
  at-head step (λ r b is. none r b (0, omega arith, is)),
  elsewhere-from i steps
      (λ r b among. none r b (Contains-append_right (step ∷ []) steps (Raise r b) among)),
)
  where
    at-head : (x : Step) → ((r b : ℕ) → x ≡ Raise r b → i ≢ r) → IsElsewhere i x
    at-head (Erase s) other = tt
    at-head (Program p d) other = tt
    at-head (Raise r b) other = other r b refl

-- what holds of each raise of a row of the listed triples, by bits of a row, holds of each of the raises
module _ (P : Step → Type 0) where
  pub all-append : (xs ys : List Step) → AllByRecursion P xs → AllByRecursion P ys → AllByRecursion P (xs ++ ys)
  all-append [] ys first second = second
  all-append (x ∷ xs) ys first second = (first.0, all-append xs ys first.1 second)

  pub all-lacking : (b v r : ℕ) → P (Raise r (lacking b v)) → AllByRecursion P (raise_lacking b v r)
  all-lacking b v r holds = by_need (cases_eq (lacking b v) 0)
    where
      by_need : (lacking b v ≡ 0) ⊎ (lacking b v ≡ 0 → ⊥) → AllByRecursion P (raise_lacking b v r)
      by_need (inl none) = rw (eq-eqb (lacking b v) 0 none) tt
      by_need (inr some) = rw (ne_eqb (lacking b v) 0 some) (holds, tt)

  all-triple : (otp : List ℕ) (b r : ℕ) → ((k v : ℕ) → k < 3 → P (Raise (r + k) (lacking b v)))
      → AllByRecursion P (raise_triple otp b r)
  all-triple otp b r holds =
      all-append (raise_lacking b (slice_index otp r) r) _
      (all-lacking b (slice_index otp r) r
      (subst (λ i. P (Raise i (lacking b (slice_index otp r)))) (let e : r + 0 ≡ r = omega arith in e)
      (holds 0 (slice_index otp r) (omega arith))))
      (all-append (raise_lacking b (slice_index otp (r + 1)) (r + 1)) _
      (all-lacking b (slice_index otp (r + 1)) (r + 1) (holds 1 _ (omega arith)))
      (all-lacking b (slice_index otp (r + 2)) (r + 2) (holds 2 _ (omega arith))))

  lacking-lt : (b v : ℕ) → b < 2 ^ 24 → lacking b v < 2 ^ 24
  lacking-lt b v small = omega (arith, and_le_l b (bit_xor v 0xff_ffff))

  pub all-each : (otp : List ℕ) (wanted : ℕ) (rows : List ℕ)
      → AllByRecursion (λ r. (k b : ℕ) → k < 3 → b < 2 ^ 24 → P (Raise (r + k) b)) rows
      → AllByRecursion P (raise_each otp wanted rows)
  all-each otp wanted [] holds = tt
  all-each otp wanted (r ∷ rows) holds =
      let bits : ℕ = lowest_clear (taken_bits otp wanted r) (majority otp r) in
      all-append (raise_row otp wanted r) _
      (all-triple otp (lowest_clear (taken_bits otp wanted r) (majority otp r)) r
      (λ k v few. holds.0 k (lacking (lowest_clear (taken_bits otp wanted r) (majority otp r)) v) few
      (lacking-lt (lowest_clear (taken_bits otp wanted r) (majority otp r)) v
      (lowest_clear-lt (taken_bits otp wanted r) (majority otp r)))))
      (all-each otp (wanted - taken_bits otp wanted r) rows holds.1)

all-rows : (P Q : ℕ → Type 0) → ((r : ℕ) → P r → Q r) → (rows : List ℕ) → AllByRecursion P rows
    → AllByRecursion Q rows
all-rows P Q from [] all = tt
all-rows P Q from (r ∷ rows) all = (from r all.0, all-rows P Q from rows all.1)

every-row : (Q : ℕ → Type 0) → ((r : ℕ) → Q r) → (rows : List ℕ) → AllByRecursion Q rows
every-row Q from [] = tt
every-row Q from (r ∷ rows) = (from r, every-row Q from rows)

-- all steps that raise the listed rows are raises
pub raises-raise : (otp rows : List ℕ) (version : ℕ) → AllByRecursion IsRaise (raises otp rows version)
raises-raise otp rows version =
    all-each IsRaise otp (version - count otp rows) rows (every-row _ (λ r k b few small. tt) rows)

-- the steps that raise the listed rows are of rows of the OTP, by bits of a row
pub raises-inside : (n : ℕ) (otp rows : List ℕ) (version : ℕ)
    → AllByRecursion (λ r. (FIRST_ROW ≤ r) × (r ≤ LAST_ROW)) rows
    → AllByRecursion (IsStepIn n) (raises otp rows version)
raises-inside n otp rows version range =
    all-each (IsStepIn n) otp (version - count otp rows) rows
    (all-rows (λ r. (FIRST_ROW ≤ r) × (r ≤ LAST_ROW)) _
    (λ r in_range k b few small. (omega (arith, in_range.1), small)) rows range)

-- the step is a raise of a row of the triple of a listed row
abbrev IsListed : List ℕ → Step → Type 0
IsListed rows (Erase s) = ⊥
IsListed rows (Program p d) = ⊥
IsListed rows (Raise i b) = (r : ℕ) × Contains rows r × ¬ (IsOutside i r)

in-triple : (r k : ℕ) → k < 3 → ¬ (IsOutside (r + k) r)
in-triple r k few (inl below) = omega arith
in-triple r k few (inr above) = omega arith

pub raises-listed : (otp rows : List ℕ) (version i b : ℕ) → Contains (raises otp rows version) (Raise i b)
    → (r : ℕ) × Contains rows r × ¬ (IsOutside i r)
raises-listed otp rows version i b among =
    All-contains (IsListed rows) (raises otp rows version) (Raise i b)
    (All-from_recursion (IsListed rows) (raises otp rows version)
    (all-each (IsListed rows) otp (version - count otp rows) rows
    (all-rows (Contains rows) _ (λ r listed k bits few small. (r, listed, in-triple r k few)) rows
    (recursion_from_All (Contains rows) rows (All-contains_itself rows))))) among

-- no step is a raise of a row outside the listed triples
pub raises-elsewhere : (i : ℕ) (otp rows : List ℕ) (version : ℕ) → AllByRecursion (IsOutside i) rows
    → AllByRecursion (IsElsewhere i) (raises otp rows version)
raises-elsewhere i otp rows version outside =
    all-each (IsElsewhere i) otp (version - count otp rows) rows (all-rows (IsOutside i) _ apart rows outside)
  where
    apart : (r : ℕ) → IsOutside i r → (k b : ℕ) → k < 3 → b < 2 ^ 24 → i ≢ r + k
    apart r (inl below) k b few small = omega arith
    apart r (inr above) k b few small = omega arith

-- a row that no step raises is as it was after all of them, and in a cut of them
row-after : (c : Content) (step : Step) (i : ℕ) → IsElsewhere i step
    → slice_index (after c step).otp i ≡ slice_index c.otp i
row-after c (Erase s) i other = refl
row-after c (Program p d) i other = refl
row-after c (Raise r b) i other = get_or-set_other c.otp r i _ 0 other

pub row-after_all : (c : Content) (steps : List Step) (i : ℕ) → AllByRecursion (IsElsewhere i) steps
    → slice_index (after_all c steps).otp i ≡ slice_index c.otp i
row-after_all c [] i other = refl
row-after_all c (step ∷ steps) i other = row-after_all (after c step) steps i other.1 ∙ row-after c step i other.0

row-torn : (c : Content) (step : Step) (d : Content) (i : ℕ) → IsElsewhere i step → Torn c step d
    → slice_index d.otp i ≡ slice_index c.otp i
row-torn c (Erase s) d i other torn = ap (λ (otp : List ℕ). slice_index otp i) torn.rows
row-torn c (Program p bytes) d i other torn = ap (λ (otp : List ℕ). slice_index otp i) torn.rows
row-torn c (Raise r b) d i other torn = by_side (cases_lt i r)
  where
    by_side : (i < r) ⊎ (r ≤ i) → slice_index d.otp i ≡ slice_index c.otp i
    by_side (inl below) = torn.outside.below i below
    by_side (inr from) = torn.outside.above i (omega (arith, other))

row-cut : (c : Content) (steps : List Step) (d : Content) (i : ℕ) → AllByRecursion (IsElsewhere i) steps
    → CutOf c steps d → slice_index d.otp i ≡ slice_index c.otp i
row-cut c [] d i other cut = absurd cut
row-cut c (step ∷ steps) d i other (inl torn) = row-torn c step d i other.0 torn
row-cut c (step ∷ steps) d i other (inr cut) =
    row-cut (after c step) steps d i other.1 cut ∙ row-after c step i other.0

pub row-left : (c : Content) (steps : List Step) (d : Content) (i : ℕ) → AllByRecursion (IsElsewhere i) steps
    → MayLeave c steps d → slice_index d.otp i ≡ slice_index c.otp i
row-left c steps d i other (inl done) = ap (λ (e : Content). slice_index e.otp i) done ∙ row-after_all c steps i other
row-left c steps d i other (inr cut) = row-cut c steps d i other cut

-- the flash is as it was
flash-after_all : (c : Content) (steps : List Step) → AllByRecursion IsRaise steps
    → (after_all c steps).flash ≡ c.flash
flash-after_all c [] all = refl
flash-after_all c (Erase s ∷ steps) all = absurd all.0
flash-after_all c (Program p d ∷ steps) all = absurd all.0
flash-after_all c (Raise r b ∷ steps) all = flash-after_all (after c (Raise r b)) steps all.1

pub flash-left : (c : Content) (steps : List Step) (d : Content) → AllByRecursion IsRaise steps → MayLeave c steps d
    → d.flash ≡ c.flash
flash-left c steps d all (inl done) = ap (λ (e : Content). e.flash) done ∙ flash-after_all c steps all
flash-left c steps d all (inr cut) = (IsRaisedIn-CutOf c steps d all cut).flash

-- what is between two contents, bit by bit, and so in each majority and in each count
pub former-Rises : {c d z : Content} → IsRaisedIn c d z → Rises c.otp d.otp
former-Rises raised = record { bits = raised.former }

pub later-Rises : {c d z : Content} → IsRaisedIn c d z → Rises d.otp z.otp
later-Rises raised = record { bits = raised.later }

pub cut-raises : (c d : Content) (rows : List ℕ) (version : ℕ) → CutOf c (raises c.otp rows version) d
    → IsRaisedIn c d (after_all c (raises c.otp rows version))
cut-raises c d rows version cut =
    IsRaisedIn-CutOf c (raises c.otp rows version) d (raises-raise c.otp rows version) cut

pub count-between : (c d z : Content) (rows : List ℕ) → IsRaisedIn c d z
    → (count c.otp rows ≤ count d.otp rows) × (count d.otp rows ≤ count z.otp rows)
count-between c d z rows raised = (count-Rises (former-Rises raised) rows, count-Rises (later-Rises raised) rows)

pub majority-between : (c d z : Content) (r : ℕ) → IsRaisedIn c d z
    → HasBitsOf (majority d.otp r) (majority c.otp r) × HasBitsOf (majority z.otp r) (majority d.otp r)
majority-between c d z r raised = (majority-Rises (former-Rises raised) r, majority-Rises (later-Rises raised) r)

-- the boot flags and the slot size stand outside all that may be listed
pub low-row : (c : Content) (rows : List ℕ) (version : ℕ) (d : Content) (i : ℕ) → i < FIRST_ROW
    → AllByRecursion (λ r. (FIRST_ROW ≤ r) × (r ≤ LAST_ROW)) rows → MayLeave c (raises c.otp rows version) d
    → slice_index d.otp i ≡ slice_index c.otp i
low-row c rows version d i low range left =
    row-left c (raises c.otp rows version) d i
    (raises-elsewhere i c.otp rows version
    (all-rows (λ r. (FIRST_ROW ≤ r) × (r ≤ LAST_ROW)) _
    (λ r in_range. inl (omega (arith, in_range.0))) rows range)) left

-- nothing is raised where none is wanted
pub raise_each-none : (otp : List ℕ) (rows : List ℕ) → raise_each otp 0 rows ≡ []
unfolding lowest_clear
raise_each-none otp [] = refl
raise_each-none otp (r ∷ rows) =
    let none : taken_bits otp 0 r ≡ 0 = omega arith in rw none (raise_each-none otp rows)

pub raises-none : (otp rows : List ℕ) (version : ℕ) → version ≤ count otp rows → raises otp rows version ≡ []
raises-none otp rows version reached =
    let none : version - count otp rows ≡ 0 = omega arith in rw none (raise_each-none otp rows)
