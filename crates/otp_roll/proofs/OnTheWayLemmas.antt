-- What the calls that raise do to a board: one row, the triple of a listed row, and the listed rows one after
-- another.
use Rattle.std.proofs.Common.{◌≡◌, ℕ, ◌+◌, ◌-◌, ◌<◌, ◌≢◌, Bool, true, false, List, [], ◌∷◌, length, arith, refl, sym, ap, subst, ◌∙◌}
use Rattle.std.specs.Prelude.{slice_index}
use Rattle.std.specs.List.{AllByRecursion}
use Rattle.pico_board.specs.Content.{Content}
use Rattle.pico_board.specs.Board.{State, DoesAll}
use Rattle.pico_board.specs.declared.Step.{Step}
use Rattle.pico_board.proofs.StepLemmas.{DoesAll-none, DoesAll-append, DoesAll-append_cut}
use Rattle.otp_roll.specs.Rows.{majority, count}
use Rattle.otp_roll.specs.Raises.{raise_lacking, raise_triple, raise_row, raise_each, raises, taken_bits, lowest_clear}
use Rattle.otp_roll.proofs.BitLemmas.{lowest_clear-lt}
use Rattle.otp_roll.proofs.RisingLemmas.{IsElsewhere, all-lacking, row-after_all}
use Rattle.otp_roll.proofs.RaisedLemmas.{SameTriple, LiftsTriple, after-raise_triple}
use Rattle.otp_roll.proofs.CountedLemmas.{ApartInTurn, same-after, same-refl}

-- rows of a triple that are the same are raised alike
raise_row-same : (old new : List ℕ) (wanted r : ℕ) → SameTriple old new r
    → raise_row new wanted r ≡ raise_row old wanted r
raise_row-same old new wanted r same = rw (same.first, same.second, same.third) refl

taken-same : (old new : List ℕ) (wanted r : ℕ) → SameTriple old new r
    → taken_bits new wanted r ≡ taken_bits old wanted r
taken-same old new wanted r same = rw (same.first, same.second, same.third) refl

module _ {B : Type 0} (state : B → State) (history : B → List Step → Type 0) where
  -- the raise of a row leaves the other rows
  lacking-other : (old new : B) (b v r i : ℕ) → i ≢ r → DoesAll state history old (raise_lacking b v r) true new
      → slice_index (state new).content.otp i ≡ slice_index (state old).content.otp i
  lacking-other old new b v r i other does =
      ap (λ (c : Content). slice_index c.otp i) does.done
      ∙ row-after_all (state old).content (raise_lacking b v r) i (all-lacking (IsElsewhere i) b v r other)

  -- the raise of row i of a board, by those of the bits that it lacks
  abbrev pub Lacks : B → ℕ → ℕ → Bool → B → Type 0
  Lacks old b i ok new = DoesAll state history old (raise_lacking b (slice_index (state old).content.otp i) i) ok new

  moved : (old mid new : B) (b v r i : ℕ) (ok : Bool) → i ≢ r
      → DoesAll state history old (raise_lacking b v r) true mid
      → Lacks mid b i ok new → DoesAll state history mid
      (raise_lacking b (slice_index (state old).content.otp i) i) ok new
  moved old mid new b v r i ok other one two =
      subst (λ w. DoesAll state history mid (raise_lacking b w i) ok new)
      (lacking-other old mid b v r i other one) two

  -- the triple of row r, where power is lost in its first, second or third row, or not
  pub triple-first : (old new : B) (b r : ℕ) → Lacks old b r false new
      → DoesAll state history old (raise_triple (state old).content.otp b r) false new
  triple-first old new b r one = DoesAll-append_cut _ one

  pub triple-second : (old mid new : B) (b r : ℕ) → Lacks old b r true mid → Lacks mid b (r + 1) false new
      → DoesAll state history old (raise_triple (state old).content.otp b r) false new
  triple-second old mid new b r one two =
      DoesAll-append one (DoesAll-append_cut _ (moved old mid new b _ r (r + 1) false (omega arith) one two))

  pub triple-third : (old mid late new : B) (b r : ℕ) (ok : Bool) → Lacks old b r true mid
      → Lacks mid b (r + 1) true late
      → Lacks late b (r + 2) ok new → DoesAll state history old (raise_triple (state old).content.otp b r) ok new
  triple-third old mid late new b r ok one two three =
      let here = moved mid late new b _ (r + 1) (r + 2) ok (omega arith) two three in
      let there = subst (λ w. DoesAll state history late (raise_lacking b w (r + 2)) ok new)
      (lacking-other old mid b _ r (r + 2) (omega arith) one) here in
      DoesAll-append one (DoesAll-append (moved old mid late b _ r (r + 1) true (omega arith) one two) there)

  -- the listed rows up to here are raised: the others' triples are as at the start, and whatever raises those raises
  -- all
  pub record IsOnTheWay (first : B) (rows : List ℕ) (version wanted : ℕ) (left : List ℕ) (now : B) : Type 0 where
    pub power : (state now).powered ≡ true
    pub same : AllByRecursion (SameTriple (state first).content.otp (state now).content.otp) left
    pub rest : (ok : Bool) (new : B)
        → DoesAll state history now (raise_each (state first).content.otp wanted left) ok new
        → DoesAll state history first (raises (state first).content.otp rows version) ok new

  pub way-start : (first : B) (rows : List ℕ) (version wanted : ℕ) → (state first).powered ≡ true
      → wanted ≡ version - count (state first).content.otp rows → IsOnTheWay first rows version wanted rows first
  way-start first rows version wanted powered is = record {
    power = powered;
    same = same-refl (state first).content.otp rows;
    rest = λ ok new does. subst
        (λ w. DoesAll state history first (raise_each (state first).content.otp w rows) ok new) is does;
  }

  pub way-end : (first : B) (rows : List ℕ) (version wanted : ℕ) (now : B)
      → IsOnTheWay first rows version wanted [] now
      → DoesAll state history first (raises (state first).content.otp rows version) true now
  way-end first rows version wanted now way = way.rest true now (DoesAll-none now way.power)

  pub way-lost : (first : B) (rows : List ℕ) (version wanted r : ℕ) (left : List ℕ) (now new : B)
      → IsOnTheWay first rows version wanted (r ∷ left) now
      → DoesAll state history now (raise_row (state now).content.otp wanted r) false new
      → DoesAll state history first (raises (state first).content.otp rows version) false new
  way-lost first rows version wanted r left now new way lost =
      way.rest false new (DoesAll-append_cut _
      (subst (λ steps. DoesAll state history now steps false new) (raise_row-same _ _ wanted r way.same.0) lost))

  pub way-step : (first : B) (rows : List ℕ) (version wanted r : ℕ) (left : List ℕ) (now new : B) (number : ℕ)
      → IsOnTheWay first rows version wanted (r ∷ left) now → ApartInTurn (r ∷ left)
      → r + 2 < length (state now).content.otp
      → DoesAll state history now (raise_row (state now).content.otp wanted r) true new
      → number ≡ taken_bits (state now).content.otp wanted r
      → IsOnTheWay first rows version (wanted - number) left new
  way-step first rows version wanted r left now new number way apart inside does is =
      let start : List ℕ = (state first).content.otp in
      let before : List ℕ = (state now).content.otp in
      let one : DoesAll state history now (raise_row (state first).content.otp wanted r) true new =
      subst (λ steps. DoesAll state history now steps true new)
      (raise_row-same (state first).content.otp (state now).content.otp wanted r way.same.0) does in
      let number_is : number ≡ taken_bits (state first).content.otp wanted r =
      is ∙ taken-same (state first).content.otp (state now).content.otp wanted r way.same.0 in
      let bits : ℕ = lowest_clear (taken_bits (state first).content.otp wanted r)
      (majority (state first).content.otp r) in
      let lifted = after-raise_triple (state now).content (state first).content.otp
      (lowest_clear (taken_bits (state first).content.otp wanted r) (majority (state first).content.otp r)) r
      (lowest_clear-lt _ _) inside way.same.0 in
      let lifts = subst (λ (c : Content). LiftsTriple
      (lowest_clear (taken_bits (state first).content.otp wanted r) (majority (state first).content.otp r)) r
      (state now).content.otp c.otp) (sym one.done) lifted in
      record {
        power = does.power;
        same = same-after (lowest_clear (taken_bits (state first).content.otp wanted r)
            (majority (state first).content.otp r)) r (state first).content.otp (state now).content.otp
            (state new).content.otp lifts left apart.0 way.same.1;
        rest = λ ok last after. way.rest ok last (DoesAll-append one
            (subst (λ w. DoesAll state history new (raise_each (state first).content.otp w left) ok last)
            (ap (λ w. wanted - w) number_is) after));
      }
