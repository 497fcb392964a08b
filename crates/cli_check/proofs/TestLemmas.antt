-- Truth values that say whether something holds.
use Rattle.std.proofs.Common.{◌≡◌, ◌≢◌, ◌↔◌, Bool, true, false, refl, sym}
use Rattle.std.specs.Prelude.{not, bytes_eq, ℕ, List}
use Rattle.std.proofs.lemmas.Slice.Eq.{bytes_eq-Decides}

pub apart : {P : Type 0} (b : Bool) → b ≡ true → b ≡ false → P
apart true e f = cc
apart false e f = cc

-- what is not true is false
pub false-so : (b : Bool) → (b ≡ true → ⊥) → b ≡ false
false-so true never = absurd (never refl)
false-so false never = refl

-- a negated test of a thing is true exactly where the thing is not so
pub negated : {P : Type 0} (b : Bool) → ((b ≡ true) ↔ P) → (not b ≡ true) ↔ (P → ⊥)
negated true exactly = ((λ e. cc), λ never. absurd (never (exactly.0 refl)))
negated false exactly = ((λ e is. apart false (exactly.1 is) refl), λ never. refl)

-- two tests of one thing are the same
pub one-test : {P : Type 0} (p q : Bool) → ((p ≡ true) ↔ P) → ((q ≡ true) ↔ P) → p ≡ q
one-test true true one two = refl
one-test false false one two = refl
one-test true false one two = sym (two.1 (one.0 refl))
one-test false true one two = one.1 (two.0 refl)

-- lists of numbers differ exactly where the test says so
pub bytes-differ : (xs ys : List ℕ) → (not (bytes_eq xs ys) ≡ true) ↔ (xs ≢ ys)
bytes-differ xs ys =
    negated (bytes_eq xs ys) ((bytes_eq-Decides xs ys).0, (bytes_eq-Decides xs ys).1)
