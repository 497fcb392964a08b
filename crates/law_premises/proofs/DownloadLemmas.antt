-- A download of two blocks behind its first one.
use Rattle.std.proofs.Common.{◌≡◌, ℕ, zero, suc, ◌/◌, ◌%◌, ◌||◌, ◌==◌, Bool, true, false, nat_eq, if◌then◌else◌, [], ◌∷◌, inl, inr, refl, sym, ap, arith, ◌∙◌}
use Rattle.std.specs.Prelude.{slice_index}
use Rattle.std.specs.List.{IsDistinct}
use Rattle.std.specs.Set.{is_member}
use Rattle.std.proofs.Math.Dec.{lit≤}
use Rattle.std.proofs.lemmas.Nat.Bits.{bit_at-zero}
use Rattle.std.proofs.lemmas.Bool.Decides.{Decides-eqb, nat_tests}
use Rattle.uf2_place.specs.Accepting.{StandsFor}
use Rattle.uf2_place.specs.Downloads.{Follows}
use Rattle.uf2_place.specs.Marks.{is_marked}
use Rattle.uf2_place.proofs.SetBitLemmas.{differ, marked-set}
use Rattle.worked_flashes.specs.Choices.{to}
use Rattle.worked_flashes.specs.Writes.{slot}
use Rattle.law_premises.specs.Examples.{begun_download, current_of_two, first_of_two, free_pool}

word-zero : (k : ℕ) → slice_index (0 ∷ []) k ≡ 0
word-zero zero = refl
word-zero (suc k) = refl

unmarked : (i : ℕ) → is_marked (0 ∷ []) i ≡ false
unfolding is_marked
unmarked i = rw (word-zero (i / 64), bit_at-zero (i % 64)) refl

or-false : (a b : Bool) → b ≡ false → (if a then true else b) ≡ (a || false)
or-false true b e = refl
or-false false b e = e

same-test : (i : ℕ) → nat_eq 0 i ≡ nat_eq i 0
same-test i = elim (differ 0 i) [
  | inl same ↦ (Decides-eqb 0 i).1 same ∙ sym ((Decides-eqb i 0).1 (sym same))
  | inr other ↦
      let a : nat_eq 0 i ≡ false = grind (arith, nat_tests, other) in
      let b : nat_eq i 0 ≡ false = grind (arith, nat_tests, other) in a ∙ sym b
]

turned : (i : ℕ) → (nat_eq 0 i || false) ≡ is_member nat_eq (0 ∷ []) i
turned i = ap (λ b. b || false) (same-test i)

number-taken : (i : ℕ) → is_marked (1 ∷ []) i ≡ is_member nat_eq (0 ∷ []) i
number-taken i =
    marked-set (0 ∷ []) 0 i (omega arith)
    ∙ (or-false (nat_eq 0 i) (is_marked (0 ∷ []) i) (unmarked i) ∙ turned i)

sector-erased : (s : ℕ) → is_marked (0x100000000 ∷ []) s ≡ ((32 == s) || false)
sector-erased s =
    marked-set (0 ∷ []) 32 s (omega arith) ∙ or-false (nat_eq 32 s) (is_marked (0 ∷ []) s) (unmarked s)

follows : Follows free_pool begun_download.marks current_of_two (first_of_two ∷ [])
unfolding IsDistinct
follows = record {
  are = record {
    window = record { start = refl; len = refl; some = lit≤ tt };
    each = (
      record {
        is = record {
          flags = lit≤ tt;
          address = lit≤ tt;
          aligned = refl;
          some = lit≤ tt;
          few = lit≤ tt;
          number = lit≤ tt;
          family = lit≤ tt;
          page = refl;
        };
        same_family = refl;
        same_count = refl;
      },
      tt,
    );
    distinct = (tt, tt);
  };
  inside = (record { above = lit≤ tt; below = lit≤ tt }, tt);
  left = refl;
  numbers = number-taken;
  sectors = λ s other. sector-erased s;
  held = refl;
}

pub stands : StandsFor begun_download free_pool (to slot false false) (first_of_two ∷ [])
stands = record {
  some = λ none. cc;
  current = current_of_two;
  is = refl;
  target = refl;
  more = lit≤ tt;
  follows = follows;
}
