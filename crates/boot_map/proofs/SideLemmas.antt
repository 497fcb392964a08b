-- What lies side by side: each sector in one window, and the windows in their order.
use Rattle.std.proofs.Common.{◌≡◌, ◌⊎◌, inl, inr, ℕ, zero, suc, ◌+◌, ◌*◌, ◌<◌, ◌≤◌, List, [], ◌∷◌, length, map, slice_get, Some, refl, sym, ◌∙◌, ap, subst, arith}
use Rattle.std.specs.List.{sum_by}
use Rattle.std.proofs.lemmas.List.Sums.{sum_by-cons}
use Rattle.std.proofs.lemmas.Bool.{cases_eq, cases_lt}
use Rattle.std.proofs.lemmas.Option.{same_Some}
use Rattle.pico_board.specs.declared.window.Window.{Window}
use Rattle.boot_map.specs.Windows.{window_end}
use Rattle.boot_map.specs.WindowRules.{AreSideBySide, WindowHasSector}

-- something at a place of a list has the sector
pub record Holds {X : Type 0} (f : X → Window) (xs : List X) (s : ℕ) : Type 0 where
  pub place : ℕ
  pub item : X
  pub at : slice_get xs place ≡ Some item
  pub has : WindowHasSector (f item) s

module _ {X : Type 0} (f : X → Window) (n : ℕ) where
  ends : (at x : ℕ) → at ≡ n → at ≤ x → x < n → ⊥
  ends at x e le lt = omega arith

  from : (a b x : ℕ) → a ≡ b → b ≤ x → a ≤ x
  from a b x e le = omega arith

  pub find-sector : (xs : List X) (at s : ℕ) → AreSideBySide at n (map f xs) → at ≤ 4096 * s → 4096 * s < n
      → Holds f xs s
  find-sector [] at s side le lt = absurd (ends at (4096 * s) side le lt)
  find-sector (x ∷ xs) at s side le lt =
      by (cases_lt (4096 * s) (window_end (f x))) (λ past. find-sector xs (window_end (f x)) s side.1 past lt)
    where
      by : (4096 * s < window_end (f x)) ⊎ (window_end (f x) ≤ 4096 * s)
          → (window_end (f x) ≤ 4096 * s → Holds f xs s) → Holds f (x ∷ xs) s
      by (inl before) rest = record {
        place = 0;
        item = x;
        at = refl;
        has = (from (f x).start at (4096 * s) side.0 le, before);
      }
      by (inr past) rest =
          let found = rest past in
          record { place = suc found.place; item = found.item; at = found.at; has = found.has }

  low-end : (a b c d : ℕ) → a ≡ b → a + c ≤ d → b ≤ d
  low-end a b c d e le = omega arith

  -- what comes later begins later
  later : (xs : List X) (at k : ℕ) (y : X) → AreSideBySide at n (map f xs) → slice_get xs k ≡ Some y → at ≤ (f y).start
  later [] at k y side e = cc
  later (x ∷ xs) at zero y side e =
      let same = same_Some x y e in
      subst (λ v. at ≤ (f v).start) same (least (f x).start side.0)
    where
      least : (a : ℕ) → a ≡ at → at ≤ a
      least a e2 = omega arith
  later (x ∷ xs) at (suc k) y side e =
      low-end (f x).start at (f x).len (f y).start side.0 (later xs (window_end (f x)) k y side.1 e)

  pub ordered : (xs : List X) (at j k : ℕ) (x y : X) → AreSideBySide at n (map f xs) → j < k
      → slice_get xs j ≡ Some x → slice_get xs k ≡ Some y → window_end (f x) ≤ (f y).start
  ordered [] at j k x y side lt one two = cc
  ordered (v ∷ xs) at zero zero x y side lt one two = absurd (omega arith)
  ordered (v ∷ xs) at zero (suc k) x y side lt one two =
      subst (λ u. window_end (f u) ≤ (f y).start) (same_Some v x one) (later xs (window_end (f v)) k y side.1 two)
  ordered (v ∷ xs) at (suc j) zero x y side lt one two = absurd (omega arith)
  ordered (v ∷ xs) at (suc j) (suc k) x y side lt one two =
      ordered xs (window_end (f v)) j k x y side.1 (omega (arith, lt)) one two

  crossed : (a b s : ℕ) → s < a → a ≤ b → b ≤ s → ⊥
  crossed a b s one two three = omega arith

  -- a sector lies in one only
  pub one-place : (xs : List X) (at j k : ℕ) (x y : X) (s : ℕ) → AreSideBySide at n (map f xs)
      → slice_get xs j ≡ Some x → slice_get xs k ≡ Some y → WindowHasSector (f x) s → WindowHasSector (f y) s → j ≡ k
  one-place xs at j k x y s side one two has also = by (cases_eq j k)
    where
      split : (j < k) ⊎ (k ≤ j) → (j ≡ k → ⊥) → j ≡ k
      split (inl lt) differ =
          absurd (crossed (window_end (f x)) (f y).start (4096 * s) has.1 (ordered xs at j k x y side lt one two)
          also.0)
      split (inr ge) differ =
          absurd (crossed (window_end (f y)) (f x).start (4096 * s) also.1
          (ordered xs at k j y x side (above j k ge differ) two one) has.0)
        where
          above : (a b : ℕ) → b ≤ a → (a ≡ b → ⊥) → b < a
          above a b le ne = omega (arith, ne)

      by : (j ≡ k) ⊎ (j ≡ k → ⊥) → j ≡ k
      by (inl e) = e
      by (inr differ) = split (cases_lt j k) differ

  -- the lengths, and each after the former
  pub sum-side : (xs : List X) (at : ℕ) → AreSideBySide at n (map f xs) → at + sum_by (λ x. (f x).len) xs ≡ n
  sum-side [] at side = plain at side
    where
      plain : (a : ℕ) → a ≡ n → a + 0 ≡ n
      plain a e = omega arith
  sum-side (x ∷ xs) at side =
      regroup (f x).start (f x).len at (sum_by (λ y. (f y).len) xs) (sum_by (λ y. (f y).len) (x ∷ xs)) side.0
      (sum_by-cons (λ y. (f y).len) x xs) (sum-side xs (window_end (f x)) side.1)
    where
      regroup : (a b c d e : ℕ) → a ≡ c → e ≡ b + d → (a + b) + d ≡ n → c + e ≡ n
      regroup a b c d e e1 e2 e3 = omega arith

  pub first-begins : (xs : List X) (at : ℕ) (x : X) → AreSideBySide at n (map f xs) → slice_get xs 0 ≡ Some x
      → (f x).start ≡ at
  first-begins [] at x side e = cc
  first-begins (v ∷ xs) at x side e = ap (λ u. (f u).start) (sym (same_Some v x e)) ∙ side.0

  pub next-begins : (xs : List X) (at k : ℕ) (x y : X) → AreSideBySide at n (map f xs) → slice_get xs k ≡ Some x
      → slice_get xs (suc k) ≡ Some y → (f y).start ≡ window_end (f x)
  next-begins [] at k x y side one two = cc
  next-begins (v ∷ xs) at zero x y side one two =
      first-begins xs (window_end (f v)) y side.1 two ∙ ap (λ u. window_end (f u)) (same_Some v x one)
  next-begins (v ∷ xs) at (suc k) x y side one two = next-begins xs (window_end (f v)) k x y side.1 one two

  pub last-ends : (xs : List X) (at k : ℕ) (x : X) → AreSideBySide at n (map f xs) → slice_get xs k ≡ Some x
      → suc k ≡ length xs → window_end (f x) ≡ n
  last-ends [] at k x side e last = cc
  last-ends (v ∷ []) at zero x side e last = ap (λ u. window_end (f u)) (sym (same_Some v x e)) ∙ side.1
  last-ends (v ∷ u ∷ xs) at zero x side e last = absurd (omega (arith, last))
  last-ends (v ∷ xs) at (suc k) x side e last = last-ends xs (window_end (f v)) k x side.1 e (omega (arith, last))
