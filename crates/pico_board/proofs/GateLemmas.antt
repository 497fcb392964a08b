-- A prefix of a gated list is gated, and a gated list programs at most sixteen pages at its end.
use Rattle.std.proofs.Common.{◌≡◌, ◌⊎◌, ℕ, suc, ◌+◌, ◌-◌, ◌*◌, ◌<◌, ◌≤◌, true, false, nat_eq, List, [], ◌∷◌, ◌++◌, length, refl, sym, ◌∙◌, ap, subst, inl, inr, arith, append-nil}
use Rattle.std.specs.List.{AllByRecursion, IsDistinct}
use Rattle.std.proofs.lemmas.Bool.Decides.{Decides-eqb}
use Rattle.std.proofs.lemmas.Cmp.{nat_eq_equiv}
use Rattle.std.proofs.lemmas.List.Elements.{All-from_recursion}
use Rattle.std.proofs.lemmas.List.FromFn.{get_or-range_with_len, length-range_with_len}
use Rattle.std.proofs.lemmas.Map.Made.{is_member-Decides, length-le_from_is_member}
use Rattle.std.specs.List.{range_with_len}
use Rattle.std.specs.Set.{is_member}
use Rattle.pico_board.specs.declared.window.Window.{Window}
use Rattle.pico_board.specs.Steps.{Step, Erase, Program, Raise}
use Rattle.pico_board.specs.Sessions.{Confined, Gated, IsElsewhere, IsGated, IsProgramIn, pages_of}
use Rattle.pico_board.proofs.ConfinementLemmas.{Confined-left}

-- the first elements have what all have
pub AllByRecursion-left : {X : Type 0} (P : X → Type 0) (xs ys : List X) → AllByRecursion P (xs ++ ys)
    → AllByRecursion P xs
AllByRecursion-left P [] ys all = tt
AllByRecursion-left P (x ∷ xs) ys all = (all.0, AllByRecursion-left P xs ys all.1)

pub IsDistinct-first : (x : ℕ) (xs : List ℕ) → IsDistinct nat_eq (x ∷ xs) → AllByRecursion (λ y. nat_eq x y ≡ false) xs
unfolding IsDistinct
IsDistinct-first x xs distinct = distinct.0

pub IsDistinct-rest : (x : ℕ) (xs : List ℕ) → IsDistinct nat_eq (x ∷ xs) → IsDistinct nat_eq xs
unfolding IsDistinct
IsDistinct-rest x xs distinct = distinct.1

pub IsDistinct-none : IsDistinct nat_eq []
unfolding IsDistinct
IsDistinct-none = tt

pub IsDistinct-more : (x : ℕ) (xs : List ℕ) → AllByRecursion (λ y. nat_eq x y ≡ false) xs → IsDistinct nat_eq xs
    → IsDistinct nat_eq (x ∷ xs)
unfolding IsDistinct
IsDistinct-more x xs first rest = (first, rest)

IsDistinct-left : (xs ys : List ℕ) → IsDistinct nat_eq (xs ++ ys) → IsDistinct nat_eq xs
IsDistinct-left [] ys distinct = IsDistinct-none
IsDistinct-left (x ∷ xs) ys distinct =
    IsDistinct-more x xs (AllByRecursion-left (λ y. nat_eq x y ≡ false) xs ys (IsDistinct-first x (xs ++ ys) distinct))
    (IsDistinct-left xs ys (IsDistinct-rest x (xs ++ ys) distinct))

pub pages_of-append : (xs ys : List Step) → pages_of (xs ++ ys) ≡ pages_of xs ++ pages_of ys
pages_of-append [] ys = refl
pages_of-append (Erase s ∷ xs) ys = pages_of-append xs ys
pages_of-append (Program p d ∷ xs) ys = ap (λ (ps : List ℕ). p ∷ ps) (pages_of-append xs ys)
pages_of-append (Raise r b ∷ xs) ys = pages_of-append xs ys

-- a prefix of two lists ends in the first or in the second
pub record EndsInFirst (xs e : List Step) : Type 0 where
  pub rest : List Step
  pub whole : e ≡ xs ++ rest

pub record EndsInSecond (xs e l : List Step) : Type 0 where
  pub part : List Step
  pub rest : List Step
  pub front : xs ≡ e ++ part
  pub back : l ≡ part ++ rest

pub prefix_cases : (xs ys e l : List Step) → xs ++ ys ≡ e ++ l → EndsInFirst xs e ⊎ EndsInSecond xs e l
prefix_cases [] ys e l same = inl (record { rest = e; whole = refl })
prefix_cases (x ∷ xs) ys [] l same = inr (record { part = x ∷ xs; rest = ys; front = refl; back = sym same })
prefix_cases (x ∷ xs) ys (a ∷ e) l same =
    let head : x ≡ a = cc in
    let tail : xs ++ ys ≡ e ++ l = cc in
    elim (prefix_cases xs ys e l tail) [
      | inl first ↦ inl (record { rest = first.rest; whole = cc (first.whole, head) })
      | inr second ↦ inr (record {
        part = second.part;
        rest = second.rest;
        front = cc (second.front, head);
        back = second.back;
      })
    ]

gated_front : (x : Step) (xs ys : List Step) (w : Window) (s : ℕ) (e l : List Step) → IsGated (x ∷ xs ++ ys) w s e l
    → Gated (x ∷ xs) w
gated_front x xs ys w s e l gated =
    let head : x ≡ Erase s = cc gated.whole in
    let tail : xs ++ ys ≡ e ++ l = cc gated.whole in
    let confined : Confined (x ∷ xs) w = Confined-left (x ∷ xs) ys w gated.confined in
    elim (prefix_cases xs ys e l tail) [
      | inl first ↦ inr (
        s,
        xs,
        [],
        record {
          whole = cc (head, append-nil xs);
          first = gated.first;
          confined = confined;
          apart = AllByRecursion-left (IsElsewhere s) xs first.rest
              (subst (AllByRecursion (IsElsewhere s)) first.whole gated.apart);
          final = tt;
          distinct = IsDistinct-none;
        },
      )
      | inr second ↦ inr (
        s,
        e,
        second.part,
        record {
          whole = cc (head, second.front);
          first = gated.first;
          confined = confined;
          apart = gated.apart;
          final = AllByRecursion-left (IsProgramIn s) second.part second.rest
              (subst (AllByRecursion (IsProgramIn s)) second.back gated.final);
          distinct = IsDistinct-left (pages_of second.part) (pages_of second.rest)
              (subst (IsDistinct nat_eq) (ap pages_of second.back ∙ pages_of-append second.part second.rest)
              gated.distinct);
        },
      )
    ]

-- each prefix of a gated list is gated
pub Gated-left : (xs ys : List Step) (w : Window) → Gated (xs ++ ys) w → Gated xs w
Gated-left [] ys w gated = inl refl
Gated-left (x ∷ xs) ys w (inl none) = cc
Gated-left (x ∷ xs) ys w (inr (s, e, l, gated)) = gated_front x xs ys w s e l gated

-- the pages of programs of a sector
pages_inside : (s : ℕ) (last : List Step) → AllByRecursion (IsProgramIn s) last
    → AllByRecursion (λ p. (16 * s ≤ p) × (p < 16 * s + 16)) (pages_of last)
pages_inside s [] all = tt
pages_inside s (Erase t ∷ last) all = absurd all.0
pages_inside s (Program p d ∷ last) all = ((omega arith, omega arith), pages_inside s last all.1)
pages_inside s (Raise r b ∷ last) all = absurd all.0

length-pages_of : (s : ℕ) (last : List Step) → AllByRecursion (IsProgramIn s) last
    → length (pages_of last) ≡ length last
length-pages_of s [] all = refl
length-pages_of s (Erase t ∷ last) all = absurd all.0
length-pages_of s (Program p d ∷ last) all = ap suc (length-pages_of s last all.1)
length-pages_of s (Raise r b ∷ last) all = absurd all.0

in_sector : (s : ℕ) (ps : List ℕ) (q : ℕ) → AllByRecursion (λ p. (16 * s ≤ p) × (p < 16 * s + 16)) ps
    → is_member nat_eq ps q ≡ true
    → is_member nat_eq (range_with_len (16 * s) 16) q ≡ true
in_sector s ps q all member =
    let held = (is_member-Decides Decides-eqb ps q).0 member in
    let bounds = All-from_recursion (λ p. (16 * s ≤ p) × (p < 16 * s + 16)) ps all held.0 q held.1 in
    let low : 16 * s ≤ q = omega (arith, bounds.0, held.2) in
    let high : q < 16 * s + 16 = omega (arith, bounds.1, held.2) in
    (is_member-Decides Decides-eqb (range_with_len (16 * s) 16) q).1 (
      q - 16 * s,
      omega (arith, low, high, length-range_with_len (16 * s) 16),
      get_or-range_with_len (16 * s) 16
          (q - 16 * s) q (omega (arith, low, high)) ∙ omega (arith, low),
    )

-- a gated list ends with at most sixteen programs
pub sixteen : (steps : List Step) (w : Window) (s : ℕ) (elsewhere last : List Step) → IsGated steps w s elsewhere last
    → length last ≤ 16
sixteen steps w s elsewhere last gated =
    omega (
      arith,
      length-pages_of s last gated.final,
      length-range_with_len (16 * s) 16,
      length-le_from_is_member nat_eq_equiv (pages_of last) (range_with_len (16 * s) 16) gated.distinct
          (λ q member. in_sector s (pages_of last) q (pages_inside s last gated.final) member),
    )
