-- The steps are gated exactly where the judge of single steps finds none that may not follow.
use Rattle.std.proofs.Common.{◌≡◌, ◌≢◌, ◌⊎◌, inl, inr, ℕ, suc, ◌+◌, ◌*◌, ◌/◌, ◌<◌, ◌≤◌, Bool, true, false, List, [], ◌∷◌, ◌++◌, length, take, Some, None, refl, sym, ap, ◌∙◌, subst, arith, append_assoc, append-nil}
use Rattle.std.specs.Prelude.{◌==◌, ◌||◌, not, nat_eq, if◌then◌else◌}
use Rattle.std.specs.List.{AllByRecursion, IsDistinct, list_any}
use Rattle.std.proofs.lemmas.Bool.{and_parts, cases_lt, eqb-true, eqb-false}
use Rattle.pico_board.specs.declared.Step.{Step}
use Rattle.pico_board.specs.declared.step.Step.TheVariants.{Erase, Program, Raise}
use Rattle.pico_board.specs.declared.window.Window.{Window}
use Rattle.pico_board.specs.Sessions.{Confined, Gated, IsElsewhere, IsProgramIn, pages_of}
use Rattle.pico_board.proofs.GateLemmas.{IsDistinct-first, IsDistinct-none, IsDistinct-rest}
use Rattle.boot_sweep.specs.Refusals.{begins_gated, has_none, may_follow, pages_behind, ungated_behind, ungated_in}
use Rattle.boot_sweep.proofs.PageLemmas.{distinct-behind}

-- steps elsewhere, and then programs of different pages of sector s
pub record IsTail (s : ℕ) (tail elsewhere last : List Step) : Type 0 where
  pub whole : tail ≡ elsewhere ++ last
  pub apart : AllByRecursion (IsElsewhere s) elsewhere
  pub final : AllByRecursion (IsProgramIn s) last
  pub distinct : IsDistinct nat_eq (pages_of last)

all-more : (P : Step → Type 0) (xs : List Step) (x : Step) → AllByRecursion P xs → P x
    → AllByRecursion P (xs ++ x ∷ [])
all-more P [] x all here = (here, tt)
all-more P (y ∷ xs) x all here = (all.0, all-more P xs x all.1 here)

-- programs without pages are none
no-pages : (s : ℕ) (last : List Step) → AllByRecursion (IsProgramIn s) last → has_none (pages_of last) ≡ true
    → last ≡ []
no-pages s [] all e = refl
no-pages s (Erase t ∷ last) all e = absurd all.0
no-pages s (Program p d ∷ last) all e = cc
no-pages s (Raise r b ∷ last) all e = absurd all.0

pages-behind : (last : List Step) (p : ℕ) (d : List ℕ) → pages_of (last ++ Program p d ∷ []) ≡ pages_of last ++ p ∷ []
pages-behind [] p d = refl
pages-behind (Erase t ∷ last) p d = pages-behind last p d
pages-behind (Program q e ∷ last) p d = ap (λ ps. q ∷ ps) (pages-behind last p d)
pages-behind (Raise r b ∷ last) p d = pages-behind last p d

not-true : (b : Bool) → not b ≡ true → b ≡ false
not-true true e = cc
not-true false e = refl

-- one more step elsewhere, where no page is programmed yet
tail-elsewhere : (s : ℕ) (tail e l : List Step) (step : Step) → IsTail s tail e l → has_none (pages_of l) ≡ true
    → IsElsewhere s step → IsTail s (tail ++ step ∷ []) (e ++ step ∷ []) []
tail-elsewhere s tail e l step t none here =
    let empty = no-pages s l t.final none in record {
      whole = ap (λ xs. xs ++ step ∷ []) (t.whole ∙ (ap (λ ys. e ++ ys) empty ∙ append-nil e))
          ∙ sym (append-nil (e ++ step ∷ []));
      apart = all-more (IsElsewhere s) e step t.apart here;
      final = tt;
      distinct = IsDistinct-none;
    }

-- one more program of the sector
tail-final : (s : ℕ) (tail e l : List Step) (p : ℕ) (d : List ℕ) → IsTail s tail e l → p / 16 ≡ s
    → list_any (λ page. page == p) (pages_of l) ≡ false
    → IsTail s (tail ++ Program p d ∷ []) e (l ++ Program p d ∷ [])
tail-final s tail e l p d t inside fresh = record {
  whole = ap (λ xs. xs ++ Program p d ∷ []) t.whole ∙ append_assoc e l (Program p d ∷ []);
  apart = t.apart;
  final = all-more (IsProgramIn s) l (Program p d) t.final (omega (arith, inside), omega (arith, inside));
  distinct = subst (λ ps. IsDistinct nat_eq ps) (sym (pages-behind l p d))
      (distinct-behind (pages_of l) p t.distinct fresh);
}

-- a page of another sector
page-elsewhere : (s p : ℕ) → p / 16 ≢ s → (256 * p + 256 ≤ 4096 * s) ⊎ (4096 * s + 4096 ≤ 256 * p)
page-elsewhere s p apart = go (cases_lt (p / 16) s)
  where
    go : (p / 16 < s) ⊎ (s ≤ p / 16) → (256 * p + 256 ≤ 4096 * s) ⊎ (4096 * s + 4096 ≤ 256 * p)
    go (inl low) = inl (omega (arith, low))
    go (inr high) = inr (omega (arith, high, apart))

-- the tail with a step that may follow
tail-more : (s : ℕ) (tail e l : List Step) (step : Step) → IsTail s tail e l → may_follow s (pages_of l) step ≡ true
    → (f : List Step) × (m : List Step) × IsTail s (tail ++ step ∷ []) f m
    × (pages_behind s (pages_of l) step ≡ pages_of m)
tail-more s tail e l (Raise r b) t may = cc
tail-more s tail e l (Erase u) t may =
    let p = and_parts _ _ may in
    let other = eqb-false u s (not-true (u == s) p.1) in
    (e ++ Erase u ∷ [], [], tail-elsewhere s tail e l (Erase u) t p.0 other, ap pages_of (no-pages s l t.final p.0))
tail-more s tail e l (Program p d) t may = go (p / 16 == s) refl may
  where
    go : (b : Bool) → (p / 16 == s) ≡ b
        → (if b then not (list_any (λ page. page == p) (pages_of l)) else has_none (pages_of l)) ≡ true
        → (f : List Step) × (m : List Step) × IsTail s (tail ++ Program p d ∷ []) f m
        × ((if p / 16 == s then pages_of l ++ p ∷ [] else pages_of l) ≡ pages_of m)
    go true is may = (
      e,
      l ++ Program p d ∷ [],
      tail-final s tail e l p d t (eqb-true (p / 16) s is) (not-true _ may),
      ap (λ b. if b then pages_of l ++ p ∷ [] else pages_of l) is ∙ sym (pages-behind l p d),
    )
    go false is may = (
      e ++ Program p d ∷ [],
      [],
      tail-elsewhere s tail e l (Program p d) t may (page-elsewhere s p (eqb-false (p / 16) s is)),
      ap (λ b. if b then pages_of l ++ p ∷ [] else pages_of l) is ∙ ap pages_of (no-pages s l t.final may),
    )

-- where none of the steps may not follow, they are the rest of a tail
tail-none : (s : ℕ) (tail e l : List Step) (k : ℕ) (steps : List Step) → IsTail s tail e l
    → ungated_behind s (pages_of l) k steps ≡ None → (f : List Step) × (m : List Step) × IsTail s (tail ++ steps) f m
tail-none s tail e l k [] t none = (e, l, subst (λ xs. IsTail s xs e l) (sym (append-nil tail)) t)
tail-none s tail e l k (step ∷ steps) t none =
    go (λ u f m. tail-none s u f m (k + 1) steps) (may_follow s (pages_of l) step) refl none
  where
    go : ((u f m : List Step) → IsTail s u f m → ungated_behind s (pages_of m) (k + 1) steps ≡ None
        → (g : List Step) × (o : List Step) × IsTail s (u ++ steps) g o)
        → (b : Bool) → may_follow s (pages_of l) step ≡ b
        → (if b then ungated_behind s (pages_behind s (pages_of l) step) (k + 1) steps else Some k) ≡ None
        → (f : List Step) × (m : List Step) × IsTail s (tail ++ step ∷ steps) f m
    go ih false may none = cc
    go ih true may none =
        let one = tail-more s tail e l step t may in
        let rest = ih (tail ++ step ∷ []) one.0 one.1 one.2
        (ap (λ ps. ungated_behind s ps (k + 1) steps) (sym one.3) ∙ none) in
        (rest.0, rest.1, subst (λ xs. IsTail s xs rest.0 rest.1) (append_assoc tail (step ∷ []) steps) rest.2)

-- different pages, and one of them
any-left : (xs ys : List ℕ) (p : ℕ) → IsDistinct nat_eq (xs ++ p ∷ ys) → list_any (λ x. x == p) xs ≡ false
any-left [] ys p distinct = refl
any-left (x ∷ xs) ys p distinct =
    let first = IsDistinct-first x (xs ++ p ∷ ys) distinct in
    let here : (x == p) ≡ false = among xs first in
    let rest = any-left xs ys p (IsDistinct-rest x (xs ++ p ∷ ys) distinct) in
    ap (λ b. b || list_any (λ z. z == p) xs) here ∙ rest
  where
    among : (zs : List ℕ) → AllByRecursion (λ y. nat_eq x y ≡ false) (zs ++ p ∷ ys) → nat_eq x p ≡ false
    among [] all = all.0
    among (z ∷ zs) all = among zs all.1

none-final : (s : ℕ) (pages : List ℕ) (k : ℕ) (l : List Step) → AllByRecursion (IsProgramIn s) l
    → IsDistinct nat_eq (pages ++ pages_of l) → ungated_behind s pages k l ≡ None
none-final s pages k [] all distinct = refl
none-final s pages k (Erase t ∷ l) all distinct = absurd all.0
none-final s pages k (Raise r b ∷ l) all distinct = absurd all.0
none-final s pages k (Program p d ∷ l) all distinct =
    let low = all.0.0 in
    let high = all.0.1 in
    let same : p / 16 ≡ s = omega (arith, low, high) in
    let here : (p / 16 == s) ≡ true = grind (arith, same) in
    let fresh = any-left pages (pages_of l) p distinct in
    let follows : may_follow s pages (Program p d) ≡ true =
    ap (λ b. if b then not (list_any (λ page. page == p) pages) else has_none pages) here ∙ ap not fresh in
    let behind : pages_behind s pages (Program p d) ≡ pages ++ p ∷ [] =
    ap (λ b. if b then pages ++ p ∷ [] else pages) here in
    ap (λ b. if b then ungated_behind s (pages_behind s pages (Program p d)) (k + 1) l else Some k) follows
    ∙ (ap (λ ps. ungated_behind s ps (k + 1) l) behind
    ∙ none-final s (pages ++ p ∷ []) (k + 1) l all.1
    (subst (λ ps. IsDistinct nat_eq ps) (sym (append_assoc pages (p ∷ []) (pages_of l))) distinct))

none-elsewhere : (s k : ℕ) (e l : List Step) → AllByRecursion (IsElsewhere s) e
    → AllByRecursion (IsProgramIn s) l → IsDistinct nat_eq (pages_of l) → ungated_behind s [] k (e ++ l) ≡ None
none-elsewhere s k [] l apart final distinct = none-final s [] k l final distinct
none-elsewhere s k (Erase t ∷ e) l apart final distinct =
    let differ = apart.0 in
    let other : (t == s) ≡ false = grind (arith, differ) in
    ap (λ b. if not b then ungated_behind s [] (k + 1) (e ++ l) else Some k) other
    ∙ none-elsewhere s (k + 1) e l apart.1 final distinct
none-elsewhere s k (Program p d ∷ e) l apart final distinct =
    let there = apart.0 in
    let other : (p / 16 == s) ≡ false = elsewhere there in
    ap (λ b. if (if b then true else true) then
    ungated_behind s (if b then p ∷ [] else []) (k + 1) (e ++ l) else Some k) other
    ∙ none-elsewhere s (k + 1) e l apart.1 final distinct
  where
    elsewhere : (256 * p + 256 ≤ 4096 * s) ⊎ (4096 * s + 4096 ≤ 256 * p) → (p / 16 == s) ≡ false
    elsewhere (inl low) = let differ : p / 16 < s = omega (arith, low) in grind (arith, differ)
    elsewhere (inr high) = let differ : s < p / 16 = omega (arith, high) in grind (arith, differ)
none-elsewhere s k (Raise r b ∷ e) l apart final distinct = absurd apart.0

-- the first of the steps that may not follow
pub record IsFirstAt (s : ℕ) (pages : List ℕ) (k : ℕ) (steps : List Step) (j i : ℕ) : Type 0 where
  pub number : j ≡ k + i
  pub inside : i < length steps
  pub before : ungated_behind s pages k (take i steps) ≡ None
  pub here : ungated_behind s pages k (take (suc i) steps) ≡ Some j

first-at : (s : ℕ) (pages : List ℕ) (k : ℕ) (steps : List Step) (j : ℕ) → ungated_behind s pages k steps ≡ Some j
    → (i : ℕ) × IsFirstAt s pages k steps j i
first-at s pages k [] j e = cc
first-at s pages k (step ∷ steps) j e =
    go (λ e. first-at s (pages_behind s pages step) (k + 1) steps j e) (may_follow s pages step) refl e
  where
    same-number : (a b : ℕ) → Some a ≡ Some b → b ≡ a
    same-number a b e = cc

    go : (ungated_behind s (pages_behind s pages step) (k + 1) steps ≡ Some j
        → (i : ℕ) × IsFirstAt s (pages_behind s pages step) (k + 1) steps j i)
        → (b : Bool) → may_follow s pages step ≡ b
        → (if b then ungated_behind s (pages_behind s pages step) (k + 1) steps else Some k) ≡ Some j
        → (i : ℕ) × IsFirstAt s pages k (step ∷ steps) j i
    go ih false may e = (
      0,
      record {
        number = same-number k j e ∙ omega arith;
        inside = omega arith;
        before = refl;
        here = ap (λ b. if b then ungated_behind s (pages_behind s pages step) (k + 1) [] else Some k) may ∙ e;
      },
    )
    go ih true may e =
        let rest = ih e in
        let n = rest.1.number in
        let lt = rest.1.inside in (
          suc rest.0,
          record {
            number = omega (arith, n);
            inside = omega (arith, lt);
            before = ap (λ b. if b then ungated_behind s (pages_behind s pages step) (k + 1) (take rest.0 steps)
                else Some k) may ∙ rest.1.before;
            here = ap (λ b. if b then ungated_behind s (pages_behind s pages step) (k + 1) (take (suc rest.0) steps)
                else Some k) may ∙ rest.1.here;
          },
        )

-- where none of the steps, which lie in the window, may not follow, they are gated
pub none-gated : (w : Window) (steps : List Step) → Confined steps w → ungated_in w steps ≡ None → Gated steps w
none-gated w [] confined none = inl refl
none-gated w (step ∷ steps) confined none = go step refl (begins_gated w step) refl none
  where
    go : (x : Step) → step ≡ x → (b : Bool) → begins_gated w x ≡ b
        → (if b then ungated_behind (w.start / 4096) [] 1 steps else Some 0) ≡ None → Gated (step ∷ steps) w
    go x is false begins none = cc
    go (Program p d) is true begins none = cc
    go (Raise r b) is true begins none = cc
    go (Erase s) is true begins none =
        let first : 4096 * s ≡ w.start = eqb-true (4096 * s) w.start begins in
        let same : w.start / 4096 ≡ s = omega (arith, first) in
        let t = tail-none s [] [] [] 1 steps
        (record { whole = refl; apart = tt; final = tt; distinct = IsDistinct-none })
        (ap (λ n. ungated_behind n [] 1 steps) (sym same) ∙ none) in
        inr (
          s,
          t.0,
          t.1,
          record {
            whole = ap (λ x. x ∷ steps) is ∙ ap (λ xs. Erase s ∷ xs) t.2.whole;
            first = first;
            confined = confined;
            apart = t.2.apart;
            final = t.2.final;
            distinct = t.2.distinct;
          },
        )

-- a gated list has no step up to which it begins no gated list
pub gated-none : (w : Window) (steps : List Step) → Gated steps w → ungated_in w steps ≡ None
gated-none w steps (inl none) = ap (ungated_in w) none
gated-none w steps (inr (s, e, l, g)) =
    let first = g.first in
    let begins : (4096 * s == w.start) ≡ true = grind (arith, first) in
    let same : s ≡ w.start / 4096 = omega (arith, first) in
    ap (ungated_in w) g.whole
    ∙ (ap (λ b. if b then ungated_behind (w.start / 4096) [] 1 (e ++ l) else Some 0) begins
    ∙ (ap (λ n. ungated_behind n [] 1 (e ++ l)) (sym same) ∙ none-elsewhere s 1 e l g.apart g.final g.distinct))

-- the first step is named
pub first-ungated : (w : Window) (steps : List Step) (j : ℕ) → ungated_in w steps ≡ Some j
    → (j < length steps) × (ungated_in w (take j steps) ≡ None) × (ungated_in w (take (suc j) steps) ≡ Some j)
first-ungated w [] j e = cc
first-ungated w (step ∷ steps) j e = go (begins_gated w step) refl e
  where
    zero-is : (j : ℕ) → Some 0 ≡ Some j → j ≡ 0
    zero-is j e = cc

    go : (b : Bool) → begins_gated w step ≡ b
        → (if b then ungated_behind (w.start / 4096) [] 1 steps else Some 0) ≡ Some j
        → (j < suc (length steps)) × (ungated_in w (take j (step ∷ steps)) ≡ None)
        × (ungated_in w (take (suc j) (step ∷ steps)) ≡ Some j)
    go false begins e =
        let z = zero-is j e in
        subst (λ n. (n < suc (length steps)) × (ungated_in w (take n (step ∷ steps)) ≡ None)
        × (ungated_in w (take (suc n) (step ∷ steps)) ≡ Some n)) (sym z) (
          omega arith,
          refl,
          ap (λ b. if b then ungated_behind (w.start / 4096) [] 1 [] else Some 0) begins,
        )
    go true begins e =
        let f = first-at (w.start / 4096) [] 1 steps j e in
        let i = f.0 in
        let n : j ≡ suc i = let m = f.1.number in omega (arith, m) in
        let lt = f.1.inside in
        subst (λ n. (n < suc (length steps)) × (ungated_in w (take n (step ∷ steps)) ≡ None)
        × (ungated_in w (take (suc n) (step ∷ steps)) ≡ Some n)) (sym n) (
          omega (arith, lt),
          ap (λ b. if b then ungated_behind (w.start / 4096) [] 1 (take i steps) else Some 0) begins ∙ f.1.before,
          ap (λ b. if b then ungated_behind (w.start / 4096) [] 1 (take (suc i) steps) else Some 0) begins
              ∙ (f.1.here ∙ ap (λ k. Some k) n),
        )
