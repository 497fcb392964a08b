-- The first element that is not as asked, as a search finds it; and what is made of numbers in a range.
use Rattle.std.proofs.Common.{◌≡◌, ℕ, zero, suc, ◌+◌, Bool, true, false, List, [], ◌∷◌, ◌++◌, refl, sym, ap, subst, ◌∙◌, cond, arith, Option, None, Some, find, slice_get}
use Rattle.std.specs.Prelude.{filter_map}
use Rattle.std.specs.List.{AllByRecursion, cons_option, range_with_len}
use Rattle.std.proofs.lemmas.List.{append-nil}
use Rattle.std.proofs.lemmas.List.Elements.{filter_map-append}
use Rattle.std.proofs.lemmas.Option.{none-some, same_Some}
use Rattle.elf_pack.specs.declared.segment.Segment.{Segment}
use Rattle.elf_pack.specs.Faults.{IsFirstNot}

pub all-at : {X : Type 0} (P : X → Type 0) (xs : List X) (i : ℕ) (x : X) → slice_get xs i ≡ Some x
    → AllByRecursion P xs → P x
all-at P [] i x at all = absurd (none-some x at)
all-at P (y ∷ ys) zero x at all = subst P (same_Some y x at) all.0
all-at P (y ∷ ys) (suc i) x at all = all-at P ys i x at all.1

pub all-map : {X : Type 0} (P Q : X → Type 0) → ((x : X) → P x → Q x) → (xs : List X) → AllByRecursion P xs
    → AllByRecursion Q xs
all-map P Q more [] all = tt
all-map P Q more (x ∷ xs) all = (more x all.0, all-map P Q more xs all.1)

pub all-both : {X : Type 0} (P Q : X → Type 0) → (xs : List X) → AllByRecursion P xs → AllByRecursion Q xs
    → AllByRecursion (λ x. P x × Q x) xs
all-both P Q [] one two = tt
all-both P Q (x ∷ xs) one two = ((one.0, two.0), all-both P Q xs one.1 two.1)

-- the test p tells which elements are not as asked, of those that have Q
module _ {X : Type 0} (p : X → Bool) (Asked Q : X → Type 0) (right : (x : X) → Q x → p x ≡ false → Asked x)
    (wrong : (x : X) → Q x → p x ≡ true → Asked x → ⊥) where
  none-step : (x : X) (xs : List X) → Q x → (find p xs ≡ None → AllByRecursion Asked xs) → (t : Bool) → p x ≡ t
      → cond t (Some x) (find p xs) ≡ None → AllByRecursion Asked (x ∷ xs)
  none-step x xs q rest true e is = cc
  none-step x xs q rest false e is = (right x q e, rest is)

  pub none-found : (xs : List X) → AllByRecursion Q xs → find p xs ≡ None → AllByRecursion Asked xs
  none-found [] qs is = tt
  none-found (x ∷ xs) qs is = none-step x xs qs.0 (none-found xs qs.1) (p x) refl is

  first-step : (x y : X) (xs : List X) → Q x → (find p xs ≡ Some y → IsFirstNot Asked xs y) → (t : Bool) → p x ≡ t
      → cond t (Some x) (find p xs) ≡ Some y → IsFirstNot Asked (x ∷ xs) y
  first-step x y xs q rest true e is =
      subst (IsFirstNot Asked (x ∷ xs)) (same_Some x y is)
      (record { before = []; behind = xs; whole = refl; here = wrong x q e; earlier = tt })
  first-step x y xs q rest false e is =
      let r = rest is in record {
        before = x ∷ r.before;
        behind = r.behind;
        whole = ap (λ ys. x ∷ ys) r.whole;
        here = r.here;
        earlier = (right x q e, r.earlier);
      }

  pub first-found : (xs : List X) (y : X) → AllByRecursion Q xs → find p xs ≡ Some y → IsFirstNot Asked xs y
  first-found [] y qs is = absurd (none-some y is)
  first-found (x ∷ xs) y qs is = first-step x y xs qs.0 (first-found xs y qs.1) (p x) refl is

  passes : (x : X) → Q x → Asked x → (t : Bool) → p x ≡ t → p x ≡ false
  passes x q asked true e = absurd (wrong x q e asked)
  passes x q asked false e = e

  fails : (x : X) → Q x → (Asked x → ⊥) → (t : Bool) → p x ≡ t → p x ≡ true
  fails x q asked true e = e
  fails x q asked false e = absurd (asked (right x q e))

  pub find-none : (xs : List X) → AllByRecursion Q xs → AllByRecursion Asked xs → find p xs ≡ None
  find-none [] qs all = refl
  find-none (x ∷ xs) qs all =
      ap (λ t. cond t (Some x) (find p xs)) (passes x qs.0 all.0 (p x) refl) ∙ find-none xs qs.1 all.1

  find-behind : (before behind : List X) (y : X) → AllByRecursion Q (before ++ y ∷ behind) → (Asked y → ⊥)
      → AllByRecursion Asked before → find p (before ++ y ∷ behind) ≡ Some y
  find-behind [] behind y qs here all = ap (λ t. cond t (Some y) (find p behind)) (fails y qs.0 here (p y) refl)
  find-behind (x ∷ xs) behind y qs here all =
      ap (λ t. cond t (Some x) (find p (xs ++ y ∷ behind))) (passes x qs.0 all.0 (p x) refl)
      ∙ find-behind xs behind y qs.1 here all.1

  pub find-first : (xs : List X) (y : X) → AllByRecursion Q xs → IsFirstNot Asked xs y → find p xs ≡ Some y
  find-first xs y qs first =
      ap (find p) first.whole
      ∙ find-behind first.before first.behind y (subst (AllByRecursion Q) first.whole qs) first.here first.earlier

-- one number more
pub range-more : (a n : ℕ) → range_with_len a (suc n) ≡ range_with_len a n ++ (a + n) ∷ []
range-more a zero = ap (λ k. k ∷ []) (let e : a ≡ a + 0 = omega arith in e)
range-more a (suc n) =
    ap (λ ks. a ∷ ks) (range-more (a + 1) n
    ∙ ap (λ k. range_with_len (a + 1) n ++ k ∷ []) (let e : a + 1 + n ≡ a + suc n = omega arith in e))

pub made-more : {X : Type 0} (f : ℕ → Option X) (n : ℕ)
    → filter_map f (range_with_len 0 (n + 1)) ≡ filter_map f (range_with_len 0 n) ++ filter_map f (n ∷ [])
made-more f n =
    (let e : n + 1 ≡ suc n = omega arith in ap (λ k. filter_map f (range_with_len 0 k)) e)
    ∙ ap (filter_map f) (range-more 0 n)
    ∙ (let e : 0 + n ≡ n = omega arith in ap (λ k. filter_map f (range_with_len 0 n ++ k ∷ [])) e)
    ∙ filter_map-append f (range_with_len 0 n) (n ∷ [])

all-given : {X : Type 0} (P : X → Type 0) (o : Option X) → ((x : X) → o ≡ Some x → P x) → (xs : List X)
    → AllByRecursion P xs → AllByRecursion P (cons_option o xs)
all-given P None each xs all = all
all-given P (Some x) each xs all = (each x refl, all)

-- each element that is made has P where each that may be made has it
pub all-made : {X : Type 0} (P : X → Type 0) (f : ℕ → Option X) → ((k : ℕ) (x : X) → f k ≡ Some x → P x)
    → (ks : List ℕ) → AllByRecursion P (filter_map f ks)
all-made P f each [] = tt
all-made P f each (k ∷ ks) = all-given P (f k) (each k) (filter_map f ks) (all-made P f each ks)

-- what a loop reads past the end
abbrev pub no_segment : Segment
no_segment = record { number = 0; offset = 0; address = 0; size = 0 }

-- a step of a loop that collects what is made
made-step : {X : Type 0} (f : ℕ → Option X) (n : ℕ) (o : Option X) → f n ≡ o
    → filter_map f (range_with_len 0 (n + 1)) ≡ filter_map f (range_with_len 0 n) ++ cons_option o []
made-step f n o is =
    made-more f n ∙ ap (λ x. filter_map f (range_with_len 0 n) ++ cons_option x []) is

pub made-some : {X : Type 0} (f : ℕ → Option X) (n : ℕ) (x : X) (old new : List X) → f n ≡ Some x
    → old ≡ filter_map f (range_with_len 0 n) → new ≡ old ++ x ∷ [] → new ≡ filter_map f (range_with_len 0 (n + 1))
made-some f n x old new is so_far pushed =
    pushed ∙ ap (λ ys. ys ++ x ∷ []) so_far ∙ sym (made-step f n (Some x) is)

pub made-none : {X : Type 0} (f : ℕ → Option X) (n : ℕ) (old : List X) → f n ≡ None
    → old ≡ filter_map f (range_with_len 0 n) → old ≡ filter_map f (range_with_len 0 (n + 1))
made-none f n old is so_far =
    so_far ∙ sym (append-nil (filter_map f (range_with_len 0 n))) ∙ sym (made-step f n None is)
