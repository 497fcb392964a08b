-- Lists that are told by conditions, one for each list of conditions.
use Rattle.std.proofs.Common.{◌≡◌, ◌⊎◌, ◌&&◌, ◌||◌, not, Bool, true, false, cond, List, [], ◌∷◌, ◌++◌, Option, Some, None, Result, Ok, Err, refl, sym, ap, ◌∙◌, append_assoc, inl, inr}
use Rattle.std.specs.Prelude.{OnOk, find, option_to_list}
use Rattle.std.specs.Bool.{Decides}
use Rattle.std.specs.List.{AllByRecursion, filter_map, flat_map}
use Rattle.slot_caveats.specs.declared.caveat.Caveat.{Caveat}
use Rattle.slot_caveats.specs.Listing.{AreBoth, AreOfEach, IsFirstWith, IsOfOne, IsWhere, caveat_if}
use Rattle.slot_caveats.proofs.MoreLemmas.{cons-list}

-- this list meets a condition, and no other one does
pub record IsJust (P : List Caveat → Type 0) (list : List Caveat) : Type 0 where
  pub right : P list
  pub only : (other : List Caveat) → P other → other ≡ list

pub both-just : {P Q : List Caveat → Type 0} (xs ys : List Caveat) → IsJust P xs → IsJust Q ys
    → IsJust (AreBoth P Q) (xs ++ ys)
both-just xs ys p q = record {
  right = (xs, ys, p.right, q.right, refl);
  only = λ other is. is.4 ∙ (ap (λ l. l ++ is.1) (p.only is.0 is.2) ∙ ap (λ l. xs ++ l) (q.only is.1 is.3));
}

true-false : (b : Bool) → b ≡ true → b ≡ false → ⊥
true-false b e f = cc

-- tests of two conditions, and of one that does not hold
pub and-decides : (P Q : Type 0) (a b : Bool) → Decides a P → Decides b Q → Decides (a && b) (P × Q)
and-decides P Q true b p q = (λ e. (p.0 refl, q.0 e), λ is. q.1 is.1)
and-decides P Q false b p q = (λ e. cc, λ is. absurd (true-false false (p.1 is.0) refl))

pub or-decides : (P Q : Type 0) (a b : Bool) → Decides a P → Decides b Q → Decides (a || b) (P ⊎ Q)
or-decides P Q true b p q = (λ e. inl (p.0 refl), λ is. refl)
or-decides P Q false b p q = (
  λ e. inr (q.0 e),
  λ is. elim is [
    | inl one ↦ absurd (true-false false (p.1 one) refl)
    | inr two ↦ q.1 two
  ],
)

pub not-decides : (P : Type 0) (a : Bool) → Decides a P → Decides (not a) (P → ⊥)
not-decides P true p = (λ e. absurd (true-false false e refl), λ never. absurd (never (p.0 refl)))
not-decides P false p = (λ e is. true-false false (p.1 is) refl, λ never. refl)

-- a test and its answer
pub is-true : (a : Bool) → Decides a (a ≡ true)
is-true a = (λ e. e, λ e. e)

pub is-false : (a : Bool) → Decides (not a) (a ≡ false)
is-false true = (λ e. cc, λ e. cc)
is-false false = (λ e. refl, λ e. refl)

-- a condition that a test decides
pub where-just : (P : Type 0) (caveat : Caveat) (b : Bool) → Decides b P
    → IsJust (IsWhere P caveat) (option_to_list (caveat_if b caveat))
where-just P caveat b decides = go b refl
  where
    go : (t : Bool) → b ≡ t → IsJust (IsWhere P caveat) (option_to_list (caveat_if t caveat))
    go true e = record {
      right = inl (decides.0 e, refl);
      only = λ other is. elim is [ inl this ↦ this.1 | inr other_so ↦ absurd (other_so.0 (decides.0 e)) ];
    }
    go false e = record {
      right = inr (λ p. true-false b (decides.1 p) e, refl);
      only = λ other is. elim is [ inl this ↦ absurd (true-false b (decides.1 this.0) e) | inr other_so ↦ other_so.1 ];
    }

-- a condition that does not hold
pub never-just : (P : Type 0) (caveat : Caveat) → (P → ⊥) → IsJust (IsWhere P caveat) []
never-just P caveat never = record {
  right = inr (never, refl);
  only = λ other is. elim is [ inl this ↦ absurd (never this.0) | inr other_so ↦ other_so.1 ];
}

none-some : {X : Type 0} (o : Option X) (x : X) → o ≡ None → o ≡ Some x → ⊥
none-some o x e f = cc

-- the caveat of what meets a condition
pub one-just : {X : Type 0} (P : X → Type 0) (told : X → Caveat) (o : Option Caveat)
    → ((caveat : Caveat) → o ≡ Some caveat → (x : X) × P x × (caveat ≡ told x))
    → ((x : X) → P x → o ≡ Some (told x)) → IsJust (IsOfOne P told) (option_to_list o)
one-just {X} P told o to from = go o refl
  where
    go : (p : Option Caveat) → o ≡ p → IsJust (IsOfOne P told) (option_to_list p)
    go None e = record {
      right = inr (λ x is. none-some o (told x) e (from x is), refl);
      only = λ other is. elim is [
        | inl one ↦ absurd (none-some o (told one.0) e (from one.0 one.1))
        | inr none ↦ none.1
      ];
    }
    go (Some caveat) e =
        let x = to caveat e in record {
          right = inl (x.0, x.1, ap (λ y. y ∷ []) x.2);
          only = λ other is. elim is [
            | inl one ↦ one.2 ∙ ap option_to_list (sym (from one.0 one.1) ∙ e)
            | inr none ↦ absurd (none.0 x.0 x.1)
          ];
        }

-- the lists of elements
pub each-just : {X : Type 0} (P : X → List Caveat → Type 0) (f : X → List Caveat) → ((x : X) → IsJust (P x) (f x))
    → (xs : List X) → IsJust (AreOfEach P xs) (flat_map f xs)
each-just P f just [] = record { right = refl; only = λ other is. is }
each-just P f just (x ∷ xs) = both-just (f x) (flat_map f xs) (just x) (each-just P f just xs)

pub each-one-just : {X : Type 0} (P : X → List Caveat → Type 0) (f : X → Option Caveat)
    → ((x : X) → IsJust (P x) (option_to_list (f x)))
    → (xs : List X) → IsJust (AreOfEach P xs) (filter_map f xs)
each-one-just P f just [] = record { right = refl; only = λ other is. is }
each-one-just P f just (x ∷ xs) =
    let both = both-just (option_to_list (f x)) (filter_map f xs) (just x) (each-one-just P f just xs) in
    let same = cons-list (f x) (filter_map f xs) in record {
      right = (both.right.0, both.right.1, both.right.2, both.right.3, same ∙ both.right.4);
      only = λ other is. both.only other is ∙ sym same;
    }

-- the first element that passes a test
module _ {X : Type 0} (p : X → Bool) where
  further : (y : X) (ys : List X) (x : X) → p y ≡ false → IsFirstWith p ys x → IsFirstWith p (y ∷ ys) x
  further y ys x fails is = record {
    before = y ∷ is.before;
    behind = is.behind;
    whole = ap (λ l. y ∷ l) is.whole;
    here = is.here;
    earlier = (fails, is.earlier);
  }

  pub first-found : (xs : List X) (x : X) → find p xs ≡ Some x → IsFirstWith p xs x
  first-found [] x e = cc
  first-found (y ∷ ys) x e = go (first-found ys x) (p y) refl e
    where
      go : (find p ys ≡ Some x → IsFirstWith p ys x) → (t : Bool) → p y ≡ t → (cond t (Some y) (find p ys)) ≡ Some x
          → IsFirstWith p (y ∷ ys) x
      go rest true is found =
          let same : y ≡ x = cc in record {
            before = [];
            behind = ys;
            whole = ap (λ z. z ∷ ys) same;
            here = ap p (sym same) ∙ is;
            earlier = tt;
          }
      go rest false is found = further y ys x is (rest found)

  pub found-first : (xs : List X) (x : X) → IsFirstWith p xs x → find p xs ≡ Some x
  found-first xs x is = ap (find p) is.whole ∙ go is.before is.earlier
    where
      passing : (t : Bool) (o : Option X) → t ≡ true → (cond t (Some x) (o)) ≡ Some x
      passing true o e = refl
      passing false o e = cc

      failing : (t : Bool) (y : X) (o : Option X) → t ≡ false
          → (cond t (Some y) (o)) ≡ o
      failing true y o e = cc
      failing false y o e = refl

      go : (before : List X) → AllByRecursion (λ y. p y ≡ false) before
          → find p (before ++ x ∷ is.behind) ≡ Some x
      go [] all = passing (p x) (find p is.behind) is.here
      go (y ∷ ys) all = failing (p y) y (find p (ys ++ x ∷ is.behind)) all.0 ∙ go ys all.1

-- ---- lists that are added one behind the other

pub on-ok : (T E : Type 0) (r : Result T E) (P Q : Type 0) → (P → Q) → OnOk r P → OnOk r Q
on-ok T E (Ok x) P Q f is = f is
on-ok T E (Err e) P Q f is = tt

module _ (l a b d e f : List Caveat) where
  pub five-lists : ((((l ++ a) ++ b) ++ d) ++ e) ++ f ≡ l ++ (a ++ (b ++ (d ++ (e ++ f))))
  five-lists =
      append_assoc (((l ++ a) ++ b) ++ d) e f
      ∙ (append_assoc ((l ++ a) ++ b) d (e ++ f)
      ∙ (append_assoc (l ++ a) b (d ++ (e ++ f))
      ∙ append_assoc l a (b ++ (d ++ (e ++ f)))))
