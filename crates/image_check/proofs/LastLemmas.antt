-- The last element that passes a test, as a split of the list and as what a search from its end finds.
use Rattle.std.proofs.Common.{◌≡◌, Bool, true, false, ◌||◌, List, [], ◌∷◌, ◌++◌, Option, Some, None, cond, refl, sym, ap, ◌∙◌, subst}
use Rattle.std.specs.Prelude.{find, reverse}
use Rattle.std.specs.List.{AllByRecursion, list_any}
use Rattle.std.specs.Option.{option_or}
use Rattle.std.proofs.lemmas.List.{reverse-append}
use Rattle.std.proofs.lemmas.List.Folds.{find-append}
use Rattle.std.proofs.lemmas.Option.{same_Some}
use Rattle.image_check.specs.Valid.{IsLastWith}

module _ {X : Type 0} (p : X → Bool) where
  -- from the end, the first element comes last
  turned : (x : X) (xs : List X) → find p (reverse (x ∷ xs))
      ≡ option_or (find p (reverse xs)) (cond (p x) (Some x) None)
  turned x xs = ap (find p) (reverse-append (x ∷ []) xs) ∙ find-append p (reverse xs) (x ∷ [])

  pub none-passes : (xs : List X) → find p (reverse xs) ≡ None → AllByRecursion (λ y. p y ≡ false) xs
  none-passes [] h = tt
  none-passes (x ∷ xs) h = go (none-passes xs) (find p (reverse xs)) refl (p x) refl (sym (turned x xs) ∙ h)
    where
      go : (find p (reverse xs) ≡ None → AllByRecursion (λ y. p y ≡ false) xs) → (o : Option X)
          → find p (reverse xs) ≡ o → (t : Bool) → p x ≡ t → option_or o (cond t (Some x) None) ≡ None
          → AllByRecursion (λ y. p y ≡ false) (x ∷ xs)
      go rest (Some z) is t test e = cc
      go rest None is true test e = cc
      go rest None is false test e = (test, rest is)

  pub passes-none : (xs : List X) → AllByRecursion (λ y. p y ≡ false) xs → find p (reverse xs) ≡ None
  passes-none [] none = refl
  passes-none (x ∷ xs) none =
      turned x xs ∙ ap (λ (o : Option X). option_or o (cond (p x) (Some x) None)) (passes-none xs none.1)
      ∙ ap (λ (t : Bool). cond t (Some x) None) none.0

  further : (y : X) (ys : List X) (x : X) → IsLastWith p ys x → IsLastWith p (y ∷ ys) x
  further y ys x last = record {
    before = y ∷ last.before;
    behind = last.behind;
    whole = ap (λ (zs : List X). y ∷ zs) last.whole;
    here = last.here;
    later = last.later;
  }

  pub last-found : (xs : List X) (x : X) → find p (reverse xs) ≡ Some x → IsLastWith p xs x
  last-found [] x h = cc
  last-found (y ∷ ys) x h = go (last-found ys x) (find p (reverse ys)) refl (p y) refl (sym (turned y ys) ∙ h)
    where
      go : (find p (reverse ys) ≡ Some x → IsLastWith p ys x) → (o : Option X) → find p (reverse ys) ≡ o → (t : Bool)
          → p y ≡ t → option_or o (cond t (Some y) None) ≡ Some x
          → IsLastWith p (y ∷ ys) x
      go rest (Some z) is t test e = further y ys x (rest (is ∙ e))
      go rest None is false test e = cc
      go rest None is true test e =
          let same : y ≡ x = same_Some y x e in
          record {
            before = [];
            behind = ys;
            whole = ap (λ (z : X). z ∷ ys) same;
            here = ap p (sym same) ∙ test;
            later = none-passes ys is;
          }

  split-found : (before behind : List X) (x : X) → p x ≡ true → AllByRecursion (λ y. p y ≡ false) behind
      → find p (reverse (before ++ x ∷ behind)) ≡ Some x
  split-found [] behind x here later =
      turned x behind ∙ ap (λ (o : Option X). option_or o (cond (p x) (Some x) None)) (passes-none behind later)
      ∙ ap (λ (t : Bool). cond t (Some x) None) here
  split-found (y ∷ before) behind x here later =
      turned y (before ++ x ∷ behind)
      ∙ ap (λ (o : Option X). option_or o (cond (p y) (Some y) None)) (split-found before behind x here later)

  pub found-last : (xs : List X) (x : X) → IsLastWith p xs x → find p (reverse xs) ≡ Some x
  found-last xs x last =
      ap (λ (ys : List X). find p (reverse ys)) last.whole ∙ split-found last.before last.behind x last.here last.later

  -- no element passes where none is found by the test of all
  pub any-none : (xs : List X) → list_any p xs ≡ false → AllByRecursion (λ y. p y ≡ false) xs
  any-none [] h = tt
  any-none (x ∷ xs) h = go (any-none xs) (p x) refl h
    where
      go : (list_any p xs ≡ false → AllByRecursion (λ y. p y ≡ false) xs) → (t : Bool) → p x ≡ t
          → (t || list_any p xs) ≡ false → AllByRecursion (λ y. p y ≡ false) (x ∷ xs)
      go rest true test e = cc
      go rest false test e = (test, rest e)

  pub none-any : (xs : List X) → AllByRecursion (λ y. p y ≡ false) xs → list_any p xs ≡ false
  none-any [] none = refl
  none-any (x ∷ xs) none = rw (none.0, none-any xs none.1) refl

  -- a weaker test passes some element where the test finds one
  pub weaker-any : (q : X → Bool) → ((x : X) → p x ≡ true → q x ≡ true) → (xs : List X) (x : X) → IsLastWith p xs x
      → list_any q xs ≡ true
  weaker-any q weaker xs x last =
      subst (λ (ys : List X). list_any q ys ≡ true) (sym last.whole) (among last.before)
    where
      or-true : (t : Bool) → (t || true) ≡ true
      or-true true = refl
      or-true false = refl

      among : (before : List X) → list_any q (before ++ x ∷ last.behind) ≡ true
      among [] = rw (weaker x last.here) refl
      among (y ∷ before) = rw (among before) (or-true (q y))
