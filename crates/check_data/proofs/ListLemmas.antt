-- Elements of lists, by tests.
use Rattle.std.proofs.Common.{◌≡◌, ◌⊎◌, inl, inr, zero, suc, Bool, true, false, List, [], ◌∷◌, refl, sym, ap, ◌∙◌, arith}
use Rattle.std.specs.Prelude.{◌||◌, Contains, map}
use Rattle.std.specs.List.{list_any}

pub in-first : {X : Type 0} (x : X) (xs : List X) → Contains (x ∷ xs) x
in-first x xs = (0, omega arith, refl)

pub in-rest : {X : Type 0} (y x : X) (xs : List X) → Contains xs x → Contains (y ∷ xs) x
in-rest y x xs (k, lt, is) = (suc k, omega (arith, lt), is)

pub in-cases : {X : Type 0} (y x : X) (xs : List X) → Contains (y ∷ xs) x → (y ≡ x) ⊎ Contains xs x
in-cases y x xs (zero, lt, is) = inl is
in-cases y x xs (suc k, lt, is) = inr (k, omega (arith, lt), is)

pub in-none : {X : Type 0} (x : X) → (let none : List X = [] in Contains none x) → ⊥
in-none x (k, lt, is) = absurd (omega (arith, lt))

-- an element that passes
pub passing : {X : Type 0} (p : X → Bool) (xs : List X) → list_any p xs ≡ true
    → (x : X) × Contains xs x × (p x ≡ true)
passing p [] e = cc
passing {X} p (y ∷ ys) e = go (passing p ys) (p y) refl e
  where
    go : (list_any p ys ≡ true → (x : X) × Contains ys x × (p x ≡ true)) → (b : Bool) → p y ≡ b
        → (b || list_any p ys) ≡ true → (x : X) × Contains (y ∷ ys) x × (p x ≡ true)
    go rest true here e = (y, in-first y ys, here)
    go rest false here e = let r = rest e in (r.0, in-rest y r.0 ys r.1, r.2)

pub passes : {X : Type 0} (p : X → Bool) (xs : List X) (x : X) → Contains xs x → p x ≡ true
    → list_any p xs ≡ true
passes p [] x is here = absurd (in-none x is)
passes {X} p (y ∷ ys) x is here = go (passes p ys x) (in-cases y x ys is)
  where
    either : (b : Bool) → list_any p ys ≡ true → (b || list_any p ys) ≡ true
    either true e = refl
    either false e = e

    go : (Contains ys x → p x ≡ true → list_any p ys ≡ true) → (y ≡ x) ⊎ Contains ys x
        → (p y || list_any p ys) ≡ true
    go rest (inl first) = ap (λ b. b || list_any p ys) (ap p first ∙ here)
    go rest (inr later) = either (p y) (rest later here)

-- what an element of a mapped list comes from
pub mapped : {X Y : Type 0} (f : X → Y) (xs : List X) (y : Y) → Contains (map f xs) y
    → (x : X) × Contains xs x × (f x ≡ y)
mapped f [] y is = absurd (in-none y is)
mapped {X} {Y} f (x ∷ xs) y is = go (mapped f xs y) (in-cases (f x) y (map f xs) is)
  where
    go : (Contains (map f xs) y → (z : X) × Contains xs z × (f z ≡ y)) → (f x ≡ y) ⊎ Contains (map f xs) y
        → (z : X) × Contains (x ∷ xs) z × (f z ≡ y)
    go rest (inl first) = (x, in-first x xs, first)
    go rest (inr later) = let r = rest later in (r.0, in-rest x r.0 xs r.1, r.2)

pub false-true : {P : Type 0} (b : Bool) → b ≡ false → b ≡ true → P
false-true b e f = let g : false ≡ true = sym e ∙ f in cc
