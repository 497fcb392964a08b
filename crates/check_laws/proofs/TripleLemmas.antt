-- The steps raise no row of another unit's triples exactly where the function says so.
use Rattle.std.proofs.Common.{◌≡◌, inl, inr, ℕ, zero, suc, ◌+◌, ◌≤◌, not, Bool, true, false, List, [], ◌∷◌, Option, Some, None, refl, sym, ap, ◌∙◌, subst, arith}
use Rattle.std.specs.Prelude.{◌&&◌, ◌||◌, nat_le, Contains, Result, Ok, Err}
use Rattle.std.specs.List.{list_all, list_any}
use Rattle.std.specs.Result.{result_ok}
use Rattle.std.proofs.lemmas.Bool.{and_from, and_parts, cases_lt, eq-eqb, eqb-true, le-leb, leb-true, or_left, or_right}
use Rattle.pico_board.specs.declared.Step.{Step}
use Rattle.pico_board.specs.declared.step.Step.TheVariants.{Erase, Program, Raise}
use Rattle.pico_board.specs.declared.boot.Cpu.{Cpu}
use Rattle.pico_board.specs.declared.window.Window.{Window}
use Rattle.pico_board.specs.Content.{Content}
use Rattle.pico_board.specs.Windows.{is_same_window}
use Rattle.otp_roll.specs.Rows.{AreRowsApart, IsOutside}
use Rattle.image_def.specs.declared.started.Started.{Started}
use Rattle.image_check.specs.declared.why.Why.{Why}
use Rattle.image_check.specs.Image.{image_at}
use Rattle.image_check.specs.Valid.{Valid}
use Rattle.image_check.proofs.LawLemmas.{at-valid, valid-at}
use Rattle.slot_choice.specs.declared.unit.Member.{Member}
use Rattle.slot_choice.specs.declared.unit.Member.TheVariants.{A, B}
use Rattle.slot_choice.specs.declared.unit.SlotUnit.{SlotUnit}
use Rattle.slot_choice.specs.Units.{IsMember, member_window}
use Rattle.boot_rules.specs.Choosing.{boot_units_in, images_in}
use Rattle.check_laws.specs.Triples.{AreTriplesApart, IsTripleRaised, has_window, is_apart, is_kept_by, is_raise_in, is_second, keeps_image, keeps_row, keeps_second, keeps_unit, keeps_units, keeps_window}

-- what holds of all elements
all-from : {X : Type 0} (f : X → Bool) (xs : List X) (x : X) → list_all f xs ≡ true → Contains xs x → f x ≡ true
all-from f [] x e has = let lt = has.1 in absurd (omega (arith, lt))
all-from f (y ∷ ys) x e (zero, lt, at) = ap f (sym at) ∙ (and_parts _ _ e).0
all-from f (y ∷ ys) x e (suc k, lt, at) = all-from f ys x (and_parts _ _ e).1 (k, omega (arith, lt), at)

all-to : {X : Type 0} (f : X → Bool) (xs : List X) → ((x : X) → Contains xs x → f x ≡ true) → list_all f xs ≡ true
all-to f [] h = refl
all-to f (y ∷ ys) h =
    and_from _ _ (h y (0, omega arith, refl))
    (all-to f ys (λ x has. let lt = has.1 in h x (suc has.0, omega (arith, lt), has.2)))

-- one of the elements
any-to : {X : Type 0} (f : X → Bool) (xs : List X) (x : X) → Contains xs x → f x ≡ true → list_any f xs ≡ true
any-to f [] x has e = let lt = has.1 in absurd (omega (arith, lt))
any-to f (y ∷ ys) x (zero, lt, at) e = or_left _ _ (ap f at ∙ e)
any-to f (y ∷ ys) x (suc k, lt, at) e = or_right _ _ (any-to f ys x (k, omega (arith, lt), at) e)

any-from : {X : Type 0} (f : X → Bool) (xs : List X) → list_any f xs ≡ true → (x : X) × Contains xs x × (f x ≡ true)
any-from f [] e = cc
any-from {X} f (y ∷ ys) e = go (any-from f ys) (f y) refl e
  where
    go : (list_any f ys ≡ true → (x : X) × Contains ys x × (f x ≡ true)) → (b : Bool) → f y ≡ b
        → (b || list_any f ys) ≡ true → (x : X) × Contains (y ∷ ys) x × (f x ≡ true)
    go more true is e = (y, (0, omega arith, refl), is)
    go more false is e =
        let r = more e in
        let lt = r.1.1 in
        (r.0, (suc r.1.0, omega (arith, lt), r.1.2), r.2)

-- a row that is raised
raise-from : (q : ℕ) (step : Step) → is_raise_in q step ≡ true
    → (row : ℕ) × (bits : ℕ) × (step ≡ Raise row bits) × (IsOutside row q → ⊥)
raise-from q (Erase s) e = cc
raise-from q (Program p d) e = cc
raise-from q (Raise row bits) e = (row, bits, refl, inside (leb-true _ _ (and_parts _ _ e).0) (leb-true _ _ (and_parts _ _ e).1))
  where
    inside : q ≤ row → row + 1 ≤ q + 3 → IsOutside row q → ⊥
    inside low high (inl below) = absurd (omega (arith, below, low))
    inside low high (inr above) = absurd (omega (arith, above, high))

raised-from : (steps : List Step) (q : ℕ) → list_any (is_raise_in q) steps ≡ true → IsTripleRaised steps q
raised-from steps q e =
    let a = any-from (is_raise_in q) steps e in
    let r = raise-from q a.0 a.2 in
    (r.0, r.1, subst (λ (s : Step). Contains steps s) r.2 a.1, r.3)

raise-in : (row q bits : ℕ) → (IsOutside row q → ⊥) → is_raise_in q (Raise row bits) ≡ true
raise-in row q bits inside = elim (cases_lt row q) [
  | inl below ↦ absurd (inside (inl below))
  | inr from ↦ elim (cases_lt row (q + 3)) [
    | inl low ↦ and_from _ _ (le-leb _ _ from) (le-leb _ _ (omega (arith, low)))
    | inr above ↦ absurd (inside (inr above))
  ]
]

raised-to : (steps : List Step) (q : ℕ) → IsTripleRaised steps q → list_any (is_raise_in q) steps ≡ true
raised-to steps q r = any-to (is_raise_in q) steps (Raise r.0 r.1) r.2 (raise-in r.0 q r.1 r.3)

-- two triples
apart-from : (r q : ℕ) → is_apart r q ≡ true → AreRowsApart r q
apart-from r q e = go (nat_le (r + 3) q) refl e
  where
    go : (b : Bool) → nat_le (r + 3) q ≡ b → (b || nat_le (q + 3) r) ≡ true → AreRowsApart r q
    go true is e = inl (leb-true _ _ is)
    go false is e = inr (leb-true _ _ e)

apart-to : (r q : ℕ) → AreRowsApart r q → is_apart r q ≡ true
apart-to r q (inl low) = or_left _ _ (le-leb _ _ low)
apart-to r q (inr high) = or_right _ _ (le-leb _ _ high)

kept-from : (steps : List Step) (r q : ℕ) → is_kept_by steps r q ≡ true → IsTripleRaised steps q → AreRowsApart r q
kept-from steps r q e raised = go (is_apart r q) refl e
  where
    go : (b : Bool) → is_apart r q ≡ b → (b || not (list_any (is_raise_in q) steps)) ≡ true → AreRowsApart r q
    go true is e = apart-from r q is
    go false is e = let f : not true ≡ true = ap not (sym (raised-to steps q raised)) ∙ e in cc

kept-to : (steps : List Step) (r q : ℕ) → (IsTripleRaised steps q → AreRowsApart r q) → is_kept_by steps r q ≡ true
kept-to steps r q h = go (list_any (is_raise_in q) steps) refl
  where
    go : (b : Bool) → list_any (is_raise_in q) steps ≡ b → is_kept_by steps r q ≡ true
    go true is = or_left _ _ (apart-to r q (h (raised-from steps q is)))
    go false is = or_right _ _ (ap not is)

-- the image of a window
image-is : (c : Content) (cpu : Cpu) (w : Window) (s : Started) → Valid c w cpu false s → images_in c cpu w false ≡ Some s
image-is c cpu w s valid = ap (λ (r : Result Started Why). result_ok r) (at-valid c w cpu false s valid)

image-of : (c : Content) (cpu : Cpu) (w : Window) (s : Started) → images_in c cpu w false ≡ Some s → Valid c w cpu false s
image-of c cpu w s e = go (image_at c w cpu false) refl e
  where
    go : (r : Result Started Why) → image_at c w cpu false ≡ r → result_ok r ≡ Some s → Valid c w cpu false s
    go (Ok t) is e = let same : t ≡ s = cc in valid-at c w cpu false s (is ∙ ap (λ (x : Started). Ok x) same)
    go (Err why) is e = cc

-- what is asked of a window
abbrev IsWindowKept : Content → Cpu → List ℕ → List Step → Window → Type 0
IsWindowKept c cpu rows steps w = (s : Started) (r q : ℕ) → Valid c w cpu false s → Contains s.rows.items r
    → Contains rows q → IsTripleRaised steps q → AreRowsApart r q

window-from : (c : Content) (cpu : Cpu) (rows : List ℕ) (steps : List Step) (w : Window)
    → keeps_window c cpu rows steps w ≡ true → IsWindowKept c cpu rows steps w
window-from c cpu rows steps w e s r q valid listed own raised =
    let is : list_all (keeps_row steps rows) s.rows.items ≡ true =
    sym (ap (keeps_image steps rows) (image-is c cpu w s valid)) ∙ e in
    kept-from steps r q (all-from (is_kept_by steps r) rows q (all-from (keeps_row steps rows) s.rows.items r is listed) own)
    raised

window-to : (c : Content) (cpu : Cpu) (rows : List ℕ) (steps : List Step) (w : Window)
    → IsWindowKept c cpu rows steps w → keeps_window c cpu rows steps w ≡ true
window-to c cpu rows steps w h = go (images_in c cpu w false) refl
  where
    go : (o : Option Started) → images_in c cpu w false ≡ o → keeps_window c cpu rows steps w ≡ true
    go None is = ap (keeps_image steps rows) is
    go (Some s) is =
        ap (keeps_image steps rows) is
        ∙ all-to (keeps_row steps rows) s.rows.items (λ r listed.
        all-to (is_kept_by steps r) rows (λ q own. kept-to steps r q (λ raised. h s r q (image-of c cpu w s is) listed own raised)))

-- a window is that of a member, or it is not
window-same : (v w : Window) → is_same_window v w ≡ true → v ≡ w
window-same v w e = let p = and_parts _ _ e in parts v.start v.len w.start w.len (eqb-true _ _ p.0) (eqb-true _ _ p.1)
  where
    parts : (a b c d : ℕ) → a ≡ c → b ≡ d
        → (let v : Window = record { start = a; len = b } in let w : Window = record { start = c; len = d } in v ≡ w)
    parts a b c d e f = cc

same-window : (v : Window) → is_same_window v v ≡ true
same-window v = and_from _ _ (eq-eqb v.start v.start refl) (eq-eqb v.len v.len refl)

second-from : (w : Window) (o : Option Window) → is_second w o ≡ true → o ≡ Some w
second-from w None e = cc
second-from w (Some b) e = ap (λ (x : Window). Some x) (window-same b w e)

second-to : (w : Window) (o : Option Window) → o ≡ Some w → is_second w o ≡ true
second-to w o e = ap (is_second w) e ∙ same-window w

member-from : (w : Window) (u : SlotUnit) → has_window w u ≡ true → IsMember u w
member-from w u e = go (is_same_window u.a w) refl e
  where
    go : (b : Bool) → is_same_window u.a w ≡ b → (b || is_second w u.b) ≡ true → IsMember u w
    go true is e = inl (sym (window-same u.a w is))
    go false is e = inr (second-from w u.b e)

member-to : (w : Window) (u : SlotUnit) → IsMember u w → has_window w u ≡ true
member-to w u (inl a) = or_left _ _ (ap (λ (x : Window). is_same_window u.a x) a ∙ same-window u.a)
member-to w u (inr b) = or_right _ _ (second-to w u.b b)

-- what is asked of a unit
abbrev IsUnitKept : Content → Cpu → Started → List Step → SlotUnit → Type 0
IsUnitKept c cpu image steps u = (IsMember u image.window → ⊥) → (m : Member) (w : Window) → member_window m u ≡ Some w
    → IsWindowKept c cpu image.rows.items steps w

unit-from : (c : Content) (cpu : Cpu) (image : Started) (steps : List Step) (u : SlotUnit)
    → keeps_unit c cpu image steps u ≡ true → IsUnitKept c cpu image steps u
unit-from c cpu image steps u e other m w at = go (has_window image.window u) refl e
  where
    rows : List ℕ
    rows = image.rows.items

    by-member : (m : Member) → member_window m u ≡ Some w
        → (keeps_window c cpu rows steps u.a && keeps_second c cpu rows steps u.b) ≡ true → IsWindowKept c cpu rows steps w
    by-member A at e =
        let same : u.a ≡ w = cc in
        window-from c cpu rows steps w (ap (keeps_window c cpu rows steps) (sym same) ∙ (and_parts _ _ e).0)
    by-member B at e =
        window-from c cpu rows steps w (ap (keeps_second c cpu rows steps) (sym at) ∙ (and_parts _ _ e).1)

    go : (b : Bool) → has_window image.window u ≡ b
        → (b || (keeps_window c cpu rows steps u.a && keeps_second c cpu rows steps u.b)) ≡ true
        → IsWindowKept c cpu rows steps w
    go true is e = absurd (other (member-from image.window u is))
    go false is e = by-member m at e

unit-to : (c : Content) (cpu : Cpu) (image : Started) (steps : List Step) (u : SlotUnit)
    → IsUnitKept c cpu image steps u → keeps_unit c cpu image steps u ≡ true
unit-to c cpu image steps u h = go (has_window image.window u) refl
  where
    rows : List ℕ
    rows = image.rows.items

    second : (IsMember u image.window → ⊥) → (o : Option Window) → u.b ≡ o → keeps_second c cpu rows steps o ≡ true
    second other None is = refl
    second other (Some w) is = window-to c cpu rows steps w (h other B w is)

    go : (b : Bool) → has_window image.window u ≡ b → keeps_unit c cpu image steps u ≡ true
    go true is = or_left _ _ is
    go false is =
        let other : IsMember u image.window → ⊥ =
        λ member. let f : true ≡ false = sym (member-to image.window u member) ∙ is in cc in
        or_right _ _ (and_from _ _ (window-to c cpu rows steps u.a (h other A u.a refl)) (second other u.b refl))

pub units-from : (c : Content) (cpu : Cpu) (image : Started) (steps : List Step)
    → keeps_units c cpu image steps ≡ true → AreTriplesApart c cpu image steps
units-from c cpu image steps e = λ u m w s r q in_ other at valid listed own raised.
    unit-from c cpu image steps u (all-from (keeps_unit c cpu image steps) (boot_units_in c cpu) u e in_) other m w at
    s r q valid listed own raised

pub units-to : (c : Content) (cpu : Cpu) (image : Started) (steps : List Step)
    → AreTriplesApart c cpu image steps → keeps_units c cpu image steps ≡ true
units-to c cpu image steps h =
    all-to (keeps_unit c cpu image steps) (boot_units_in c cpu) (λ u in_.
    unit-to c cpu image steps u (λ other m w at s r q valid listed own raised.
    h u m w s r q in_ other at valid listed own raised))
