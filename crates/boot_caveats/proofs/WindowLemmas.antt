-- The windows that a boot reads.
use Rattle.std.proofs.Common.{◌≡◌, ℕ, zero, suc, ◌+◌, ◌*◌, ◌<◌, ◌≤◌, ◌==◌, ◌&&◌, ◌||◌, Bool, true, false, cond, List, [], ◌∷◌, ◌++◌, length, take, get_or, Option, Some, None, refl, sym, ap, ◌∙◌, append_assoc, subst, inl, inr, arith, All}
use Rattle.std.specs.Prelude.{Contains, IfSome, option_to_list}
use Rattle.std.specs.Bool.{Decides}
use Rattle.std.specs.List.{filter_map, list_any}
use Rattle.std.proofs.lemmas.Grind.{flat_map-append}
use Rattle.std.proofs.lemmas.List.{take_more}
use Rattle.std.proofs.lemmas.List.Elements.{All-append, All-cons, All-head, All-nil, All-tail, filter_map-append}
use Rattle.std.proofs.lemmas.Bool.{eqb-true, eq-eqb}
use Rattle.pico_board.specs.declared.window.Window.{Window}
use Rattle.slot_choice.specs.declared.unit.SlotUnit.{SlotUnit}
use Rattle.boot_rules.specs.Picking.{AreInside, IsInside}
use Rattle.boot_reasons.specs.declared.looks.UnitReport.{UnitReport}
use Rattle.boot_rules.specs.Tables.{slot_window}
use Rattle.slot_caveats.specs.declared.caveat.Caveat.{Caveat}
use Rattle.boot_caveats.specs.Reads.{AreLooksInside}
use Rattle.boot_caveats.specs.ImageCaveats.{first_places, is_window, looked_windows, read_windows, unit_windows}
use Rattle.boot_caveats.specs.ImageRules.{AreFirstPlaces}

append-none : {X : Type 0} (xs : List X) → xs ++ [] ≡ xs
append-none [] = refl
append-none (x ∷ xs) = ap (λ l. x ∷ l) (append-none xs)

-- the windows of one more look
pub looked-more : (looks : List UnitReport) (i : ℕ) (look : UnitReport) → i < length looks → look ≡ get_or looks i look
    → looked_windows (take (i + 1) looks) ≡ looked_windows (take i looks) ++ unit_windows look.unit
looked-more looks i look lt is =
    ap looked_windows (take_more looks i look lt ∙ ap (λ x. take i looks ++ x ∷ []) (sym is))
    ∙ (flat_map-append (λ (l : UnitReport). unit_windows l.unit) (take i looks) (look ∷ [])
    ∙ ap (λ l. looked_windows (take i looks) ++ l) (append-none (unit_windows look.unit)))

pub orders-more : (f : Window → Option Caveat) (looks : List UnitReport) (i : ℕ) (look : UnitReport)
    (before list after : List Caveat) → i < length looks → look ≡ get_or looks i look
    → list ≡ before ++ filter_map f (looked_windows (take i looks))
    → after ≡ list ++ filter_map f (unit_windows look.unit)
    → after ≡ before ++ filter_map f (looked_windows (take (i + 1) looks))
orders-more f looks i look before list after lt is was now =
    now ∙ (ap (λ l. l ++ filter_map f (unit_windows look.unit)) was
    ∙ (append_assoc before (filter_map f (looked_windows (take i looks))) (filter_map f (unit_windows look.unit))
    ∙ ap (λ l. before ++ l) (sym (filter_map-append f (looked_windows (take i looks)) (unit_windows look.unit))
    ∙ ap (filter_map f) (sym (looked-more looks i look lt is)))))

-- ---- the windows stand inside the flash

-- the windows of the members of a unit
unit-inside : (n : ℕ) (u : SlotUnit) → AreInside n u → All (IsInside n) (unit_windows u)
unit-inside n u inside = All-cons (IsInside n) u.a (option_to_list u.b) inside.first (second u.b inside.second)
  where
    second : (o : Option Window) → IfSome o (IsInside n) → All (IsInside n) (option_to_list o)
    second None is = All-nil (IsInside n)
    second (Some w) is = All-cons (IsInside n) w [] is (All-nil (IsInside n))

-- those of the members of the units that are looked at
pub looked-inside : (n : ℕ) (looks : List UnitReport) → AreLooksInside n looks → All (IsInside n) (looked_windows looks)
looked-inside n [] all = All-nil (IsInside n)
looked-inside n (look ∷ looks) all =
    All-append (IsInside n) (unit_windows look.unit) (looked_windows looks)
    (unit-inside n look.unit (All-head (λ (l : UnitReport). AreInside n l.unit) look looks all))
    (looked-inside n looks (All-tail (λ (l : UnitReport). AreInside n l.unit) look looks all))

-- those of the slots too
pub read-inside : (n size : ℕ) (looks : List UnitReport) → 2 * size ≤ n → AreLooksInside n looks
    → All (IsInside n) (read_windows size looks)
read-inside n size looks fits all =
    All-cons (IsInside n) (slot_window size 0) (slot_window size 1 ∷ looked_windows looks) (low size n fits)
    (All-cons (IsInside n) (slot_window size 1) (looked_windows looks) (high size n fits) (looked-inside n looks all))
  where
    low : (size n : ℕ) → 2 * size ≤ n → 0 * size + size ≤ n
    low size n fits = omega arith

    high : (size n : ℕ) → 2 * size ≤ n → 1 * size + size ≤ n
    high size n fits = omega arith

-- and those of them that stand where they first stand
pub places-all : (P : Window → Type 0) (before ws : List Window) → All P ws → All P (first_places before ws)
places-all P before [] all = All-nil P
places-all P before (w ∷ ws) all =
    go (list_any (is_window w) before) (places-all P before ws (All-tail P w ws all))
    (places-all P (before ++ w ∷ []) ws (All-tail P w ws all))
  where
    go : (b : Bool) → All P (first_places before ws) → All P (first_places (before ++ w ∷ []) ws)
        → All P (cond b (first_places before ws) (w ∷ first_places (before ++ w ∷ []) ws))
    go true rest more = rest
    go false rest more = All-cons P w (first_places (before ++ w ∷ []) ws) (All-head P w ws all) more

-- ---- windows once each

pub window-decides : (w v : Window) → Decides (is_window w v) (v ≡ w)
window-decides w v = (to, from)
  where
    parts : (a b : Bool) → (a && b) ≡ true → (a ≡ true) × (b ≡ true)
    parts true true e = (refl, refl)
    parts true false e = cc
    parts false b e = cc

    both : (a b : Bool) → a ≡ true → b ≡ true → (a && b) ≡ true
    both true true e f = refl
    both true false e f = cc
    both false b e f = cc

    to : is_window w v ≡ true → v ≡ w
    to e =
        let two = parts (v.start == w.start) (v.len == w.len) e in
        ap (λ x. record { start = x; len = v.len }) (eqb-true v.start w.start two.0)
        ∙ ap (λ x. record { start = w.start; len = x }) (eqb-true v.len w.len two.1)

    from : v ≡ w → is_window w v ≡ true
    from e = both (v.start == w.start) (v.len == w.len) (eq-eqb v.start w.start (ap (λ (x : Window). x.start) e))
        (eq-eqb v.len w.len (ap (λ (x : Window). x.len) e))

contains-first : (x : Window) (xs : List Window) → Contains (x ∷ xs) x
contains-first x xs = (0, omega arith, refl)

contains-rest : (y x : Window) (xs : List Window) → Contains xs x → Contains (y ∷ xs) x
contains-rest y x xs is = (suc is.0, omega (arith, is.1), is.2)

pub among-decides : (w : Window) (ws : List Window) → Decides (list_any (is_window w) ws) (Contains ws w)
among-decides w [] = (λ e. cc, λ is. absurd (omega (arith, is.1)))
among-decides w (v ∷ vs) = (
  to (is_window w v) refl (among-decides w vs).0,
  λ is. from is.0 is.1 is.2 (among-decides w vs).1,
)
  where
    to : (b : Bool) → is_window w v ≡ b → (list_any (is_window w) vs ≡ true → Contains vs w)
        → (b || list_any (is_window w) vs) ≡ true → Contains (v ∷ vs) w
    to true is rest e =
        subst (λ (x : Window). Contains (v ∷ vs) x) ((window-decides w v).0 is) (contains-first v vs)
    to false is rest e = contains-rest v w vs (rest e)

    or-left : (a b : Bool) → a ≡ true → (a || b) ≡ true
    or-left true b e = refl
    or-left false b e = cc

    or-right : (a b : Bool) → b ≡ true → (a || b) ≡ true
    or-right true b e = refl
    or-right false b e = e

    from : (k : ℕ) → k < length (v ∷ vs) → get_or (v ∷ vs) k w ≡ w → (Contains vs w → list_any (is_window w) vs ≡ true)
        → (is_window w v || list_any (is_window w) vs) ≡ true
    from zero lt is rest = or-left (is_window w v) (list_any (is_window w) vs) ((window-decides w v).1 is)
    from (suc k) lt is rest =
        or-right (is_window w v) (list_any (is_window w) vs) (rest (k, omega (arith, lt), is))

-- the places are those of the rules
pub places-right : (before ws : List Window) → AreFirstPlaces before ws (first_places before ws)
places-right before [] = refl
places-right before (w ∷ ws) =
    go (list_any (is_window w) before) refl (places-right before ws) (places-right (before ++ w ∷ []) ws)
  where
    apart : (b : Bool) → b ≡ true → b ≡ false → ⊥
    apart b e f = cc

    go : (b : Bool) → list_any (is_window w) before ≡ b → AreFirstPlaces before ws (first_places before ws)
        → AreFirstPlaces (before ++ w ∷ []) ws (first_places (before ++ w ∷ []) ws)
        → AreFirstPlaces before (w ∷ ws) (cond b (first_places before ws) (w ∷ first_places (before ++ w ∷ []) ws))
    go true is rest more = inl ((among-decides w before).0 is, rest)
    go false is rest more =
        inr (
          (λ there. apart (list_any (is_window w) before) ((among-decides w before).1 there) is),
          (first_places (before ++ w ∷ []) ws, refl, more),
        )

pub places-only : (before ws ys : List Window) → AreFirstPlaces before ws ys → ys ≡ first_places before ws
places-only before [] ys is = is
places-only before (w ∷ ws) ys is =
    go (list_any (is_window w) before) refl (places-only before ws ys)
    (λ rest. places-only (before ++ w ∷ []) ws rest) is
  where
    apart : (b : Bool) → b ≡ true → b ≡ false → ⊥
    apart b e f = cc

    go : (b : Bool) → list_any (is_window w) before ≡ b
        → (AreFirstPlaces before ws ys → ys ≡ first_places before ws)
        → ((rest : List Window) → AreFirstPlaces (before ++ w ∷ []) ws rest
        → rest ≡ first_places (before ++ w ∷ []) ws)
        → AreFirstPlaces before (w ∷ ws) ys
        → ys ≡ cond b (first_places before ws) (w ∷ first_places (before ++ w ∷ []) ws)
    go true e same more (inl told) = same told.1
    go true e same more (inr told) = absurd (told.0 ((among-decides w before).0 e))
    go false e same more (inl told) =
        absurd (apart (list_any (is_window w) before) ((among-decides w before).1 told.0) e)
    go false e same more (inr told) = told.1.1 ∙ ap (λ l. w ∷ l) (more told.1.0 told.1.2)
