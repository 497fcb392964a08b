-- A window is a member of one of the units, by the code's answer and by the rules.
use Rattle.std.proofs.Common.{◌≡◌, ◌↔◌, ℕ, zero, suc, ◌||◌, Bool, true, false, List, [], ◌∷◌, Option, Some, None, refl, sym, ap, ◌∙◌, ◌⊎◌, inl, inr, arith}
use Rattle.std.specs.Prelude.{Contains}
use Rattle.std.proofs.lemmas.Bool.{and_from, and_parts, or_left, or_right, eqb-true, eq-eqb}
use Rattle.pico_board.specs.declared.window.Window.{Window}
use Rattle.pico_board.specs.Windows.{is_same_window}
use Rattle.slot_choice.specs.declared.unit.SlotUnit.{SlotUnit}
use Rattle.slot_choice.specs.Units.{IsMember}
use Rattle.cli_stage.specs.Images.{is_second, is_unit_window}

abbrev window-of : ℕ → ℕ → Window
window-of start len = record { start = start; len = len }

window-is : (v w : Window) → is_same_window v w ≡ true → v ≡ w
window-is v w e =
    let p = and_parts _ _ e in
    ap (λ s. window-of s v.len) (eqb-true v.start w.start p.0) ∙ ap (λ l. window-of w.start l) (eqb-true v.len w.len p.1)

is-window : (v w : Window) → v ≡ w → is_same_window v w ≡ true
is-window v w e =
    and_from _ _ (eq-eqb v.start w.start (ap (λ (x : Window). x.start) e))
    (eq-eqb v.len w.len (ap (λ (x : Window). x.len) e))

split : (a b : Bool) → (a || b) ≡ true → (a ≡ true) ⊎ (b ≡ true)
split true b h = inl refl
split false b h = inr h

second-is : (w : Window) (o : Option Window) → is_second w o ≡ true → o ≡ Some w
second-is w None h = cc
second-is w (Some b) h = ap Some (window-is b w h)

is-second : (w : Window) (o : Option Window) → o ≡ Some w → is_second w o ≡ true
is-second w None h = cc
is-second w (Some b) h = let e : b ≡ w = cc in is-window b w e

member-is : (w : Window) (u : SlotUnit) → (is_same_window u.a w || is_second w u.b) ≡ true → IsMember u w
member-is w u h = elim (split _ _ h) [ inl a ↦ inl (sym (window-is u.a w a)) | inr b ↦ inr (second-is w u.b b) ]

is-member : (w : Window) (u : SlotUnit) → IsMember u w → (is_same_window u.a w || is_second w u.b) ≡ true
is-member w u (inl a) = or_left _ _ (is-window u.a w (sym a))
is-member w u (inr b) = or_right (is_same_window u.a w) _ (is-second w u.b b)

unit-is : (w : Window) (us : List SlotUnit) → is_unit_window w us ≡ true
    → (u : SlotUnit) × Contains us u × IsMember u w
unit-is w [] h = cc
unit-is w (u ∷ us) h = go (split _ _ h) (unit-is w us)
  where
    go : ((is_same_window u.a w || is_second w u.b) ≡ true) ⊎ (is_unit_window w us ≡ true)
        → (is_unit_window w us ≡ true → (x : SlotUnit) × Contains us x × IsMember x w)
        → (x : SlotUnit) × Contains (u ∷ us) x × IsMember x w
    go (inl here) rest = (u, (0, omega arith, refl), member-is w u here)
    go (inr there) rest =
        let r = rest there in
        let at = r.1 in
        let lt = at.1 in (r.0, (suc at.0, omega (arith, lt), at.2), r.2)

is-unit : (w : Window) (us : List SlotUnit) (u : SlotUnit) → Contains us u → IsMember u w
    → is_unit_window w us ≡ true
is-unit w [] u h m = let lt = h.1 in absurd (omega (arith, lt))
is-unit w (v ∷ us) u (zero, lt, is) m =
    or_left _ _ (ap (λ (x : SlotUnit). is_same_window x.a w || is_second w x.b) is ∙ is-member w u m)
is-unit w (v ∷ us) u (suc i, lt, is) m =
    or_right (is_same_window v.a w || is_second w v.b) _ (is-unit w us u (i, omega (arith, lt), is) m)

pub unit-exactly : (w : Window) (us : List SlotUnit)
    → (is_unit_window w us ≡ true) ↔ ((u : SlotUnit) × Contains us u × IsMember u w)
unit-exactly w us = (unit-is w us, λ h. is-unit w us h.0 h.1 h.2)
