-- The slot of a session is the one member of a pair in which its first step lies.
use Rattle.std.proofs.Common.{◌≡◌, inl, inr, ℕ, zero, suc, Bool, true, false, List, [], ◌∷◌, slice_get, Option, Some, None, refl, sym, ap, ◌∙◌, subst, arith}
use Rattle.std.specs.Prelude.{if◌then◌else◌}
use Rattle.std.specs.Option.{option_or}
use Rattle.std.proofs.lemmas.Bool.{and_from, and_parts, le-leb, leb-true}
use Rattle.std.proofs.lemmas.Option.{same_Some}
use Rattle.pico_board.specs.declared.Step.{Step}
use Rattle.pico_board.specs.declared.step.Step.TheVariants.{Erase, Program, Raise}
use Rattle.pico_board.specs.declared.boot.Cpu.{Cpu}
use Rattle.pico_board.specs.declared.window.Window.{Window}
use Rattle.pico_board.specs.Content.{AreApart, Content, IsContent}
use Rattle.pico_board.specs.Sessions.{IsConfined}
use Rattle.slot_choice.specs.declared.unit.Member.{Member}
use Rattle.slot_choice.specs.declared.unit.Member.TheVariants.{A, B}
use Rattle.slot_choice.specs.declared.unit.SlotUnit.{SlotUnit}
use Rattle.slot_choice.specs.Units.{member_window}
use Rattle.boot_rules.specs.Choosing.{boot_units_in, other_of}
use Rattle.boot_session.specs.Slots.{IsSlot, is_confined, session_slot, slot_among, slot_in_unit}
use Rattle.boot_session.proofs.NeighbourLemmas.{here-or-apart}

pub confined-is : (w : Window) (step : Step) → is_confined w step ≡ true → IsConfined w step
confined-is w (Erase s) e = let p = and_parts _ _ e in (leb-true _ _ p.0, leb-true _ _ p.1)
confined-is w (Program q d) e = let p = and_parts _ _ e in (leb-true _ _ p.0, leb-true _ _ p.1)
confined-is w (Raise r b) e = cc

pub is-confined : (w : Window) (step : Step) → IsConfined w step → is_confined w step ≡ true
is-confined w (Erase s) c = and_from _ _ (le-leb _ _ c.0) (le-leb _ _ c.1)
is-confined w (Program p d) c = and_from _ _ (le-leb _ _ c.0) (le-leb _ _ c.1)
is-confined w (Raise r b) c = absurd c

-- a step does not lie in two windows that are apart
pub confined-apart : (w v : Window) (step : Step) → AreApart w v → IsConfined w step → IsConfined v step → ⊥
confined-apart w v (Erase s) (inl apart) c d = let a = c.1 in let b = d.0 in absurd (omega (arith, a, b, apart))
confined-apart w v (Erase s) (inr apart) c d = let a = c.0 in let b = d.1 in absurd (omega (arith, a, b, apart))
confined-apart w v (Program p x) (inl apart) c d = let a = c.1 in let b = d.0 in absurd (omega (arith, a, b, apart))
confined-apart w v (Program p x) (inr apart) c d = let a = c.0 in let b = d.1 in absurd (omega (arith, a, b, apart))
confined-apart w v (Raise r b) apart c d = absurd c

-- the window is that of a member of a unit that is a pair, at a place of the list
pub record IsMemberAt (units : List SlotUnit) (step : Step) (w : Window) : Type 0 where
  pub place : ℕ
  pub unit : SlotUnit
  pub member : Member
  pub other : Window
  pub tried : slice_get units place ≡ Some unit
  pub stands : member_window member unit ≡ Some w
  pub pair : member_window (other_of member) unit ≡ Some other
  pub holds : IsConfined w step

in-pair : (u : SlotUnit) (b : Window) (step : Step) (w : Window) → u.b ≡ Some b
    → slot_in_unit u.a (Some b) step ≡ Some w → IsMemberAt (u ∷ []) step w
in-pair u b step w second e = go (is_confined u.a step) (is_confined b step) refl refl e
  where
    go : (x y : Bool) → is_confined u.a step ≡ x → is_confined b step ≡ y
        → (if x then Some u.a else if y then Some b else None) ≡ Some w → IsMemberAt (u ∷ []) step w
    go true y a c e =
        let same = same_Some u.a w e in record {
          place = 0;
          unit = u;
          member = A;
          other = b;
          tried = refl;
          stands = e;
          pair = second;
          holds = subst (λ v. IsConfined v step) same (confined-is u.a step a);
        }
    go false true a c e =
        let same = same_Some b w e in record {
          place = 0;
          unit = u;
          member = B;
          other = u.a;
          tried = refl;
          stands = second ∙ e;
          pair = refl;
          holds = subst (λ v. IsConfined v step) same (confined-is b step c);
        }
    go false false a c e = cc

in-unit : (u : SlotUnit) (o : Option Window) (step : Step) (w : Window) → u.b ≡ o
    → slot_in_unit u.a o step ≡ Some w → IsMemberAt (u ∷ []) step w
in-unit u None step w second e = cc
in-unit u (Some b) step w second e = in-pair u b step w second e

front : (u : SlotUnit) (us : List SlotUnit) (step : Step) (w : Window) → IsMemberAt (u ∷ []) step w
    → IsMemberAt (u ∷ us) step w
front u us step w m = record {
  place = 0;
  unit = u;
  member = m.member;
  other = m.other;
  tried = refl;
  stands = subst (λ v. member_window m.member v ≡ Some w) (sym (only m.place m.tried)) m.stands;
  pair = subst (λ v. member_window (other_of m.member) v ≡ Some m.other) (sym (only m.place m.tried)) m.pair;
  holds = m.holds;
}
  where
    only : (k : ℕ) → slice_get (u ∷ []) k ≡ Some m.unit → u ≡ m.unit
    only zero e = same_Some u m.unit e
    only (suc k) e = cc

later : (u : SlotUnit) (us : List SlotUnit) (step : Step) (w : Window) → IsMemberAt us step w
    → IsMemberAt (u ∷ us) step w
later u us step w m = record {
  place = suc m.place;
  unit = m.unit;
  member = m.member;
  other = m.other;
  tried = m.tried;
  stands = m.stands;
  pair = m.pair;
  holds = m.holds;
}

pub among-member : (units : List SlotUnit) (step : Step) (w : Window) → slot_among units step ≡ Some w
    → IsMemberAt units step w
among-member [] step w e = cc
among-member (u ∷ us) step w e = go (λ e. among-member us step w e) (slot_in_unit u.a u.b step) refl e
  where
    go : (slot_among us step ≡ Some w → IsMemberAt us step w) → (o : Option Window)
        → slot_in_unit u.a u.b step ≡ o → option_or o (slot_among us step) ≡ Some w
        → IsMemberAt (u ∷ us) step w
    go ih None is e = later u us step w (ih e)
    go ih (Some v) is e = front u us step w (in-unit u u.b step w refl (is ∙ e))

-- where a step lies in a member of a pair, some member is found
found-here : (a : Window) (o : Option Window) (m : Member) (u : SlotUnit) (step : Step) (w other : Window) → u.a ≡ a
    → u.b ≡ o → member_window m u ≡ Some w → member_window (other_of m) u ≡ Some other → IsConfined w step
    → (v : Window) × (slot_in_unit a o step ≡ Some v)
found-here a None A u step w other first second stands pair holds = let e : None ≡ Some other = sym second ∙ pair in cc
found-here a None B u step w other first second stands pair holds = let e : None ≡ Some w = sym second ∙ stands in cc
found-here a (Some b) m u step w other first second stands pair holds =
    go (is_confined a step) (is_confined b step) m refl refl stands
  where
    go : (x y : Bool) (m : Member) → is_confined a step ≡ x → is_confined b step ≡ y → member_window m u ≡ Some w
        → (v : Window) × ((if x then Some a else if y then Some b else None) ≡ Some v)
    go true y m p q stands = (a, refl)
    go false true m p q stands = (b, refl)
    go false false A p q stands =
        let same : a ≡ w = same_Some a w (ap (λ z. Some z) (sym first) ∙ stands) in
        let e : false ≡ true = sym p ∙ is-confined a step (subst (λ z. IsConfined z step) (sym same) holds) in cc
    go false false B p q stands =
        let same : b ≡ w = same_Some b w (sym second ∙ stands) in
        let e : false ≡ true = sym q ∙ is-confined b step (subst (λ z. IsConfined z step) (sym same) holds) in cc

pub member-among : (units : List SlotUnit) (place : ℕ) (unit : SlotUnit) (m : Member) (step : Step) (w other : Window)
    → slice_get units place ≡ Some unit → member_window m unit ≡ Some w
    → member_window (other_of m) unit ≡ Some other → IsConfined w step
    → (v : Window) × (slot_among units step ≡ Some v)
member-among [] place unit m step w other tried stands pair holds = cc
member-among (u ∷ us) zero unit m step w other tried stands pair holds =
    let same = same_Some u unit tried in
    let f = found-here u.a u.b m u step w other refl refl
    (subst (λ x. member_window m x ≡ Some w) (sym same) stands)
    (subst (λ x. member_window (other_of m) x ≡ Some other) (sym same) pair) holds in
    (f.0, ap (λ o. option_or o (slot_among us step)) f.1)
member-among (u ∷ us) (suc place) unit m step w other tried stands pair holds =
    go (member-among us place unit m step w other tried stands pair holds) (slot_in_unit u.a u.b step)
  where
    go : (v : Window) × (slot_among us step ≡ Some v) → (o : Option Window)
        → (v : Window) × (option_or o (slot_among us step) ≡ Some v)
    go ih None = ih
    go ih (Some v) = (v, refl)

pub slot-found : (c : Content) (cpu : Cpu) (steps : List Step) (w : Window) → session_slot c cpu steps ≡ Some w
    → IsSlot c cpu steps w
slot-found c cpu [] w e = cc
slot-found c cpu (step ∷ steps) w e =
    let m = among-member (boot_units_in c cpu) step w e in record {
      boot_member = record {
        place = m.place;
        unit = m.unit;
        member = m.member;
        other = m.other;
        tried = m.tried;
        stands = m.stands;
        pair = m.pair;
      };
      first = step;
      others = steps;
      whole = refl;
      holds = m.holds;
    }

pub one-slot : (c : Content) (cpu : Cpu) (steps : List Step) (w v : Window) → IsContent c → IsSlot c cpu steps w
    → IsSlot c cpu steps v → w ≡ v
one-slot c cpu steps w v right a b =
    elim (here-or-apart c w cpu right a.boot_member b.boot_member.place b.boot_member.unit b.boot_member.member v b.boot_member.tried b.boot_member.stands) [
      | inl same ↦ sym same
      | inr apart ↦
          let whole : (a.first ∷ a.others) ≡ b.first ∷ b.others = sym a.whole ∙ b.whole in
          let same : a.first ≡ b.first = cc in
          absurd (confined-apart w v b.first apart (subst (IsConfined w) same a.holds) b.holds)
    ]

pub slot-is : (c : Content) (cpu : Cpu) (steps : List Step) (w : Window) → IsContent c → IsSlot c cpu steps w
    → session_slot c cpu steps ≡ Some w
slot-is c cpu [] w right is = let e = is.whole in cc
slot-is c cpu (step ∷ steps) w right is =
    let whole : (step ∷ steps) ≡ is.first ∷ is.others = is.whole in
    let same : is.first ≡ step = cc in
    let h = is.boot_member in
    let f = member-among (boot_units_in c cpu) h.place h.unit h.member step w h.other h.tried h.stands h.pair
    (subst (IsConfined w) same is.holds) in
    f.1 ∙ ap (λ x. Some x) (one-slot c cpu (step ∷ steps) f.0 w right (slot-found c cpu (step ∷ steps) f.0 f.1) is)
