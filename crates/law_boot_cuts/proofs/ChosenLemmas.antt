-- An updated image that is valid in a member of a boot unit is chosen by the update boot of its window.
use Rattle.std.proofs.Common.{◌≡◌, ℕ, ◌+◌, ◌≤◌, Bool, true, false, List, [], ◌∷◌, ◌++◌, length, slice_get, Option, Some, None, MatchBool, arith, refl, sym, ap, ◌∙◌, subst, inl, inr}
use Rattle.std.proofs.lemmas.Bool.{cases_eq}
use Rattle.std.proofs.lemmas.Option.{same_Some}
use Rattle.pico_board.specs.declared.boot.BootKind.{BootKind}
use Rattle.pico_board.specs.declared.boot.BootKind.TheVariants.{Normal, Update, Bootsel as AskBootsel}
use Rattle.pico_board.specs.declared.boot.Cpu.{Cpu}
use Rattle.pico_board.specs.declared.window.Window.{Window}
use Rattle.pico_board.specs.Content.{AreApart, Content, IsContent, flash_base}
use Rattle.otp_roll.specs.Flags.{flash_off, slot_size}
use Rattle.image_check.specs.Valid.{Valid}
use Rattle.slot_choice.specs.declared.unit.Member.{Member}
use Rattle.slot_choice.specs.declared.unit.Member.TheVariants.{A, B}
use Rattle.slot_choice.specs.declared.unit.SlotUnit.{SlotUnit}
use Rattle.slot_choice.specs.declared.choice.Choice.{Choice}
use Rattle.slot_choice.specs.Units.{IsMember, member_window}
use Rattle.slot_choice.specs.Updates.{IsUpdateOf, update_order, updated_member}
use Rattle.slot_choice.proofs.UpdateLemmas.{not_updated, updated}
use Rattle.boot_rules.specs.declared.decision.Decision.TheVariants.{Start, Bootsel}
use Rattle.boot_rules.specs.declared.decision.Fall.TheVariants.{FlashOff, Requested}
use Rattle.boot_rules.specs.Choosing.{Order, boot_units_in, order_of}
use Rattle.boot_rules.specs.Chosen.{Chosen, ChosenFrom, IsStart, is_member, is_updated}
use Rattle.boot_rules.specs.Starts.{table_of_content}
use Rattle.boot_rules.specs.Tables.{table_in}
use Rattle.boot_rules.proofs.PlaceLemmas.{boot-unit-members, table-sound}
use Rattle.boot_rules.proofs.StartLemmas.{boot-pair-apart, is-member, of-unit, start, start-valid}
use Rattle.slot_choice.proofs.PlaceLemmas.{units-apart}
use Rattle.law_boot_cuts.specs.Running.{StandsValid}

-- windows that start at one place are not apart
one-start : (v w : Window) → 4096 ≤ v.len → 4096 ≤ w.len → v.start ≡ w.start → AreApart v w → ⊥
one-start v w v_some w_some same (inl before) = omega (arith, v_some, w_some, same, before)
one-start v w v_some w_some same (inr behind) = omega (arith, v_some, w_some, same, behind)

at-length : (xs ys : List SlotUnit) (x : SlotUnit) → slice_get (xs ++ x ∷ ys) (length xs) ≡ Some x
at-length [] ys x = refl
at-length (y ∷ xs) ys x = at-length xs ys x

self-member : (o : Option Member) (m : Member) → o ≡ Some m → is_member o m ≡ true
self-member o A e = ap (λ x. is_member x A) e
self-member o B e = ap (λ x. is_member x B) e

module _ (c : Content) (cpu : Cpu) (choice : Choice) (u : SlotUnit) (right : IsContent c)
    (is : StandsValid c cpu choice u) where
  abbrev us : List SlotUnit
  us = boot_units_in c cpu

  abbrev W : Window
  W = choice.image.window

  abbrev base : ℕ
  base = flash_base + W.start

  in-u : IsMember u W
  in-u = is-member choice.member u W is.unit.stands

  some : (k : ℕ) (v : SlotUnit) → slice_get us k ≡ Some v → (w : Window) → IsMember v w → 4096 ≤ w.len
  some k v at w member = (boot-unit-members c cpu right k v at w member).some

  pair-apart : (w : Window) → u.b ≡ Some w → AreApart u.a w
  pair-apart = boot-pair-apart (table_of_content c) (length c.flash) (slot_size c.otp (length c.flash)) cpu
      (table-sound c (table_in c) refl) is.unit.place u is.unit.tried

  -- the member that starts there is this one
  one-member : (m n : Member) (v w : Window) → member_window m u ≡ Some v → member_window n u ≡ Some w
      → v.start ≡ w.start → m ≡ n
  one-member A A v w one two same = refl
  one-member B B v w one two same = refl
  one-member A B v w one two same =
      absurd (one-start v w (some is.unit.place u is.unit.tried v (is-member A u v one))
      (some is.unit.place u is.unit.tried w (is-member B u w two)) same
      (subst (λ x. AreApart x w) (same_Some u.a v one) (pair-apart w two)))
  one-member B A v w one two same =
      absurd (one-start w v (some is.unit.place u is.unit.tried w (is-member A u w two))
      (some is.unit.place u is.unit.tried v (is-member B u v one)) (sym same)
      (subst (λ x. AreApart x v) (same_Some u.a w two) (pair-apart v one)))

  -- the unit of the member that starts there is this one
  one-unit : (k : ℕ) (v : SlotUnit) (w : Window) → slice_get us k ≡ Some v → IsMember v w → w.start ≡ W.start → v ≡ u
  one-unit k v w at member same = elim (cases_eq k is.unit.place) [
    | inl here ↦ same_Some v u (sym at ∙ ap (slice_get us) here ∙ is.unit.tried)
    | inr other ↦ absurd (one-start w W (some k v at w member) (some is.unit.place u is.unit.tried W in-u) same
        (units-apart (table_of_content c) (length c.flash) (slot_size c.otp (length c.flash)) cpu
        (table-sound c (table_in c) refl) k is.unit.place v u other at is.unit.tried w W member in-u))
  ]

  there : (m : Member) (v : SlotUnit) (w : Window) (update : IsUpdateOf us base m v w) → (v ≡ u) × (m ≡ choice.member)
  there m v w update =
      let pointed = update.pointed in
      let same : w.start ≡ W.start = omega (arith, pointed) in
      let at : slice_get us (length update.before) ≡ Some v =
      ap (λ xs. slice_get xs (length update.before)) update.stood ∙ at-length update.before update.after v in
      let unit : v ≡ u = one-unit (length update.before) v w at (is-member m v w update.window) same in (
        unit,
        one-member m choice.member w W (subst (λ (x : SlotUnit). member_window m x ≡ Some w) unit update.window)
            is.unit.stands same,
      )

  -- the updated member is this one, and its unit is tried first
  record Goes : Type 0 where
    pub member : updated_member us base ≡ Some choice.member
    pub first : slice_get (update_order us base) 0 ≡ Some u

  goes : Goes
  goes = by (updated_member us base) refl
    where
      by : (o : Option Member) → updated_member us base ≡ o → Goes
      by None e = absurd ((not_updated us base e).elsewhere is.unit.place u W is.unit.tried in-u refl)
      by (Some m) e =
          let found = updated us base m e in
          let same = there m found.0 found.1 found.2 in
          record {
            member = e ∙ ap Some same.1;
            first = ap (λ xs. slice_get xs 0) found.2.order ∙ ap Some same.0;
          }

  abbrev order : Order
  order = order_of (Update base) us

  updates : is_updated order 0 choice.member ≡ true
  updates = self-member (updated_member us base) choice.member goes.member

  starts : IsStart c cpu order choice
  starts = record {
    place = 0;
    unit = u;
    counts = record {
      window = W;
      tried = goes.first;
      stands = is.unit.stands;
      valid = subst (λ (b : Bool). Valid c W cpu b choice.image) (sym updates) is.valid;
    };
    first = λ i v m s lt k. absurd (omega (arith, lt));
    best = inl updates;
    other = is.unit.other;
    updated = is.updated ∙ sym updates;
  }

  pub valid-chosen : Chosen c cpu (Update base) (Start choice)
  valid-chosen =
      subst (λ off. MatchBool off (Start choice ≡ Bootsel FlashOff) (ChosenFrom c cpu order (Start choice)))
      (sym is.on) starts

-- a start is chosen where flash boot is not off
start-off : {P : Type 0} (choice : Choice) → Start choice ≡ Bootsel FlashOff → P
start-off choice e = cc

start-asked : {P : Type 0} (choice : Choice) → Start choice ≡ Bootsel Requested → P
start-asked choice e = cc

module _ (c : Content) (cpu : Cpu) (choice : Choice) where
  flash-on : (kind : BootKind) (off : Bool)
      → MatchBool off (Start choice ≡ Bootsel FlashOff)
      (ChosenFrom c cpu (order_of kind (boot_units_in c cpu)) (Start choice))
      → off ≡ false
  flash-on kind true h = start-off choice h
  flash-on kind false h = refl

  pub start-on : (kind : BootKind) → Chosen c cpu kind (Start choice) → flash_off c.otp ≡ false
  start-on AskBootsel h = start-asked choice h
  start-on Normal h = flash-on Normal (flash_off c.otp) h
  start-on (Update base) h = flash-on (Update base) (flash_off c.otp) h

  pub chosen-valid : (kind : BootKind) → Chosen c cpu kind (Start choice) → choice.updated ≡ true
      → (u : SlotUnit) × StandsValid c cpu choice u
  chosen-valid kind h updated = (
    (start c cpu kind choice h).unit,
    record {
      updated = updated;
      unit = of-unit c cpu kind choice h;
      valid = start-valid c cpu kind choice h;
      on = start-on kind h;
    },
  )
