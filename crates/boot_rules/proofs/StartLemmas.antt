-- What a start says of its unit, its windows and its image.
use Rattle.std.proofs.Common.{◌≡◌, inl, inr, ℕ, zero, suc, ◌/◌, Bool, true, false, List, [], ◌∷◌, length, slice_get, Option, Some, None, refl, sym, ap, ◌∙◌, subst, MatchBool}
use Rattle.std.specs.Prelude.{All}
use Rattle.std.proofs.lemmas.Option.{same_Some, get_or_from_slice_get, slice_get-get_or, slice_get_within}
use Rattle.pico_board.specs.declared.boot.Cpu.{Cpu}
use Rattle.pico_board.specs.declared.boot.BootKind.{BootKind}
use Rattle.pico_board.specs.declared.boot.BootKind.TheVariants.{Normal, Update, Bootsel as AskBootsel}
use Rattle.pico_board.specs.declared.window.Window.{Window}
use Rattle.pico_board.specs.Content.{AreApart, Content, IsContent, window_bytes}
use Rattle.image_def.specs.declared.started.Started.{Started}
use Rattle.otp_roll.specs.Flags.{flash_off, slot_size}
use Rattle.part_table.specs.declared.table.Table.{Table}
use Rattle.part_table.proofs.TableLemmas.{apart_sym}
use Rattle.slot_choice.specs.declared.unit.Member.{Member}
use Rattle.slot_choice.specs.declared.unit.Member.TheVariants.{A, B}
use Rattle.slot_choice.specs.declared.unit.SlotUnit.{SlotUnit}
use Rattle.slot_choice.specs.declared.choice.Choice.{Choice}
use Rattle.slot_choice.specs.Units.{IsMember, IsSoundFor, member_window, tableless_unit, units}
use Rattle.slot_choice.proofs.PlaceLemmas.{boot_pair_apart, tableless_apart}
use Rattle.image_check.specs.Addressing.{in_flash}
use Rattle.image_check.specs.Valid.{Valid}
use Rattle.image_check.proofs.LawLemmas.{trial-more, valid-window}
use Rattle.boot_rules.specs.declared.decision.Decision.TheVariants.{Start, Bootsel}
use Rattle.boot_rules.specs.declared.decision.Fall.TheVariants.{Requested, FlashOff}
use Rattle.boot_rules.specs.Choosing.{boot_units_in, order_of, other_of}
use Rattle.boot_rules.specs.Chosen.{Chosen, ChosenInFlash, IsStart, is_updated}
use Rattle.part_table.specs.Windows.{IsPlacedIn}
use Rattle.boot_rules.specs.Starts.{IsOfUnit}
use Rattle.boot_rules.specs.Tables.{table_in, table_of_content}
use Rattle.boot_rules.proofs.PlaceLemmas.{boot-unit-members, order-all, table-sound}

-- a start is one of the units in the order of its kind
flash-start : (c : Content) (cpu : Cpu) (kind : BootKind) (choice : Choice) → ChosenInFlash c cpu kind (Start choice)
    → IsStart c cpu (order_of kind (boot_units_in c cpu)) choice
flash-start c cpu kind choice h = go (flash_off c.otp) h
  where
    start-bootsel : {P : Type 0} → Start choice ≡ Bootsel FlashOff → P
    start-bootsel e = cc

    go : (off : Bool) → MatchBool off (Start choice ≡ Bootsel FlashOff)
        (IsStart c cpu (order_of kind (boot_units_in c cpu)) choice)
        → IsStart c cpu (order_of kind (boot_units_in c cpu)) choice
    go true e = start-bootsel e
    go false s = s

pub chosen-start : (c : Content) (cpu : Cpu) (kind : BootKind) (choice : Choice) → Chosen c cpu kind (Start choice)
    → IsStart c cpu (order_of kind (boot_units_in c cpu)) choice
chosen-start c cpu AskBootsel choice h = asked h
  where
    asked : {P : Type 0} → Start choice ≡ Bootsel Requested → P
    asked e = cc
chosen-start c cpu Normal choice h = flash-start c cpu Normal choice h
chosen-start c cpu (Update base) choice h = flash-start c cpu (Update base) choice h

-- what holds of all elements holds of the one at a place
pub all-at : {X : Type 0} (P : X → Type 0) (xs : List X) (i : ℕ) (x : X) → All P xs → slice_get xs i ≡ Some x → P x
all-at P xs i x all at = subst P (get_or_from_slice_get xs i x x at) (all i x (slice_get_within xs i x at))

-- each unit stands at some place of its list
abbrev Listed : List SlotUnit → SlotUnit → Type 0
Listed us u = (k : ℕ) × (slice_get us k ≡ Some u)

all-listed : (us : List SlotUnit) → All (Listed us) us
all-listed us = λ k d lt. (k, slice_get-get_or us k d lt)

module _ (c : Content) (cpu : Cpu) (kind : BootKind) (choice : Choice) (h : Chosen c cpu kind (Start choice)) where
  pub start : IsStart c cpu (order_of kind (boot_units_in c cpu)) choice
  start = chosen-start c cpu kind choice h

  -- the started image stands in the window of its member
  image-window-is : choice.image.window ≡ start.counts.window
  image-window-is = valid-window c start.counts.window cpu
      (is_updated (order_of kind (boot_units_in c cpu)) start.place choice.member) choice.image start.counts.valid

  pub of-unit : IsOfUnit c cpu choice start.unit
  of-unit =
      let listed = all-at (Listed (boot_units_in c cpu))
      (order_of kind (boot_units_in c cpu)).units start.place start.unit
      (order-all (Listed (boot_units_in c cpu)) kind (boot_units_in c cpu) (all-listed (boot_units_in c cpu)))
      start.counts.tried in
      record {
        place = listed.0;
        tried = listed.1;
        stands = start.counts.stands ∙ ap Some (sym image-window-is);
        other = start.other;
      }

  -- the started image is valid in its window with a trial image allowed, and a trial is updated
  any-trial : (w : Window) (trial : Bool) → Valid c w cpu trial choice.image → Valid c w cpu true choice.image
  any-trial w true v = v
  any-trial w false v = trial-more in_flash w cpu c.otp (window_bytes c w) choice.image v

  pub start-valid : Valid c choice.image.window cpu true choice.image
  start-valid = subst (λ w. Valid c w cpu true choice.image) (sym image-window-is)
      (any-trial start.counts.window _ start.counts.valid)

  pub start-trial : choice.image.trial ≡ true → choice.updated ≡ true
  start-trial is =
      let v = start.counts.valid in
      start.updated ∙ v.tried (sym (ap (λ (s : Started). s.trial) v.started) ∙ is)

-- members of a unit
pub is-member : (m : Member) (u : SlotUnit) (w : Window) → member_window m u ≡ Some w → IsMember u w
is-member A u w e = inl (sym (same_Some u.a w e))
is-member B u w e = inr e

-- the two members of a boot unit stand apart
only : (v : SlotUnit) (k : ℕ) (u : SlotUnit) → slice_get (v ∷ []) k ≡ Some u → v ≡ u
only v zero u e = same_Some v u e
only v (suc k) u e = cc

pub boot-pair-apart : (t : Option Table) (n z : ℕ) (cpu : Cpu) → IsSoundFor t n → (k : ℕ) (u : SlotUnit)
    → slice_get (units t n z cpu) k ≡ Some u
    → (w : Window) → u.b ≡ Some w → AreApart u.a w
boot-pair-apart None n z cpu sound k u at w b =
    let same = only (tableless_unit n z) k u at in
    subst (λ (v : SlotUnit). AreApart v.a w) same (tableless_apart n z w (ap (λ (v : SlotUnit). v.b) same ∙ b))
boot-pair-apart (Some t) n z cpu sound k u at w b = boot_pair_apart t (n / 4096) n z cpu sound k u at w b

pub other-apart : (u : SlotUnit) → ((w : Window) → u.b ≡ Some w → AreApart u.a w) → (m : Member) (v w : Window)
    → member_window m u ≡ Some v → member_window (other_of m) u ≡ Some w → AreApart v w
other-apart u apart A v w one two = subst (λ x. AreApart x w) (same_Some u.a v one) (apart w two)
other-apart u apart B v w one two = subst (λ x. AreApart v x) (same_Some u.a w two) (apart_sym u.a v (apart v one))

module _ (c : Content) (cpu : Cpu) (kind : BootKind) (choice : Choice) (right : IsContent c)
    (h : Chosen c cpu kind (Start choice)) where
  of : IsOfUnit c cpu choice (start c cpu kind choice h).unit
  of = of-unit c cpu kind choice h

  pub start-placed : IsPlacedIn c choice.image.window
  start-placed =
      boot-unit-members c cpu right of.place (start c cpu kind choice h).unit of.tried choice.image.window
      (is-member choice.member (start c cpu kind choice h).unit choice.image.window of.stands)

  pub start-other : (w : Window) → choice.other ≡ Some w → IsPlacedIn c w × AreApart choice.image.window w
  start-other w is =
      let unit = (start c cpu kind choice h).unit in
      let at : member_window (other_of choice.member) unit ≡ Some w = sym of.other ∙ is in (
        boot-unit-members c cpu right of.place unit of.tried w (is-member (other_of choice.member) unit w at),
        other-apart unit
            (boot-pair-apart (table_of_content c) (length c.flash) (slot_size c.otp (length c.flash)) cpu
            (table-sound c (table_in c) refl) of.place unit of.tried)
            choice.member choice.image.window w of.stands at,
      )
