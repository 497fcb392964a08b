-- Where the choice of a boot rests on a rule that the chip may have otherwise, by the functions and in the words of the
-- rules.
use Rattle.std.proofs.Common.{◌≡◌, ◌≢◌, ◌⊎◌, ℕ, zero, suc, ◌+◌, ◌-◌, ◌<◌, ◌≤◌, ◌==◌, ◌&&◌, ◌||◌, not, nat_le, Bool, true, false, cond, List, [], ◌∷◌, ◌++◌, length, get_or, slice_get, position, Option, Some, None, Result, Ok, Err, is_some, option_map, option_and_then, refl, sym, ap, ◌∙◌, subst, inl, inr, arith}
use Rattle.std.specs.Prelude.{find, is_ok, option_to_list}
use Rattle.std.specs.Bool.{Decides}
use Rattle.std.specs.List.{list_any}
use Rattle.std.proofs.lemmas.Bool.{eqb-true, eq-eqb}
use Rattle.std.proofs.lemmas.Bool.Decides.{nat_tests}
use Rattle.std.proofs.Math.Seq.{get_or-append_seam}
use Rattle.std.proofs.lemmas.List.{get_or_append_left}
use Rattle.std.proofs.lemmas.Option.{same_Some, slice_get-get_or}
use Rattle.pico_board.specs.declared.boot.Cpu.{Cpu}
use Rattle.pico_board.specs.declared.boot.BootKind.{BootKind}
use Rattle.pico_board.specs.declared.boot.BootKind.TheVariants.{Normal, Update, Bootsel as AskBootsel}
use Rattle.pico_board.specs.declared.window.Window.{Window}
use Rattle.pico_board.specs.declared.window.TheConstants.{SMALLEST_SLOT}
use Rattle.pico_board.specs.Content.{Content, flash_base, window_bytes}
use Rattle.image_def.specs.declared.started.Started.{Started}
use Rattle.image_check.specs.declared.why.Why.{Why}
use Rattle.image_check.specs.Image.{image_at}
use Rattle.image_check.specs.Valid.{Valid}
use Rattle.image_check.proofs.LawLemmas.{at-valid, valid-at}
use Rattle.otp_roll.specs.Flags.{slot_size}
use Rattle.part_table.proofs.TestLemmas.{first_position, search_of}
use Rattle.slot_choice.specs.declared.unit.Member.{Member}
use Rattle.slot_choice.specs.declared.unit.SlotUnit.{SlotUnit}
use Rattle.slot_choice.specs.Units.{IsMember, member_window}
use Rattle.slot_choice.specs.Updates.{IsUpdateOf, has_member_at, member_at, updated_member}
use Rattle.slot_choice.proofs.UpdateLemmas.{member_starts, none_starts, updated}
use Rattle.boot_rules.specs.declared.decision.Decision.{Decision}
use Rattle.boot_rules.specs.declared.decision.Decision.TheVariants.{Start, Bootsel}
use Rattle.boot_rules.specs.declared.decision.Fall.TheVariants.{Requested, FlashOff, NoImage}
use Rattle.boot_rules.specs.Tables.{slot_window}
use Rattle.boot_rules.proofs.StartLemmas.{is-member}
use Rattle.boot_reasons.specs.declared.slots.TableInForce.{TableInForce}
use Rattle.boot_reasons.specs.declared.looks.UnitReport.{UnitReport}
use Rattle.boot_reasons.specs.declared.looks.TakenImage.{TakenImage}
use Rattle.boot_reasons.specs.declared.looks.UnitReason.{UnitReason}
use Rattle.boot_reasons.specs.declared.looks.UnitReason.TheVariants.{Updated, Only, Version, Tie as IsTied}
use Rattle.boot_reasons.specs.SlotRules.{IsTableInForce}
use Rattle.slot_caveats.specs.declared.caveat.Caveat.{Caveat}
use Rattle.slot_caveats.specs.declared.caveat.Caveat.TheVariants.{Tie, UpdateOfSlot, UpdateMovesUnit, UpdateOfNothing}
use Rattle.slot_caveats.specs.Listing.{caveat_if}
use Rattle.boot_caveats.specs.ChoiceCaveats.{first_tie, has_normal_image, has_second_image, is_slot_address, is_tie, lacks_image, lone_slot_images, moved_by, moved_part, slot_images, started_window, takes_image, tie_of, tied_in, update_moves, update_of_nothing, update_of_slot, updates_one}
use Rattle.boot_caveats.specs.ChoiceRules.{AreSlotImages, IsMovedPart, IsOfNoMember, IsOfSlot, IsPassedOver, IsTableless, IsTie, IsTiedPair, IsUpdateMovesUnit, IsUpdateOfNothing, IsUpdateOfSlot, StartsIn}
use Rattle.slot_caveats.specs.SlotCaveats.{flash_from}
use Rattle.slot_caveats.specs.SlotRules.{HasExecutable}
use Rattle.slot_caveats.proofs.SlotLemmas.{runs-decides}
use Rattle.slot_caveats.proofs.ListingLemmas.{IsJust, and-decides, both-just, first-found, found-first, never-just, not-decides, one-just, or-decides, where-just}

both : (a b : Bool) → a ≡ true → b ≡ true → (a && b) ≡ true
both true true e f = refl
both true false e f = cc
both false b e f = cc

parts : (a b : Bool) → (a && b) ≡ true → (a ≡ true) × (b ≡ true)
parts true true e = (refl, refl)
parts true false e = cc
parts false b e = cc

either : (a b : Bool) → (a || b) ≡ true → (a ≡ true) ⊎ (b ≡ true)
either true b e = inl refl
either false true e = inr refl
either false false e = cc

left : (a b : Bool) → a ≡ true → (a || b) ≡ true
left true b e = refl
left false b e = cc

right-one : (a b : Bool) → b ≡ true → (a || b) ≡ true
right-one true true e = refl
right-one false true e = refl
right-one true false e = cc
right-one false false e = cc

-- ---- the other processor

pub lacks-decides : (d : Decision) → Decides (lacks_image d) (d ≡ Bootsel NoImage)
lacks-decides (Start choice) = (λ e. cc, λ e. cc)
lacks-decides (Bootsel Requested) = (λ e. cc, λ e. cc)
lacks-decides (Bootsel FlashOff) = (λ e. cc, λ e. cc)
lacks-decides (Bootsel NoImage) = (λ e. refl, λ e. refl)

pub starts-in : (d : Decision) (w : Window) → started_window d ≡ Some w → StartsIn d w
starts-in (Start choice) w e = (choice, refl, same_Some choice.image.window w e)
starts-in (Bootsel fall) w e = cc

pub in-starts : (d : Decision) (w : Window) → StartsIn d w → started_window d ≡ Some w
in-starts d w is = ap started_window is.1 ∙ ap Some is.2

-- ---- images in the slots of a flash without a table

pub normal-decides : (c : Content) (cpu : Cpu) (w : Window)
    → Decides (has_normal_image c cpu w) ((s : Started) × Valid c w cpu false s)
normal-decides c cpu w = (to (image_at c w cpu false) refl, λ is. ap is_ok (at-valid c w cpu false is.0 is.1))
  where
    to : (r : Result Started Why) → image_at c w cpu false ≡ r → is_ok r ≡ true → (s : Started) × Valid c w cpu false s
    to (Ok s) is e = (s, valid-at c w cpu false s is)
    to (Err y) is e = cc

passed-decides : (c : Content) (cpu : Cpu) (d : Decision) (w : Window)
    → Decides (lacks_image d && has_normal_image c cpu w) (IsPassedOver c cpu d w)
passed-decides c cpu d w = (
  λ e. (let two = parts _ _ e in ((lacks-decides d).0 two.0, (normal-decides c cpu w).0 two.1)),
  λ is. both _ _ ((lacks-decides d).1 is.0) ((normal-decides c cpu w).1 is.1),
)

seen-decides : (c : Content) (cpu : Cpu) (d : Decision) (w : Window)
    → Decides (has_second_image c || (lacks_image d && has_normal_image c cpu w))
    (HasExecutable (window_bytes c (flash_from c SMALLEST_SLOT)) ⊎ IsPassedOver c cpu d w)
seen-decides c cpu d w = (
  λ e. elim (either _ _ e) [
    | inl typed ↦ inl ((runs-decides (window_bytes c (flash_from c SMALLEST_SLOT))).0 typed)
    | inr passed ↦ inr ((passed-decides c cpu d w).0 passed)
  ],
  λ is. elim is [
    | inl typed ↦ left _ _ ((runs-decides (window_bytes c (flash_from c SMALLEST_SLOT))).1 typed)
    | inr passed ↦ right-one _ _ ((passed-decides c cpu d w).1 passed)
  ],
)

with-fact : (P Q : Type 0) (b : Bool) → P → Decides b Q → Decides b (P × Q)
with-fact P Q b p decides = (λ e. (p, decides.0 e), λ is. decides.1 is.1)

pub slots-just : (c : Content) (cpu : Cpu) (d : Decision) (size : ℕ) (table : Option TableInForce)
    → IsTableInForce c table → size ≡ slot_size c.otp (length c.flash)
    → IsJust (AreSlotImages c cpu d) (slot_images c cpu d size table)
slots-just c cpu d size (Some taken) is size_is =
    both-just [] [] (never-just _ _ (λ p. p.0.0 _ is.0.1)) (never-just _ _ (λ p. p.0.0 _ is.0.1))
slots-just c cpu d size None is size_is = go (size == SMALLEST_SLOT) refl
  where
    lone : size ≡ SMALLEST_SLOT → IsTableless c
    lone e = (is, sym size_is ∙ e)

    other : (size == SMALLEST_SLOT) ≡ false → IsTableless c → ⊥
    other e none = absurd (apart size SMALLEST_SLOT e (size_is ∙ none.1))
      where
        apart : (m n : ℕ) → (m == n) ≡ false → m ≡ n → ⊥
        apart m n h same = let yes : (m == n) ≡ true = eq-eqb m n same in cc

    go : (b : Bool) → (size == SMALLEST_SLOT) ≡ b
        → IsJust (AreSlotImages c cpu d) (cond b (lone_slot_images c cpu d) ([]))
    go true e =
        let none = lone (eqb-true size SMALLEST_SLOT e) in
        both-just _ _
        (where-just _ _ _ (with-fact _ _ _ none (passed-decides c cpu d (slot_window SMALLEST_SLOT 0))))
        (where-just _ _ _ (with-fact _ _ _ none (seen-decides c cpu d (slot_window SMALLEST_SLOT 1))))
    go false e = both-just [] [] (never-just _ _ (λ p. other e p.0)) (never-just _ _ (λ p. other e p.0))

-- ---- a tie

tie-says : (because : UnitReason) → is_tie because ≡ true → because ≡ IsTied
tie-says Updated e = cc
tie-says Only e = cc
tie-says Version e = cc
tie-says IsTied e = refl

pub tied-says : (second : Option Window) (taken : Option TakenImage) (caveat : Caveat) → tied_in second taken
    ≡ Some caveat
    → (w : Window) × (t : TakenImage) × (second ≡ Some w) × (taken ≡ Some t) × (t.because ≡ IsTied)
    × (caveat ≡ Tie t.window w)
tied-says None taken caveat e = cc
tied-says (Some w) None caveat e = cc
tied-says (Some w) (Some t) caveat e = go (is_tie t.because) refl e
  where
    go : (b : Bool) → is_tie t.because ≡ b
        → (cond b (Some (Tie t.window w)) (None)) ≡ Some caveat
        → (v : Window) × (u : TakenImage) × (Some w ≡ Some v) × (Some t ≡ Some u) × (u.because ≡ IsTied)
        × (caveat ≡ Tie u.window v)
    go true is same = (w, t, refl, refl, tie-says t.because is, sym (same_Some _ _ same))
    go false is same = cc

pub tie-just : (looks : List UnitReport) → IsJust (IsTie looks) (option_to_list (first_tie looks))
tie-just looks =
    one-just (λ (pair : Window × Window). IsTiedPair looks pair.0 pair.1) (λ pair. Tie pair.0 pair.1)
    (first_tie looks) (to (find takes_image looks) refl) (λ pair is. from pair.0 pair.1 is)
  where
    to : (o : Option UnitReport) → find takes_image looks ≡ o → (caveat : Caveat)
        → option_and_then tie_of o ≡ Some caveat
        → (pair : Window × Window) × IsTiedPair looks pair.0 pair.1 × (caveat ≡ Tie pair.0 pair.1)
    to None is caveat e = cc
    to (Some look) is caveat e =
        let t = tied-says look.unit.b look.taken caveat e in (
          (t.1.window, t.0),
          record {
            look = look;
            taken = t.1;
            first = first-found takes_image looks look is;
            takes = t.3;
            because = t.4;
            window = refl;
            second = t.2;
          },
          t.5,
        )

    from : (w v : Window) → IsTiedPair looks w v → first_tie looks ≡ Some (Tie w v)
    from w v is =
        ap (option_and_then tie_of) (found-first takes_image looks is.look is.first)
        ∙ (ap (λ b. tied_in b is.look.taken) is.second ∙ (ap (tied_in (Some v)) is.takes
        ∙ (ap (λ (r : UnitReason). (cond (is_tie r) (Some (Tie is.taken.window v)) (None))) is.because
        ∙ ap (λ x. Some (Tie x v)) is.window)))

-- ---- an update of a table slot

address-decides : (size base : ℕ)
    → Decides (is_slot_address size base) ((base ≡ flash_base) ⊎ (base ≡ flash_base + size))
address-decides size base = (
  λ e. elim (either _ _ e) [
    | inl one ↦ inl (eqb-true base flash_base one)
    | inr two ↦ inr (eqb-true base (flash_base + size) two)
  ],
  λ is. elim is [
    | inl one ↦ left _ _ (eq-eqb base flash_base one)
    | inr two ↦ right-one _ _ (eq-eqb base (flash_base + size) two)
  ],
)

module _ (c : Content) (size : ℕ) (size_is : size ≡ slot_size c.otp (length c.flash)) where
  abbrev IsSlotUpdate : BootKind → ℕ → Type 0
  IsSlotUpdate kind base = (kind ≡ Update base) × IsOfSlot c base

  resized : (base : ℕ) → (base ≡ flash_base) ⊎ (base ≡ flash_base + size)
      → (base ≡ flash_base) ⊎ (base ≡ flash_base + slot_size c.otp (length c.flash))
  resized base (inl e) = inl e
  resized base (inr e) = inr (e ∙ ap (λ z. flash_base + z) size_is)

  unsized : (base : ℕ) → (base ≡ flash_base) ⊎ (base ≡ flash_base + slot_size c.otp (length c.flash))
      → (base ≡ flash_base) ⊎ (base ≡ flash_base + size)
  unsized base (inl e) = inl e
  unsized base (inr e) = inr (e ∙ ap (λ z. flash_base + z) (sym size_is))

  no-update : (kind : BootKind) → ((base : ℕ) → kind ≡ Update base → ⊥) → IsJust (IsUpdateOfSlot c kind) []
  no-update kind never = one-just (IsSlotUpdate kind) UpdateOfSlot None (λ caveat e. cc)
      (λ base is. absurd (never base is.0))

  pub slot-update-just : (kind : BootKind) (table : Option TableInForce) → IsTableInForce c table
      → IsJust (IsUpdateOfSlot c kind) (option_to_list (update_of_slot kind size table))
  slot-update-just Normal table is = no-update Normal (λ base e. cc)
  slot-update-just AskBootsel table is = no-update AskBootsel (λ base e. cc)
  slot-update-just (Update base) None is =
      one-just (IsSlotUpdate (Update base)) UpdateOfSlot None (λ caveat e. cc) (λ b u. absurd (is u.1.0.0 u.1.0.1))
  slot-update-just (Update base) (Some taken) is =
      one-just (IsSlotUpdate (Update base)) UpdateOfSlot (caveat_if (is_slot_address size base) (UpdateOfSlot base))
      (to (is_slot_address size base) refl) (λ b u. from b u (is_slot_address size base) refl)
    where
      to : (t : Bool) → is_slot_address size base ≡ t → (caveat : Caveat)
          → caveat_if t (UpdateOfSlot base) ≡ Some caveat
          → (b : ℕ) × IsSlotUpdate (Update base) b × (caveat ≡ UpdateOfSlot b)
      to true e caveat same =
          (base, (refl, ((_, is.0.1), resized base ((address-decides size base).0 e))), sym (same_Some _ _ same))
      to false e caveat same = cc

      same-base : (a b : ℕ) → Update a ≡ Update b → a ≡ b
      same-base a b e = cc

      from : (b : ℕ) → IsSlotUpdate (Update base) b → (t : Bool) → is_slot_address size base ≡ t
          → caveat_if t (UpdateOfSlot base) ≡ Some (UpdateOfSlot b)
      from b u true e = ap (λ x. Some (UpdateOfSlot x)) (same-base base b u.0)
      from b u false e =
          let yes : is_slot_address size base ≡ true =
          (address-decides size base).1 (unsized base (subst
          (λ x. (x ≡ flash_base) ⊎ (x ≡ flash_base + slot_size c.otp (length c.flash))) (sym (same-base base b u.0))
          u.1.1)) in
          cc

  -- the caveat of an update of an address, by the condition on the address
  pub slot-decides : (base : ℕ) (table : Option TableInForce) → IsTableInForce c table
      → Decides (is_some (update_of_slot (Update base) size table)) (IsOfSlot c base)
  slot-decides base None is = (λ e. cc, λ of. absurd (is of.0.0 of.0.1))
  slot-decides base (Some taken) is = (to (is_slot_address size base) refl, from)
    where
      to : (t : Bool) → is_slot_address size base ≡ t → is_some (caveat_if t (UpdateOfSlot base)) ≡ true
          → IsOfSlot c base
      to true e some = ((_, is.0.1), resized base ((address-decides size base).0 e))
      to false e some = cc

      from : IsOfSlot c base → is_some (caveat_if (is_slot_address size base) (UpdateOfSlot base)) ≡ true
      from of = ap (λ t. is_some (caveat_if t (UpdateOfSlot base))) ((address-decides size base).1 (unsized base of.1))

-- ---- an update that moves a unit

length-behind : {X : Type 0} (before behind : List X) (x : X) → length before < length (before ++ x ∷ behind)
length-behind [] behind x = omega arith
length-behind (y ∷ ys) behind x = let h = length-behind ys behind x in omega (arith, h)

at-behind : {X : Type 0} (before behind : List X) (x : X) → slice_get (before ++ x ∷ behind) (length before) ≡ Some x
at-behind [] behind x = refl
at-behind (y ∷ ys) behind x = at-behind ys behind x

position-behind : {X : Type 0} (p : X → Bool) (before behind : List X) (x : X)
    → ((k : ℕ) (y : X) → slice_get before k ≡ Some y → p y ≡ false) → p x ≡ true
    → position p (before ++ x ∷ behind) ≡ Some (length before)
position-behind p before behind x fails is =
    (first_position p (before ++ x ∷ behind) (length before) x (length-behind before behind x)
    (ap p (get_or-append_seam before x behind x) ∙ is)
    (λ j lt. ap p (get_or_append_left before (x ∷ behind) x j lt)
    ∙ fails j (get_or before j x) (slice_get-get_or before j x lt))).1

has-there : (start : ℕ) (u : SlotUnit) (m : Member) (w : Window) → member_window m u ≡ Some w → w.start ≡ start
    → has_member_at start u ≡ true
has-there start u m w stands at = go (has_member_at start u) refl
  where
    go : (b : Bool) → has_member_at start u ≡ b → b ≡ true
    go true e = refl
    go false e = absurd (none_starts start u e w (is-member m u w stands) at)

lacks-there : (start : ℕ) (u : SlotUnit) → ((w : Window) → IsMember u w → w.start ≢ start) → has_member_at start u
    ≡ false
lacks-there start u never = go (member_at start u) refl
  where
    go : (o : Option Member) → member_at start u ≡ o → is_some o ≡ false
    go None e = refl
    go (Some m) e =
        let s = member_starts start u m e in absurd (never s.0 (is-member m u s.0 s.1) s.2)

-- the unit that an update moves stands where it was found
pub record IsPlacedUpdate (us : List SlotUnit) (base k : ℕ) (u : SlotUnit) : Type 0 where
  pub above : flash_base ≤ base
  pub place : position (has_member_at (base - flash_base)) us ≡ Some k
  pub at : slice_get us k ≡ Some u

pub update-place : (us : List SlotUnit) (base : ℕ) (m : Member) (u : SlotUnit) (w : Window)
    → (is : IsUpdateOf us base m u w) → IsPlacedUpdate us base (length is.before) u
update-place us base m u w is = record {
  above = omega (arith, is.pointed);
  place = ap (position (has_member_at (base - flash_base))) is.stood
      ∙ position-behind (has_member_at (base - flash_base)) is.before is.after u
      (λ k v at. lacks-there (base - flash_base) v (λ x member same.
      is.first k v x at member (pointing x.start base same (omega (arith, is.pointed)))))
      (has-there (base - flash_base) u m w is.window (omega (arith, is.pointed)));
  at = ap (λ xs. slice_get xs (length is.before)) is.stood ∙ at-behind is.before is.after u;
}
  where
    pointing : (s b : ℕ) → s ≡ b - flash_base → flash_base ≤ b → flash_base + s ≡ b
    pointing s b same above = omega arith

-- an address with a unit at it updates a member
pub place-updates : (us : List SlotUnit) (base k : ℕ) → nat_le flash_base base ≡ true
    → position (has_member_at (base - flash_base)) us ≡ Some k
    → (m : Member) × (updated_member us base ≡ Some m)
place-updates us base k above place =
    elim (search_of (has_member_at (base - flash_base)) us) [
      | inl absent ↦ absurd (none-some absent.placeless place)
      | inr found ↦ by found.1 found.2.sought (member_at (base - flash_base) found.1) refl found.2.passes
    ]
  where
    none-some : position (has_member_at (base - flash_base)) us ≡ None
        → position (has_member_at (base - flash_base)) us ≡ Some k → ⊥
    none-some e f = cc

    by : (u : SlotUnit) → find (has_member_at (base - flash_base)) us ≡ Some u → (o : Option Member)
        → member_at (base - flash_base) u ≡ o → is_some o ≡ true → (m : Member) × (updated_member us base ≡ Some m)
    by u sought None at some = cc
    by u sought (Some m) at some = (
      m,
      ap (λ b. cond b
          (option_and_then (member_at (base - flash_base)) (find (has_member_at (base - flash_base)) us)) None) above
          ∙ (ap (option_and_then (member_at (base - flash_base))) sought ∙ at),
    )

-- the part that is moved, at a place
moved-says : (us : List SlotUnit) (k part : ℕ) → moved_part us k ≡ Some part
    → (k ≢ 0) × ((u : SlotUnit) × (slice_get us k ≡ Some u) × (u.a_part ≡ Some part))
moved-says us k part e = go (k == 0) refl e
  where
    by : (o : Option SlotUnit) → slice_get us k ≡ o → option_and_then (λ (u : SlotUnit). u.a_part) o ≡ Some part
        → (u : SlotUnit) × (slice_get us k ≡ Some u) × (u.a_part ≡ Some part)
    by None at same = cc
    by (Some u) at same = (u, at, same)

    go : (b : Bool) → (k == 0) ≡ b
        → (cond b (None) (option_and_then (λ (u : SlotUnit). u.a_part) (slice_get us k)))
        ≡ Some part
        → (k ≢ 0) × ((u : SlotUnit) × (slice_get us k ≡ Some u) × (u.a_part ≡ Some part))
    go true is same = cc
    go false is same = (
      (λ zero_is. let yes : (k == 0) ≡ true = eq-eqb k 0 zero_is in cc),
      by (slice_get us k) refl same,
    )

pub says-moved : (us : List SlotUnit) (k part : ℕ) (u : SlotUnit) → k ≢ 0 → slice_get us k ≡ Some u → u.a_part
    ≡ Some part
    → moved_part us k ≡ Some part
says-moved us k part u some at first = go (k == 0) refl
  where
    go : (b : Bool) → (k == 0) ≡ b
        → (cond b (None) (option_and_then (λ (u : SlotUnit). u.a_part) (slice_get us k)))
        ≡ Some part
    go true is = absurd (some (eqb-true k 0 is))
    go false is = ap (option_and_then (λ (v : SlotUnit). v.a_part)) at ∙ first

-- what is moved by an address
moved-by : (us : List SlotUnit) (base part : ℕ) → moved_by us base ≡ Some part → IsMovedPart us base part
moved-by us base part e = go (nat_le flash_base base) refl e
  where
    by : nat_le flash_base base ≡ true → (o : Option ℕ) → position (has_member_at (base - flash_base)) us ≡ o
        → option_and_then (moved_part us) o ≡ Some part → IsMovedPart us base part
    by above None place same = cc
    by above (Some k) place same =
        let moved = moved-says us k part same in
        let m = place-updates us base k above place in
        let u = updated us base m.0 m.1 in
        let placed = update-place us base m.0 u.0 u.1 u.2 in
        let k_is : k ≡ length u.2.before = same_Some k (length u.2.before) (sym place ∙ placed.place) in
        let unit : moved.1.0 ≡ u.0 =
        same_Some moved.1.0 u.0 (sym moved.1.1 ∙ (ap (slice_get us) k_is ∙ placed.at)) in
        record {
          member = m.0;
          unit = u.0;
          window = u.1;
          updates = u.2;
          behind = λ none. moved.0 (k_is ∙ ap length none);
          first = ap (λ (v : SlotUnit). v.a_part) (sym unit) ∙ moved.1.2;
        }

    go : (b : Bool) → nat_le flash_base base ≡ b
        → (cond b (option_and_then (moved_part us) (position (has_member_at (base - flash_base)) us)) (None))
        ≡ Some part → IsMovedPart us base part
    go true above same = by above (position (has_member_at (base - flash_base)) us) refl same
    go false above same = cc

by-moved : (us : List SlotUnit) (base part : ℕ) → IsMovedPart us base part → moved_by us base ≡ Some part
by-moved us base part is =
    let placed = update-place us base is.member is.unit is.window is.updates in
    go (nat_le flash_base base) (at-least flash_base base placed.above)
    (ap (option_and_then (moved_part us)) placed.place
    ∙ says-moved us (length is.updates.before) part is.unit (some is.updates.before is.behind) placed.at is.first)
  where
    at-least : (m n : ℕ) → m ≤ n → nat_le m n ≡ true
    at-least m n le = grind (arith, nat_tests)

    some : (xs : List SlotUnit) → xs ≢ [] → length xs ≢ 0
    some [] never = λ e. never refl
    some (x ∷ xs) never = λ e. absurd (omega arith)

    go : (b : Bool) → b ≡ true
        → option_and_then (moved_part us) (position (has_member_at (base - flash_base)) us) ≡ Some part
        → (cond b (option_and_then (moved_part us) (position (has_member_at (base - flash_base)) us)) (None))
        ≡ Some part
    go true e h = h
    go false e h = cc

module _ (us : List SlotUnit) where
  abbrev IsMovedBy : BootKind → ℕ → Type 0
  IsMovedBy kind part = (base : ℕ) × (kind ≡ Update base) × IsMovedPart us base part

  stays : (kind : BootKind) → ((base : ℕ) → kind ≡ Update base → ⊥) → IsJust (IsUpdateMovesUnit kind us) []
  stays kind never = one-just (IsMovedBy kind) UpdateMovesUnit None (λ caveat e. cc)
      (λ part is. absurd (never is.0 is.1))

  pub moves-just : (kind : BootKind) → IsJust (IsUpdateMovesUnit kind us) (option_to_list (update_moves kind us))
  moves-just Normal = stays Normal (λ base e. cc)
  moves-just AskBootsel = stays AskBootsel (λ base e. cc)
  moves-just (Update base) =
      one-just (IsMovedBy (Update base)) UpdateMovesUnit (option_map UpdateMovesUnit (moved_by us base))
      (to (moved_by us base) refl) (λ part is. from part is.0 is.1 is.2)
    where
      to : (o : Option ℕ) → moved_by us base ≡ o → (caveat : Caveat) → option_map UpdateMovesUnit o ≡ Some caveat
          → (part : ℕ) × IsMovedBy (Update base) part × (caveat ≡ UpdateMovesUnit part)
      to None is caveat e = cc
      to (Some part) is caveat e = (part, (base, refl, moved-by us base part is), sym (same_Some _ _ e))

      same-base : (a b : ℕ) → Update a ≡ Update b → a ≡ b
      same-base a b e = cc

      from : (part b : ℕ) → Update base ≡ Update b → IsMovedPart us b part
          → option_map UpdateMovesUnit (moved_by us base) ≡ Some (UpdateMovesUnit part)
      from part b same is =
          ap (λ o. option_map UpdateMovesUnit o)
          (by-moved us base part (subst (λ x. IsMovedPart us x part) (sym (same-base base b same)) is))

-- ---- an update of nothing

-- units of which one has a member at an offset
module _ (start : ℕ) where
  abbrev HasOneAt : List SlotUnit → Type 0
  HasOneAt us = (k : ℕ) × (u : SlotUnit) × (w : Window) × (slice_get us k ≡ Some u) × IsMember u w × (w.start ≡ start)

  one-there : (us : List SlotUnit) → list_any (has_member_at start) us ≡ true → HasOneAt us
  one-there [] e = cc
  one-there (u ∷ us) e =
      go (member_at start u) refl (either (has_member_at start u) _ e) (λ h. one-there us h)
    where
      behind : HasOneAt us → HasOneAt (u ∷ us)
      behind is = (suc is.0, is.1, is.2, is.3, is.4, is.5)

      go : (o : Option Member) → member_at start u ≡ o
          → (is_some (member_at start u) ≡ true) ⊎ (list_any (has_member_at start) us ≡ true)
          → (list_any (has_member_at start) us ≡ true → HasOneAt us) → HasOneAt (u ∷ us)
      go (Some m) at is later = let s = member_starts start u m at in (0, u, s.0, refl, is-member m u s.0 s.1, s.2)
      go None at (inl some) later = let none : is_some (member_at start u) ≡ false = ap is_some at in cc
      go None at (inr rest) later = behind (later rest)

  there-one : (us : List SlotUnit) → HasOneAt us → list_any (has_member_at start) us ≡ true
  there-one us is = found us is.0 is.3
    where
      has : has_member_at start is.1 ≡ true
      has = go (has_member_at start is.1) refl
        where
          go : (b : Bool) → has_member_at start is.1 ≡ b → b ≡ true
          go true e = refl
          go false e = absurd (none_starts start is.1 e is.2 is.4 is.5)

      found : (vs : List SlotUnit) (k : ℕ) → slice_get vs k ≡ Some is.1 → list_any (has_member_at start) vs ≡ true
      found [] k at = cc
      found (v ∷ vs) zero at =
          left (has_member_at start v) _ (ap (has_member_at start) (same_Some v is.1 at) ∙ has)
      found (v ∷ vs) (suc k) at = right-one (has_member_at start v) _ (found vs k at)

-- no member starts at an address
one-decides : (us : List SlotUnit) (base : ℕ)
    → Decides (updates_one us base) ((flash_base ≤ base) × HasOneAt (base - flash_base) us)
one-decides us base =
    and-decides _ _ _ _ (at-least flash_base base)
    (one-there (base - flash_base) us, there-one (base - flash_base) us)
  where
    at-least : (m n : ℕ) → Decides (nat_le m n) (m ≤ n)
    at-least m n = (λ e. grind (arith, nat_tests), λ le. grind (arith, nat_tests))

no-member : (us : List SlotUnit) (base : ℕ)
    → (((flash_base ≤ base) × HasOneAt (base - flash_base) us) → ⊥) → IsOfNoMember us base
no-member us base never = λ k u w at member same.
    never (above w.start base same, (k, u, w, at, member, starts w.start base same))
  where
    above : (s b : ℕ) → flash_base + s ≡ b → flash_base ≤ b
    above s b same = omega arith

    starts : (s b : ℕ) → flash_base + s ≡ b → s ≡ b - flash_base
    starts s b same = omega arith

member-no : (us : List SlotUnit) (base : ℕ) → IsOfNoMember us base
    → ((flash_base ≤ base) × HasOneAt (base - flash_base) us) → ⊥
member-no us base never is =
    never is.1.0 is.1.1 is.1.2 is.1.3 is.1.4 (pointing is.1.2.start base is.1.5 is.0)
  where
    pointing : (s b : ℕ) → s ≡ b - flash_base → flash_base ≤ b → flash_base + s ≡ b
    pointing s b same above = omega arith

module _ (c : Content) (us : List SlotUnit) (size : ℕ) (size_is : size ≡ slot_size c.otp (length c.flash)) where
  abbrev IsNothing : BootKind → ℕ → Type 0
  IsNothing kind base = (kind ≡ Update base) × IsOfNoMember us base × (IsOfSlot c base → ⊥)

  no-nothing : (kind : BootKind) → ((base : ℕ) → kind ≡ Update base → ⊥) → IsJust (IsUpdateOfNothing c kind us) []
  no-nothing kind never = one-just (IsNothing kind) UpdateOfNothing None (λ caveat e. cc)
      (λ base is. absurd (never base is.0))

  pub nothing-just : (kind : BootKind) (table : Option TableInForce) → IsTableInForce c table
      → IsJust (IsUpdateOfNothing c kind us) (option_to_list (update_of_nothing kind size table us))
  nothing-just Normal table is = no-nothing Normal (λ base e. cc)
  nothing-just AskBootsel table is = no-nothing AskBootsel (λ base e. cc)
  nothing-just (Update base) table is =
      one-just (IsNothing (Update base)) UpdateOfNothing (update_of_nothing (Update base) size table us)
      (to (not (updates_one us base || is_some (update_of_slot (Update base) size table))) refl)
      (λ b u. from b u)
    where
      decides : Decides (not (updates_one us base || is_some (update_of_slot (Update base) size table)))
          ((((flash_base ≤ base) × HasOneAt (base - flash_base) us) ⊎ IsOfSlot c base) → ⊥)
      decides = not-decides _ _ (or-decides _ _ _ _ (one-decides us base) (slot-decides c size size_is base table is))

      to : (t : Bool) → not (updates_one us base || is_some (update_of_slot (Update base) size table)) ≡ t
          → (caveat : Caveat) → caveat_if t (UpdateOfNothing base) ≡ Some caveat
          → (b : ℕ) × IsNothing (Update base) b × (caveat ≡ UpdateOfNothing b)
      to true e caveat same = (
        base,
        (refl, no-member us base (λ one. decides.0 e (inl one)), λ of. decides.0 e (inr of)),
        sym (same_Some _ _ same),
      )
      to false e caveat same = cc

      same-base : (a b : ℕ) → Update a ≡ Update b → a ≡ b
      same-base a b e = cc

      from : (b : ℕ) → IsNothing (Update base) b
          → update_of_nothing (Update base) size table us ≡ Some (UpdateOfNothing b)
      from b u =
          ap (λ t. caveat_if t (UpdateOfNothing base)) (decides.1 (λ either_is. elim either_is [
            | inl one ↦ member-no us base
                (subst (λ x. IsOfNoMember us x) (sym (same-base base b u.0)) u.1) one
            | inr of ↦ u.2 (subst (IsOfSlot c) (same-base base b u.0) of)
          ])) ∙ ap (λ x. Some (UpdateOfNothing x)) (same-base base b u.0)
