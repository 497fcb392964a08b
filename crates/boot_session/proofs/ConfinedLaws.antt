-- What a normal boot decides on a content that differs in one member of a pair alone.
use Rattle.std.proofs.Common.{◌≡◌, ◌≢◌, ◌⊎◌, inl, inr, ℕ, zero, suc, Bool, true, false, List, [], ◌∷◌, length, Option, Some, None, refl, sym, ap, ◌∙◌, subst}
use Rattle.std.specs.Prelude.{if◌then◌else◌}
use Rattle.std.specs.Option.{option_or}
use Rattle.std.specs.Result.{result_ok}
use Rattle.pico_board.specs.declared.boot.Cpu.{Cpu}
use Rattle.pico_board.specs.declared.boot.BootKind.TheVariants.{Normal}
use Rattle.pico_board.specs.declared.window.Window.{Window}
use Rattle.pico_board.specs.Content.{AreApart, Content, IsContent}
use Rattle.pico_board.specs.Sessions.{Confined, SameButWindow}
use Rattle.pico_board.specs.Steps.{MayLeave}
use Rattle.pico_board.specs.declared.Step.{Step}
use Rattle.pico_board.proofs.ConfinementLemmas.{confined-MayLeave}
use Rattle.otp_roll.specs.Flags.{flash_off, slot_size}
use Rattle.image_check.specs.Valid.{Valid}
use Rattle.image_check.proofs.LawLemmas.{image-local, valid-window}
use Rattle.slot_choice.specs.declared.unit.Member.{Member}
use Rattle.slot_choice.specs.declared.unit.SlotUnit.{SlotUnit}
use Rattle.slot_choice.specs.declared.choice.Choice.{Choice}
use Rattle.boot_rules.specs.declared.decision.Decision.{Decision}
use Rattle.boot_rules.specs.declared.decision.Decision.TheVariants.{Start, Bootsel}
use Rattle.boot_rules.specs.declared.decision.Fall.TheVariants.{FlashOff}
use Rattle.boot_rules.specs.declared.tables.Found.{Found}
use Rattle.boot_rules.specs.Changes.{HaveSameImages, HaveSameImagesBut, Images, IsIn, IsNotIn}
use Rattle.boot_rules.specs.Choosing.{Order, boot_units_in, choose, decision_in, decision_of, images_in, order_of, ordered_choice, unit_choice}
use Rattle.boot_rules.specs.Chosen.{Chosen, IsBootMember, is_updated}
use Rattle.boot_rules.specs.Tables.{table_in}
use Rattle.boot_rules.proofs.ChangeLemmas.{changed, changed-then-none, choose-same, images-placed}
use Rattle.boot_rules.proofs.DataLemmas.{same-bytes, same-length, same-table}
use Rattle.boot_rules.proofs.DecisionLemmas.{chosen-exactly}
use Rattle.boot_rules.proofs.StartLemmas.{chosen-start}
use Rattle.boot_rules.proofs.SameUnitLemmas.{units-same}
use Rattle.boot_session.specs.CutSessions.{ConfinedSession, StartsOutside, StartsThere}
use Rattle.boot_session.proofs.NeighbourLemmas.{here-or-apart, slots-apart}

-- the images of a normal boot, which allows no trial image
abbrev pub normal_images : Content → Cpu → Images
normal_images c cpu v trial = images_in c cpu v false

-- the images of a normal boot are all that a choice without an update asks for
normal-choice : (f : Images) (us : List SlotUnit)
    → ordered_choice f us None ≡ ordered_choice (λ v trial. f v false) us None
normal-choice f [] = refl
normal-choice f (u ∷ us) = ap (option_or (unit_choice f u None)) (normal-choice f us)

abbrev decided : Bool → Option Choice → Decision
decided off o = if off then Bootsel FlashOff else decision_of o

-- the decision of a normal boot, by the flag, the units and the images
decision-is : (x : Content) (cpu : Cpu)
    → decision_in x cpu Normal
    ≡ decided (flash_off x.otp) (choose (images_in x cpu) (order_of Normal (boot_units_in x cpu)))
unfolding decision_in
decision-is x cpu = refl

-- a start of a normal boot is of an image that is valid with trial not allowed
not-updated : (us : List SlotUnit) (place : ℕ) (m : Member) → is_updated (order_of Normal us) place m ≡ false
not-updated us zero m = refl
not-updated us (suc place) m = refl

pub normal-valid : (d : Content) (cpu : Cpu) (choice : Choice) → Chosen d cpu Normal (Start choice)
    → Valid d choice.image.window cpu false choice.image
normal-valid d cpu choice h =
    let start = chosen-start d cpu Normal choice h in
    let at = valid-window d start.counts.window cpu
    (is_updated (order_of Normal (boot_units_in d cpu)) start.place choice.member) choice.image start.counts.valid in
    subst (λ v. Valid d v cpu false choice.image) (sym at)
    (subst (λ trial. Valid d start.counts.window cpu trial choice.image)
    (not-updated (boot_units_in d cpu) start.place choice.member) start.counts.valid)

module _ (c : Content) (w : Window) (cpu : Cpu) (right : IsContent c) (boot_member : IsBootMember c w cpu) (d : Content)
    (same : SameButWindow w c d) where
  -- a table stays
  pub table-stays : (found : Found) → table_in c ≡ Some found → table_in d ≡ Some found
  table-stays found is =
      let apart = slots-apart c w cpu right boot_member found is in same-table c d w same apart.0 apart.1 ∙ is

  abbrev us : List SlotUnit
  us = boot_units_in c cpu

  abbrev order : Order
  order = order_of Normal us

  abbrev before : Images
  before = normal_images c cpu

  abbrev after : Images
  after = normal_images d cpu

  pub image-apart : (x : Window) (trial : Bool) → AreApart w x → images_in d cpu x trial ≡ images_in c cpu x trial
  image-apart x trial apart =
      ap result_ok (image-local d c x cpu trial (same-bytes c d w same x apart) same.rows)

  images-but : HaveSameImagesBut w before after us
  images-but = record {
    same = λ k v m x trial at stands differ. go x differ (here-or-apart c w cpu right boot_member k v m x at stands);
  }
    where
      go : (x : Window) → x ≢ w → (x ≡ w) ⊎ AreApart w x → images_in c cpu x false ≡ images_in d cpu x false
      go x differ (inl e) = absurd (differ e)
      go x differ (inr apart) = sym (image-apart x false apart)

  module _ (table : table_in d ≡ table_in c) where
    -- the decision on both, by the same flag and units
    pub former-is : decision_in c cpu Normal ≡ decided (flash_off c.otp) (choose before order)
    former-is = decision-is c cpu ∙ ap (decided (flash_off c.otp)) (normal-choice (images_in c cpu) us)

    pub next-is : decision_in d cpu Normal ≡ decided (flash_off c.otp) (choose after order)
    next-is =
        decision-is d cpu
        ∙ ap (λ rows. decided (flash_off rows) (choose (images_in d cpu) (order_of Normal (boot_units_in d cpu))))
        same.rows
        ∙ ap (λ vs. decided (flash_off c.otp) (choose (images_in d cpu) (order_of Normal vs)))
        (units-same c d cpu table (same-length c d w same)
        (ap (λ rows. slot_size rows (length c.flash)) same.rows))
        ∙ ap (decided (flash_off c.otp)) (normal-choice (images_in d cpu) us)

    -- where no image of the window started before
    out : (off : Bool) → StartsOutside w (decided off (choose before order)) → off ≡ false
        → IsNotIn w (choose before order)
    out true elsewhere e = cc
    out false elsewhere e = go (choose before order) elsewhere
      where
        go : (o : Option Choice) → StartsOutside w (decision_of o) → IsNotIn w o
        go None h = tt
        go (Some choice) h = h

    -- where the window has no image then
    pub empty-decision : StartsOutside w (decision_in c cpu Normal) → images_in d cpu w false ≡ None
        → decision_in d cpu Normal ≡ decision_in c cpu Normal
    empty-decision elsewhere none =
        next-is ∙ go (flash_off c.otp) (subst (StartsOutside w) former-is elsewhere) refl ∙ sym former-is
      where
        go : (off : Bool) → StartsOutside w (decided off (choose before order)) → off ≡ off
            → decided off (choose after order) ≡ decided off (choose before order)
        go true h e = refl
        go false h e =
            ap decision_of (changed-then-none w before after order images-but
            (λ v trial s is. images-placed c cpu v false s is) (out false h refl) (λ trial. none))

    -- in any case
    pub next-decision : StartsOutside w (decision_in c cpu Normal)
        → (decision_in d cpu Normal ≡ decision_in c cpu Normal) ⊎ StartsThere d w cpu
    next-decision elsewhere = go (flash_off c.otp) (subst (StartsOutside w) former-is elsewhere) next-is former-is
      where
        there : IsIn w (choose after order) → decision_in d cpu Normal ≡ decision_of (choose after order)
            → StartsThere d w cpu
        there inside is =
            let start : decision_in d cpu Normal ≡ Start inside.start = is ∙ ap decision_of inside.chosen in
            let chosen = (chosen-exactly d cpu Normal (Start inside.start)).1 (sym start) in
            record {
              choice = inside.start;
              chosen = chosen;
              there = inside.there;
              valid = subst (λ v. Valid d v cpu false inside.start.image) inside.there
                  (normal-valid d cpu inside.start chosen);
            }

        go : (off : Bool) → StartsOutside w (decided off (choose before order))
            → decision_in d cpu Normal ≡ decided off (choose after order)
            → decision_in c cpu Normal ≡ decided off (choose before order)
            → (decision_in d cpu Normal ≡ decision_in c cpu Normal) ⊎ StartsThere d w cpu
        go true h next former = inl (next ∙ sym former)
        go false h next former =
            elim (changed w before after order images-but
            (λ v trial s is. images-placed c cpu v false s is) (out false h refl)
            (λ v trial s is. images-placed d cpu v false s is)) [
              | inl inside ↦ inr (there inside next)
              | inr kept ↦ inl (next ∙ ap decision_of kept ∙ sym former)
            ]

-- two contents that differ from one in the window alone, and have the same image there
pub same-image-decision : (c : Content) (w : Window) (cpu : Cpu) → IsContent c → IsBootMember c w cpu → (d z : Content)
    → SameButWindow w c d → SameButWindow w c z → table_in d ≡ table_in c → table_in z ≡ table_in c
    → images_in d cpu w false ≡ images_in z cpu w false → decision_in d cpu Normal ≡ decision_in z cpu Normal
same-image-decision c w cpu right boot_member d z one two table done mine =
    next-is c w cpu right boot_member d one table
    ∙ ap (decided (flash_off c.otp)) (choose-same (normal_images d cpu) (normal_images z cpu)
    (order_of Normal (boot_units_in c cpu)) images)
    ∙ sym (next-is c w cpu right boot_member z two done)
  where
    go : (x : Window) → (x ≡ w) ⊎ AreApart w x → images_in d cpu x false ≡ images_in z cpu x false
    go x (inl e) = ap (λ v. images_in d cpu v false) e ∙ mine ∙ ap (λ v. images_in z cpu v false) (sym e)
    go x (inr apart) =
        image-apart c w cpu right boot_member d one x false apart
        ∙ sym (image-apart c w cpu right boot_member z two x false apart)

    images : HaveSameImages (normal_images d cpu) (normal_images z cpu) (boot_units_in c cpu)
    images = record {
      same = λ k v m x trial at stands. go x (here-or-apart c w cpu right boot_member k v m x at stands);
    }

-- what a confined session leaves
pub confined-decision : (c : Content) (w : Window) (cpu : Cpu) (steps : List Step) (d : Content) (e : Decision)
    → IsContent c → IsBootMember c w cpu → Confined steps w → MayLeave c steps d → table_in d ≡ table_in c
    → Chosen c cpu Normal e → StartsOutside w e → Chosen d cpu Normal e ⊎ StartsThere d w cpu
confined-decision c w cpu steps d e right boot_member confined leaves table former elsewhere =
    let is = (chosen-exactly c cpu Normal e).0 former in
    elim (next-decision c w cpu right boot_member d (confined-MayLeave c w steps d confined leaves) table
    (subst (StartsOutside w) is elsewhere)) [
      | inl same ↦ inl ((chosen-exactly d cpu Normal e).1 (is ∙ sym same))
      | inr there ↦ inr there
    ]

pub confined-start : (c : Content) (w : Window) (cpu : Cpu) (steps : List Step) (d : Content) (choice : Choice)
    → IsContent c → IsBootMember c w cpu → Confined steps w → MayLeave c steps d → table_in d ≡ table_in c
    → Chosen c cpu Normal (Start choice) → StartsOutside w (Start choice)
    → (next : Choice) × Chosen d cpu Normal (Start next)
confined-start c w cpu steps d choice right boot_member confined leaves table former elsewhere =
    elim (confined-decision c w cpu steps d (Start choice) right boot_member confined leaves table former elsewhere) [
      | inl same ↦ (choice, same)
      | inr there ↦ (there.choice, there.chosen)
    ]

pub confined-table : (c : Content) (w : Window) (cpu : Cpu) (steps : List Step) (d : Content) (found : Found)
    → IsContent c → IsBootMember c w cpu → Confined steps w → MayLeave c steps d → table_in c ≡ Some found
    → table_in d ≡ Some found
confined-table c w cpu steps d found right boot_member confined leaves is =
    table-stays c w cpu right boot_member d (confined-MayLeave c w steps d confined leaves) found is

-- what a confined session leaves, by the record of its premises
pub confined-session : (c : Content) (w : Window) (cpu : Cpu) (steps : List Step) (d : Content) (e : Decision)
    → ConfinedSession c w cpu steps d e → Chosen d cpu Normal e ⊎ StartsThere d w cpu
confined-session c w cpu steps d e s =
    confined-decision c w cpu steps d e s.right s.boot_member s.confined s.leaves (same (table_in c) refl) s.former
    s.elsewhere
  where
    same : (o : Option Found) → table_in c ≡ o → table_in d ≡ table_in c
    same None none = s.table none ∙ sym none
    same (Some found) is =
        confined-table c w cpu steps d found s.right s.boot_member s.confined s.leaves is ∙ sym is
