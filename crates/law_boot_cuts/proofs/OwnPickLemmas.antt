-- What is taken of the started image's unit where power is lost in a start's or a buy's writes.
use Rattle.std.proofs.Common.{◌≡◌, ◌⊎◌, ℕ, ◌+◌, ◌/◌, ◌≤◌, true, false, Bool, List, ◌++◌, length, Option, Some, None, refl, sym, ap, ◌∙◌, subst, arith, inl, inr, option_and_then}
use Rattle.std.specs.Prelude.{IfSome}
use Rattle.std.specs.Result.{result_ok}
use Rattle.pico_board.specs.declared.Step.{Step}
use Rattle.pico_board.specs.declared.Step.TheVariants.{Erase}
use Rattle.pico_board.specs.declared.boot.Cpu.{Cpu}
use Rattle.pico_board.specs.declared.window.Window.{Window}
use Rattle.pico_board.specs.Content.{AreApart, Content, IsContent, window_bytes}
use Rattle.pico_board.specs.Sessions.{Confined, IsConfined, SameButWindow}
use Rattle.pico_board.specs.Steps.{CutOf, IsCutAt, MayLeave, after, after_all}
use Rattle.pico_board.proofs.ConfinementLemmas.{confined-CutOf, confined-after_all, window_bytes-apart}
use Rattle.block_codec.specs.Erased.{IsErasedFrom}
use Rattle.pico_board.proofs.CuttingLemmas.{CutOf-from}
use Rattle.pico_board.proofs.StepLemmas.{after_all-append}
use Rattle.image_def.specs.declared.started.Started.{Started}
use Rattle.otp_roll.specs.Rows.{AreRollbackRows, IsRollbackVersion}
use Rattle.part_table.proofs.TableLemmas.{apart_sym}
use Rattle.image_check.specs.Addressing.{in_flash}
use Rattle.image_check.specs.Changes.{bought}
use Rattle.image_check.specs.NotBelow.{NotBelow}
use Rattle.image_check.specs.SameImage.{SameImage}
use Rattle.image_check.specs.Valid.{Valid}
use Rattle.image_check.proofs.LawLemmas.{erased-none, image-local, one-image, same-image, valid-holds}
use Rattle.slot_choice.specs.declared.unit.Member.{Member}
use Rattle.slot_choice.specs.declared.unit.SlotUnit.{SlotUnit}
use Rattle.slot_choice.specs.declared.choice.Choice.{Choice}
use Rattle.trial_buy.specs.Starting.{image_raises, is_other_better, other_erase}
use Rattle.boot_rules.specs.Choosing.{choice_of, images_in}
use Rattle.boot_rules.specs.Picking.{taken}
use Rattle.part_table.specs.Windows.{IsPlacedIn}
use Rattle.boot_rules.specs.Starts.{IsOfUnit}
use Rattle.boot_rules.proofs.DecisionLemmas.{found-valid, valid-found}
use Rattle.boot_rules.proofs.UnitLemmas.{window-image}
use Rattle.law_boot_cuts.specs.Crashes.{LeavesNoAccidentalImage, settled_choice}
use Rattle.boot_rules.specs.AccidentalImages.{HasNoImage, IsKnownImage, IsSameImageIn}
use Rattle.law_boot_cuts.proofs.LeftImageLemmas.{image-back, image-kept}
use Rattle.law_boot_cuts.proofs.OwnLeftLemmas.{EraseLeft, IsLeft, erase-left, erased, kept, left-raises, own-not_below, raises-bytes, rows-rise}
use Rattle.law_boot_cuts.proofs.OwnStepLemmas.{Erases, Keeps, all-there, cut-parts, erase-cases, first-confined}
use Rattle.law_boot_cuts.proofs.OwnWindowLemmas.{erased-window}
use Rattle.law_boot_cuts.proofs.PairLemmas.{IsBeaten, IsWorse, absent, beaten, choice-pair, no_image, not_better, pair_choice, takes-mine, takes-other}

-- a window without an image
pub none-found : (d : Content) (cpu : Cpu) (w : Window) → HasNoImage d w cpu → images_in d cpu w false ≡ None
none-found d cpu w none = go (images_in d cpu w false) refl
  where
    go : (o : Option Started) → images_in d cpu w false ≡ o → o ≡ None
    go None e = refl
    go (Some s) e = absurd (none s (found-valid d cpu w false s e))

some-none : {P : Type 0} (o : Option Started) (s : Started) → o ≡ Some s → o ≡ None → P
some-none o s e f = let h : Some s ≡ None = sym e ∙ f in cc

-- an image without its trial bit is not below the rows that it is not below with it
pub bought-not_below : (otp : List ℕ) (s : Started) → NotBelow otp s → NotBelow otp (bought s)
bought-not_below otp s not = record { version = not.version; required = not.required }

module _ (c : Content) (cpu : Cpu) (choice : Choice) (right : IsContent c) (placed : IsPlacedIn c choice.image.window)
    (others : (w : Window) → choice.other ≡ Some w → IsPlacedIn c w × AreApart choice.image.window w)
    (updated : choice.updated ≡ true) (before : List Step) (confined : Confined before choice.image.window)
    (u : SlotUnit) (of : IsOfUnit c cpu choice u) (listed : AreRollbackRows choice.image.rows.items)
    (version : IfSome choice.image.rollback (λ v. IsRollbackVersion v choice.image.rows.items))
    (not : NotBelow c.otp choice.image)
    (mid : Valid (after_all c before) choice.image.window cpu false (bought choice.image)) where
  abbrev W : Window
  W = choice.image.window

  abbrev B : Started
  B = bought choice.image

  abbrev m : Member
  m = choice.member

  abbrev x0 : Content
  x0 = after_all c before

  abbrev x1 : Content
  x1 = after_all (after_all c before) (other_erase c cpu choice)

  abbrev R : List Step
  R = image_raises c.otp choice.image

  abbrev all : Content
  all = after_all c (before ++ (other_erase c cpu choice ++ image_raises c.otp choice.image))

  abbrev mine : Content → Option Started
  mine x = images_in x cpu W false

  abbrev theirs : Content → Option Started
  theirs x = option_and_then (λ w. images_in x cpu w false) choice.other

  -- what is taken, by the images of the two members
  taken-by : (x : Content) (a b : Option Started) → mine x ≡ a → theirs x ≡ b → taken x cpu u ≡ pair_choice m u a b
  taken-by x a b first second =
      choice-pair (images_in x cpu) u m a b (window-image (images_in x cpu) u m false W of.stands ∙ first)
      (ap (λ o. option_and_then (λ w. images_in x cpu w false) o) (sym of.other) ∙ second)

  settled-is : choice_of u m false B ≡ settled_choice choice
  settled-is =
      ap (λ o. let r : Choice = record { image = B; member = m; other = o; updated = false } in r) (sym of.other)

  takes-settled : (x : Content) → mine x ≡ Some B → IsWorse m B (theirs x)
      → taken x cpu u ≡ Some (settled_choice choice)
  takes-settled x first worse =
      taken-by x (Some B) (theirs x) first refl ∙ takes-mine m u B (theirs x) worse ∙ ap Some settled-is

  -- the other window and what it holds
  other-there : (x : Content) (w : Window) → choice.other ≡ Some w → theirs x ≡ images_in x cpu w false
  other-there x w e = ap (λ o. option_and_then (λ v. images_in x cpu v false) o) e

  other-first : (w : Window) → choice.other ≡ Some w → window_bytes x0 w ≡ window_bytes c w
  other-first w e =
      window_bytes-apart c x0 W w (confined-after_all c W before confined).outside (others w e).1

  -- what is left when the raises are done in part or whole
  module _ (x : Content) (left : MayLeave x1 R x) where
    there : IsLeft c choice x
    there = left-raises c cpu choice right placed others updated before confined x left

    own-bytes : window_bytes x W ≡ window_bytes x0 W
    own-bytes = raises-bytes c cpu choice right placed others updated before confined x left W
        ∙ by_erase (erase-left c cpu choice right placed others updated before confined x1 (inl refl))
      where
        by_erase : EraseLeft c cpu choice right placed others updated before confined x1
            → window_bytes x1 W ≡ window_bytes x0 W
        by_erase (kept k same) = ap (λ (e : Content). window_bytes e W) same
        by_erase (erased e same left) =
            window_bytes-apart x0 x1 e.window W same.outside
            (apart_sym W e.window (others e.window e.other).1)

    pub raised-valid : Valid x W cpu false B
    raised-valid = image-kept x0 x W cpu false B own-bytes
        (bought-not_below x.otp choice.image (own-not_below c x choice.image right listed version not there.rows)) mid

    -- an erased window holds no image
    pub erased-none-there : (e : Erases c cpu choice) → images_in x cpu e.window false ≡ None
    erased-none-there e =
        let first : window_bytes x1 e.window ≡ window_bytes (after x0 (Erase (e.window.start / 4096))) e.window =
        ap (λ steps. window_bytes (after_all x0 steps) e.window) e.steps in
        let long = (confined-after_all c W before confined).outside.long in
        let is = (others e.window e.other).0 in
        let inside : e.window.start + e.window.len ≤ length x0.flash =
        (let i = is.inside in let whole = right.flash_length.whole in omega (arith, i, whole, long)) in
        let all = erased-window x0 e.window (length c.flash / 4096) is inside in
        ap result_ok (erased-none in_flash e.window cpu false x.otp (window_bytes x e.window)
        (subst (λ bytes. IsErasedFrom bytes 0 4096)
        (sym (raises-bytes c cpu choice right placed others updated before confined x left e.window ∙ first)) all))

    kept-worse : (k : Keeps c cpu choice) → x1 ≡ x0 → IsWorse m B (theirs x)
    kept-worse k same = by_other choice.other refl
      where
        by_image : (w : Window) → choice.other ≡ Some w → (o : Option Started) → images_in x cpu w false ≡ o
            → IsWorse m B (theirs x)
        by_image w e None is = no_image (other-there x w e ∙ is)
        by_image w e (Some t) is =
            let bytes : window_bytes x w ≡ window_bytes c w =
            raises-bytes c cpu choice right placed others updated before confined x left w
            ∙ ap (λ (y : Content). window_bytes y w) same ∙ other-first w e in
            let was = image-back c x w cpu false t bytes (rows-rise c x choice.image right listed there.rows)
            (found-valid x cpu w false t is) in
            not_better t (other-there x w e ∙ is) (k.worse w t e was)

        by_other : (o : Option Window) → choice.other ≡ o → IsWorse m B (theirs x)
        by_other None e = no_image (ap (λ o. option_and_then (λ w. images_in x cpu w false) o) e)
        by_other (Some w) e = by_image w e (images_in x cpu w false) refl

    raised-worse : IsWorse m B (theirs x)
    raised-worse = by_erase (erase-left c cpu choice right placed others updated before confined x1 (inl refl))
      where
        by_erase : EraseLeft c cpu choice right placed others updated before confined x1 → IsWorse m B (theirs x)
        by_erase (kept k same) = kept-worse k same
        by_erase (erased e same way) = no_image (other-there x e.window e.other ∙ erased-none-there e)

    pub raised-taken : taken x cpu u ≡ Some (settled_choice choice)
    raised-taken = takes-settled x (valid-found x cpu W false B raised-valid) raised-worse

  -- after all steps
  pub all-done : MayLeave x1 R all
  all-done = inl (after_all-append c before (other_erase c cpu choice ++ R)
      ∙ after_all-append x0 (other_erase c cpu choice) R)

  pub done-taken : taken all cpu u ≡ Some (settled_choice choice)
  done-taken = raised-taken all all-done

  -- the images of the other window stay where the image's window alone is written
  theirs-same : (x : Content) → SameButWindow W c x → theirs x ≡ theirs c
  theirs-same x same = by_other choice.other refl
    where
      by_other : (o : Option Window) → choice.other ≡ o
          → option_and_then (λ w. images_in x cpu w false) o ≡ option_and_then (λ w. images_in c cpu w false) o
      by_other None e = refl
      by_other (Some w) e =
          ap result_ok (image-local x c w cpu false
          (window_bytes-apart c x W w same.outside (others w e).1) same.rows)

  -- d takes what e takes, with the same bytes
  pub record TakesTheEnd (d e : Content) : Type 0 where
    pub start : Choice
    pub here : taken d cpu u ≡ Some start
    pub after : taken e cpu u ≡ Some start
    pub same : SameImage d e start.image cpu

  -- power is lost in the first steps of the rewrite of the sector of the trial bit of an image that a normal boot does
  -- not take, and e is what these steps leave
  pub rewrite-taken : mine c ≡ None → (d e : Content) → SameButWindow W c d → SameButWindow W c e
      → HasNoImage d W cpu ⊎ ((s : Started) × IsKnownImage c e d W cpu s)
      → (taken d cpu u ≡ taken c cpu u) ⊎ TakesTheEnd d e
  rewrite-taken unheld d e same done (inl none) =
      inl (taken-by d None (theirs c) (none-found d cpu W none) (theirs-same d same)
      ∙ sym (taken-by c None (theirs c) unheld refl))
  rewrite-taken unheld d e same done (inr known) = by_known known.0 known.1.valid known.1.known
    where
      by_known : (s : Started) → Valid d W cpu false s → IsSameImageIn c d W cpu s ⊎ IsSameImageIn e d W cpu s
          → (taken d cpu u ≡ taken c cpu u) ⊎ TakesTheEnd d e
      by_known s v (inl former) = some-none (mine c) s (valid-found c cpu W false s former.valid) unheld
      by_known s v (inr later) = by_image (theirs c) refl
        where
          now : (o : Option Started) → theirs c ≡ o → taken d cpu u ≡ pair_choice m u (Some s) o
          now o is = taken-by d (Some s) o (valid-found d cpu W false s v) (theirs-same d same ∙ is)

          ends : (o : Option Started) → theirs c ≡ o → IsWorse m s o → (taken d cpu u ≡ taken c cpu u) ⊎ TakesTheEnd d e
          ends o is worse = inr (record {
            start = choice_of u m false s;
            here = now o is ∙ takes-mine m u s o worse;
            after = taken-by e (Some s) o (valid-found e cpu W false s later.valid) (theirs-same e done ∙ is)
                ∙ takes-mine m u s o worse;
            same = later.same;
          })

          by_version : (t : Started) → theirs c ≡ Some t → (better : Bool)
              → is_other_better m s.version t.version ≡ better → (taken d cpu u ≡ taken c cpu u) ⊎ TakesTheEnd d e
          by_version t is false not = ends (Some t) is (not_better t refl not)
          by_version t is true better =
              inl (now (Some t) is ∙ takes-other m u (Some s) t (beaten s refl better)
              ∙ sym (taken-by c None (Some t) unheld is ∙ takes-other m u None t (absent refl)))

          by_image : (o : Option Started) → theirs c ≡ o → (taken d cpu u ≡ taken c cpu u) ⊎ TakesTheEnd d e
          by_image None is = ends None is (no_image refl)
          by_image (Some t) is = by_version t is (is_other_better m s.version t.version) refl

  -- what the steps come to: all, or those before the raises and some of these
  module _ (z : Content) (end : MayLeave x1 R z) where
    -- d takes what z takes, with the same bytes
    pub record TakesSettled (d : Content) : Type 0 where
      pub here : taken d cpu u ≡ Some (settled_choice choice)
      pub same : SameImage d z B cpu

    settles : (d : Content) → window_bytes d W ≡ window_bytes x0 W → Valid d W cpu false B → IsWorse m B (theirs d)
        → TakesSettled d
    settles d bytes valid worse = record {
      here = takes-settled d (valid-found d cpu W false B valid) worse;
      same = same-image d z B cpu (valid-holds d W cpu false B valid) (bytes ∙ sym (own-bytes z end));
    }

    -- what was taken before, where the other image is better
    module _ (was : (t : Started) → is_other_better m choice.image.version t.version ≡ true → IsBeaten m (mine c) t) where
      other-taken : (d : Content) (e : Erases c cpu choice) → theirs d ≡ Some e.image → IsBeaten m (mine d) e.image
          → taken d cpu u ≡ taken c cpu u
      other-taken d e second beats =
          taken-by d (mine d) (Some e.image) refl second ∙ takes-other m u (mine d) e.image beats
          ∙ sym (taken-by c (mine c) (Some e.image) refl
          (other-there c e.window e.other ∙ valid-found c cpu e.window false e.image e.valid)
          ∙ takes-other m u (mine c) e.image (was e.image e.better))

      -- power is lost in the erase
      cut-erase : (j : ℕ) (step : Step) (d : Content) → IsCutAt x0 (other_erase c cpu choice) j step d
          → LeavesNoAccidentalImage c z d cpu choice step → (taken d cpu u ≡ taken c cpu u) ⊎ TakesSettled d
      cut-erase j step d at no_accident =
          by_erase (erase-left c cpu choice right placed others updated before confined d (inr cut))
        where
          cut : CutOf x0 (other_erase c cpu choice) d
          cut = CutOf-from x0 (other_erase c cpu choice) d (j, step, at)

          by_erase : EraseLeft c cpu choice right placed others updated before confined d
              → (taken d cpu u ≡ taken c cpu u) ⊎ TakesSettled d
          by_erase (kept k same) = absurd (subst (λ steps. CutOf x0 steps d) k.none cut)
          by_erase (erased e same way) = by_images (no_accident e.window (inr e.other) inside).image
            where
              inside : IsConfined e.window step
              inside = all-there (IsConfined e.window) (other_erase c cpu choice) j step
                  (subst (λ steps. Confined steps e.window) (sym e.steps)
                  (first-confined _ e.window (others e.window e.other).0)) at.stands

              bytes : window_bytes d W ≡ window_bytes x0 W
              bytes = window_bytes-apart x0 d e.window W same.outside (apart_sym W e.window (others e.window e.other).1)

              rows : d.otp ≡ c.otp
              rows = same.rows ∙ (confined-after_all c W before confined).rows

              valid : Valid d W cpu false B
              valid = image-kept x0 d W cpu false B bytes
                  (bought-not_below d.otp choice.image (subst (λ otp. NotBelow otp choice.image) (sym rows) not)) mid

              found : (s : Started) → Valid c e.window cpu false s → s ≡ e.image
              found s v = one-image in_flash e.window cpu false c.otp (window_bytes c e.window) s e.image v e.valid

              by_known : (s : Started) → Valid d e.window cpu false s
                  → IsSameImageIn c d e.window cpu s ⊎ IsSameImageIn z d e.window cpu s
                  → (taken d cpu u ≡ taken c cpu u) ⊎ TakesSettled d
              by_known s v (inl former) =
                  inl (other-taken d e
                  (other-there d e.window e.other ∙ valid-found d cpu e.window false s v
                  ∙ ap Some (found s former.valid))
                  (beaten B (valid-found d cpu W false B valid) e.better))
              by_known s v (inr later) =
                  some-none (images_in z cpu e.window false) s (valid-found z cpu e.window false s later.valid)
                  (erased-none-there z end e)

              by_images : HasNoImage d e.window cpu ⊎ ((s : Started) × IsKnownImage c z d e.window cpu s)
                  → (taken d cpu u ≡ taken c cpu u) ⊎ TakesSettled d
              by_images (inl none) =
                  inr (settles d bytes valid
                  (no_image (other-there d e.window e.other ∙ none-found d cpu e.window none)))
              by_images (inr known) = by_known known.0 known.1.valid known.1.known

      -- power is lost in any step, where it is known what a cut before the erase leaves
      pub cut-taken : ((k : ℕ) (step : Step) (d : Content) → IsCutAt c before k step d
          → LeavesNoAccidentalImage c z d cpu choice step
          → (taken d cpu u ≡ taken c cpu u) ⊎ TakesSettled d)
          → (k : ℕ) (step : Step) (d : Content) → IsCutAt c (before ++ (other_erase c cpu choice ++ R)) k step d
          → LeavesNoAccidentalImage c z d cpu choice step → (taken d cpu u ≡ taken c cpu u) ⊎ TakesSettled d
      cut-taken first k step d at no_accident =
          elim (cut-parts c before (other_erase c cpu choice ++ R) k step d at) [
            | inl one ↦ first k step d one no_accident
            | inr rest ↦
                elim (cut-parts x0 (other_erase c cpu choice) R rest.0 step d rest.1) [
                  | inl two ↦ cut-erase rest.0 step d two no_accident
                  | inr three ↦
                      (let left : MayLeave x1 R d = inr (CutOf-from x1 R d (three.0, step, three.1)) in
                      inr (settles d (own-bytes d left) (raised-valid d left) (raised-worse d left)))
                ]
          ]

      -- power is lost in the rewrite of the sector of the trial bit of an image that a normal boot does not take
      pub cut-first : mine c ≡ None → (k : ℕ) (step : Step) (d : Content) → IsCutAt c before k step d
          → LeavesNoAccidentalImage c z d cpu choice step → (taken d cpu u ≡ taken c cpu u) ⊎ TakesSettled d
      cut-first unheld k step d at no_accident = by_images (no_accident W (inl refl) inside).image
        where
          inside : IsConfined W step
          inside = all-there (IsConfined W) before k step confined at.stands

          same : SameButWindow W c d
          same = confined-CutOf c W before d confined (CutOf-from c before d (k, step, at))

          second : theirs d ≡ theirs c
          second = by_other choice.other refl
            where
              by_other : (o : Option Window) → choice.other ≡ o
                  → option_and_then (λ w. images_in d cpu w false) o ≡ option_and_then (λ w. images_in c cpu w false) o
              by_other None e = refl
              by_other (Some w) e =
                  ap result_ok (image-local d c w cpu false
                  (window_bytes-apart c d W w same.outside (others w e).1) same.rows)

          worse : Keeps c cpu choice → IsWorse m B (theirs d)
          worse k = by_image (theirs c) refl
            where
              by_window : (o : Option Window) → choice.other ≡ o → (t : Started)
                  → option_and_then (λ w. images_in c cpu w false) o ≡ Some t
                  → is_other_better m choice.image.version t.version ≡ false
              by_window None e t is = some-none None t is refl
              by_window (Some w) e t is = k.worse w t e (found-valid c cpu w false t is)

              by_image : (o : Option Started) → theirs c ≡ o → IsWorse m B (theirs d)
              by_image None is = no_image (second ∙ is)
              by_image (Some t) is = not_better t (second ∙ is) (by_window choice.other refl t is)

          by_known : (s : Started) → Valid d W cpu false s → IsSameImageIn c d W cpu s ⊎ IsSameImageIn z d W cpu s
              → (taken d cpu u ≡ taken c cpu u) ⊎ TakesSettled d
          by_known s v (inl former) = some-none (mine c) s (valid-found c cpu W false s former.valid) unheld
          by_known s v (inr later) =
              let is : s ≡ B = one-image in_flash W cpu false z.otp (window_bytes z W) s B later.valid (raised-valid z end) in
              let here : mine d ≡ Some B = valid-found d cpu W false s v ∙ ap Some is in
              elim (erase-cases c cpu choice updated) [
                | inl k ↦ inr (record {
                  here = takes-settled d here (worse k);
                  same = subst (λ (t : Started). SameImage d z t cpu) is later.same;
                })
                | inr e ↦
                    inl (other-taken d e
                    (second ∙ other-there c e.window e.other ∙ valid-found c cpu e.window false e.image e.valid)
                    (beaten B here e.better))
              ]

          by_images : HasNoImage d W cpu ⊎ ((s : Started) × IsKnownImage c z d W cpu s)
              → (taken d cpu u ≡ taken c cpu u) ⊎ TakesSettled d
          by_images (inl none) =
              inl (taken-by d None (theirs c) (none-found d cpu W none) second
              ∙ sym (taken-by c None (theirs c) unheld refl))
          by_images (inr known) = by_known known.0 known.1.valid known.1.known
