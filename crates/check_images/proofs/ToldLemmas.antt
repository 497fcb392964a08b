-- What is told of the images by the functions is what the rules name, and nothing else is.
use Rattle.std.proofs.Common.{◌≡◌, ◌⊎◌, ◌∙◌, ◌↔◌, ℕ, zero, suc, ◌<◌, ◌==◌, Bool, true, false, cond, List, [], ◌∷◌, Option, Some, None, Result, Ok, Err, slice_get, inl, inr, refl, sym, ap, subst, arith}
use Rattle.std.specs.Prelude.{IsSome, is_some}
use Rattle.std.specs.List.{filter_map}
use Rattle.pico_board.specs.declared.boot.Cpu.{Cpu}
use Rattle.pico_board.specs.declared.boot.BootKind.TheVariants.{Normal}
use Rattle.pico_board.specs.declared.window.Window.{Window}
use Rattle.pico_board.specs.Content.{Content, window_bytes}
use Rattle.block_codec.specs.declared.definition.Def.{Def}
use Rattle.image_def.specs.declared.started.Started.{Started}
use Rattle.image_check.specs.declared.examining.Defined.{Defined}
use Rattle.image_check.specs.declared.why.Why.{Why}
use Rattle.image_check.specs.Addressing.{in_flash}
use Rattle.image_check.specs.Image.{defined_in, image_at}
use Rattle.image_check.specs.Valid.{Valid}
use Rattle.image_check.specs.WhyNot.{WhyNot}
use Rattle.image_check.proofs.LawLemmas.{at-valid, not-both, one-image, one-reason, valid-at, valid-window, why-exactly}
use Rattle.image_check.proofs.SameLemmas.{held-image}
use Rattle.slot_choice.specs.declared.choice.Choice.{Choice}
use Rattle.boot_rules.specs.declared.decision.Decision.{Decision}
use Rattle.boot_rules.specs.declared.decision.Decision.TheVariants.{Start, Bootsel}
use Rattle.boot_rules.specs.declared.decision.Fall.{Fall}
use Rattle.boot_rules.specs.Choosing.{decision_in}
use Rattle.boot_rules.specs.Chosen.{Chosen}
use Rattle.boot_cuts.specs.Classes.{Falls}
use Rattle.boot_rules.proofs.DecisionLemmas.{chosen-once, decision-chosen}
use Rattle.boot_session.proofs.ConfinedLaws.{normal-valid}
use Rattle.boot_firm.specs.Firmness.{is_firm}
use Rattle.boot_firm.proofs.FirmnessLemmas.{firm-answered, firm-decides}
use Rattle.boot_sweep.specs.Firms.{Firm, IsFirm}
use Rattle.boot_sweep.specs.Moving.{MoveView}
use Rattle.boot_tape.specs.declared.notes.Doer.{Doer}
use Rattle.boot_tape.specs.declared.notes.Doer.TheVariants as doers
use Rattle.check_require.specs.declared.report.Writer.{Writer}
use Rattle.check_require.specs.declared.report.Writer.TheVariants as writers
use Rattle.check_images.specs.declared.found.Hashed.{Hashed}
use Rattle.check_images.specs.declared.found.Hashed.TheVariants.{Yes, Bare, No}
use Rattle.check_images.specs.declared.found.ImageFacts.{ImageFacts}
use Rattle.check_images.specs.declared.found.JudgedWindow.{JudgedWindow}
use Rattle.check_images.specs.declared.found.Loss.{Loss}
use Rattle.check_images.specs.declared.found.Loss.TheVariants.{NoUnit, Fault}
use Rattle.check_images.specs.declared.found.LostWindow.{LostWindow}
use Rattle.check_images.specs.declared.found.WrittenWindow.{WrittenWindow}
use Rattle.check_images.specs.Boots.{after_boot}
use Rattle.check_images.specs.Images.{IsHashed, IsImageOf, IsJudged}
use Rattle.check_images.specs.Lines.{AreLinesOf}
use Rattle.check_images.specs.Lost.{AreLost, BeginsWith, IsKept, IsLoss, IsLost, IsOfStartingUnit, IsValidIn}
use Rattle.check_images.specs.Losing.{lost_line}
use Rattle.check_images.specs.Members.{members_in}
use Rattle.check_images.specs.Starting.{IsFallback, IsStart}
use Rattle.check_images.specs.Told.{facts_of, fallback_by, fallback_told, hash_in, hash_of, image_told, judged_on, lost_told, start_by, start_told, told_by, written_by, written_told}
use Rattle.check_images.specs.Written.{AreWritten, HasWritten, IsWriter, IsWritten, writer_of}
use Rattle.check_images.proofs.ImageLemmas.{facts-are, held-of}
use Rattle.check_images.proofs.LineLemmas.{lines-by, lines-once}
use Rattle.check_images.proofs.LostLemmas.{lost-is}
use Rattle.check_images.proofs.WriterLemmas.{writer-is}

-- whether a definition has a digest
hashed-is : (def : Def) → IsHashed def (hash_of def)
hashed-is def = go def.digest refl def.map_item refl
  where
    go : (a : Option _) → def.digest ≡ a → (b : Option _) → def.map_item ≡ b
        → IsHashed def (cond (is_some def.digest) (cond (is_some def.map_item) Yes Bare) No)
    go (Some a) is (Some b) at =
        subst (λ h. IsHashed def h)
        (sym (ap (λ x. cond (is_some x) (cond (is_some def.map_item) Yes Bare) No) is
        ∙ ap (λ y. cond (is_some y) Yes Bare) at))
        (ap (λ x. is_some x) is, ap (λ y. is_some y) at)
    go (Some a) is None at =
        subst (λ h. IsHashed def h)
        (sym (ap (λ x. cond (is_some x) (cond (is_some def.map_item) Yes Bare) No) is
        ∙ ap (λ y. cond (is_some y) Yes Bare) at))
        (ap (λ x. is_some x) is, at)
    go None is b at =
        subst (λ h. IsHashed def h)
        (sym (ap (λ x. cond (is_some x) (cond (is_some def.map_item) Yes Bare) No) is)) is

none-is : {A : Type 0} (o : Option A) → o ≡ None → IsSome o → ⊥
none-is None e some = cc
none-is (Some a) e some = cc

hashed-once : (def : Def) (a b : Hashed) → IsHashed def a → IsHashed def b → a ≡ b
hashed-once def Yes Yes x y = refl
hashed-once def Bare Bare x y = refl
hashed-once def No No x y = refl
hashed-once def Yes Bare x y = absurd (none-is def.map_item y.1 x.1)
hashed-once def Bare Yes x y = absurd (none-is def.map_item x.1 y.1)
hashed-once def Yes No x y = absurd (none-is def.digest y x.0)
hashed-once def No Yes x y = absurd (none-is def.digest x y.0)
hashed-once def Bare No x y = absurd (none-is def.digest y x.0)
hashed-once def No Bare x y = absurd (none-is def.digest x y.0)

-- of a valid image the function tells what the rules do
pub facts-is : (c : Content) (w : Window) (cpu : Cpu) (trial : Bool) (s : Started) → Valid c w cpu trial s
    → IsImageOf c w cpu trial (facts_of cpu (window_bytes c w) s)
facts-is c w cpu trial s v =
    let held = held-of c w cpu trial s v in
    let there : Ok v.image ≡ defined_in cpu (window_bytes c w) = sym (held-image cpu (window_bytes c w) s held) in
    facts-are c w cpu trial s v v.image there (facts_of cpu (window_bytes c w) s) refl refl refl
    (subst (λ (r : Result Defined Why). IsHashed v.image.def (hash_in r)) there (hashed-is v.image.def))
    (firm-decides cpu (window_bytes c w) s held)

facts-once : (c : Content) (w : Window) (cpu : Cpu) (trial : Bool) (a b : ImageFacts) → IsImageOf c w cpu trial a
    → IsImageOf c w cpu trial b → a ≡ b
facts-once c w cpu trial a b x y =
    let same : x.image ≡ y.image = one-image in_flash w cpu trial c.otp (window_bytes c w) x.image y.image x.valid y.valid in
    let one = held-image cpu (window_bytes c w) x.image (held-of c w cpu trial x.image x.valid) in
    let two = held-image cpu (window_bytes c w) y.image (held-of c w cpu trial y.image y.valid) in
    let define : x.valid.image ≡ y.valid.image = same-ok x.valid.image y.valid.image _ one two in
    parts a b
    (x.version_is ∙ (ap (λ (s : Started). s.version) same ∙ sym y.version_is))
    (x.rollback_is ∙ (ap (λ (s : Started). s.rollback) same ∙ sym y.rollback_is))
    (x.trial_is ∙ (ap (λ (s : Started). s.trial) same ∙ sym y.trial_is))
    (hashed-once y.valid.image.def a.hash b.hash (subst (λ (d : Defined). IsHashed d.def a.hash) define x.hash_is) y.hash_is)
    (firm-once a.firm b.firm
    (subst (λ (s : Started). (a.firm ≡ true) ↔ Firm c w cpu s) same x.firm_is) y.firm_is)
  where
    same-ok : (a b : Defined) (r : Result Defined Why) → r ≡ Ok a → r ≡ Ok b → a ≡ b
    same-ok a b r e f = cc

    firm-once : {P : Type 0} (p q : Bool) → ((p ≡ true) ↔ P) → ((q ≡ true) ↔ P) → p ≡ q
    firm-once true true h k = refl
    firm-once false false h k = refl
    firm-once true false h k = sym (k.1 (h.0 refl))
    firm-once false true h k = h.1 (k.0 refl)

    parts : (a b : ImageFacts) → a.version ≡ b.version → a.rollback ≡ b.rollback → a.trial ≡ b.trial
        → a.hash ≡ b.hash → a.firm ≡ b.firm → a ≡ b
    parts a b e f g h k =
        let made : _ → _ → Bool → Hashed → Bool → ImageFacts = λ v r t x y. record {
          version = v;
          rollback = r;
          trial = t;
          hash = x;
          firm = y;
        } in
        ap (λ v. made v a.rollback a.trial a.hash a.firm) e
        ∙ (ap (λ r. made b.version r a.trial a.hash a.firm) f
        ∙ (ap (λ t. made b.version b.rollback t a.hash a.firm) g
        ∙ (ap (λ x. made b.version b.rollback b.trial x a.firm) h
        ∙ ap (λ y. made b.version b.rollback b.trial b.hash y) k)))

-- the image of a window by the function is the one that is told
pub told-judged : (c : Content) (w : Window) (cpu : Cpu) (trial : Bool) → IsJudged c w cpu trial (image_told c w cpu trial)
told-judged c w cpu trial = go (image_at c w cpu trial) refl
  where
    go : (r : Result Started Why) → image_at c w cpu trial ≡ r
        → IsJudged c w cpu trial (told_by cpu (window_bytes c w) (image_at c w cpu trial))
    go (Ok s) is =
        subst (λ (r : Result Started Why). IsJudged c w cpu trial (told_by cpu (window_bytes c w) r)) (sym is)
        (facts-is c w cpu trial s (valid-at c w cpu trial s is))
    go (Err why) is =
        subst (λ (r : Result Started Why). IsJudged c w cpu trial (told_by cpu (window_bytes c w) r)) (sym is)
        ((why-exactly in_flash w cpu trial c.otp (window_bytes c w) why).1 is)

pub judged-once : (c : Content) (w : Window) (cpu : Cpu) (trial : Bool) (a b : Result ImageFacts Why)
    → IsJudged c w cpu trial a → IsJudged c w cpu trial b → a ≡ b
judged-once c w cpu trial (Ok a) (Ok b) x y = ap (λ (f : ImageFacts). Ok f) (facts-once c w cpu trial a b x y)
judged-once c w cpu trial (Err a) (Err b) x y =
    ap (λ (e : Why). Err e) (one-reason in_flash w cpu trial c.otp (window_bytes c w) a b x y)
judged-once c w cpu trial (Ok a) (Err b) x y =
    absurd (not-both in_flash w cpu trial c.otp (window_bytes c w) x.image b x.valid y)
judged-once c w cpu trial (Err a) (Ok b) x y =
    absurd (not-both in_flash w cpu trial c.otp (window_bytes c w) y.image a y.valid x)

-- what starts
fall-start : {P : Type 0} (fall : Fall) (choice : Choice) → Bootsel fall ≡ Start choice → P
fall-start fall choice e = cc

same-choice : (a b : Choice) → Start a ≡ Start b → a ≡ b
same-choice a b e = cc

pub start-is : (z : Content) (cpu : Cpu) → IsStart z cpu (start_told z cpu)
start-is z cpu = go (decision_in z cpu Normal) (decision-chosen z cpu Normal)
  where
    go : (d : Decision) → Chosen z cpu Normal d → IsStart z cpu (start_by z cpu d)
    go (Start choice) chosen = record {
      choice = choice;
      chosen = chosen;
      image = facts-is z choice.image.window cpu false choice.image (normal-valid z cpu choice chosen);
    }
    go (Bootsel fall) chosen = record { fall = fall; here = chosen }

pub start-once : (z : Content) (cpu : Cpu) (a b : Option ImageFacts) → IsStart z cpu a → IsStart z cpu b → a ≡ b
start-once z cpu None None x y = refl
start-once z cpu (Some a) (Some b) x y =
    let same = same-choice x.choice y.choice (chosen-once z cpu Normal (Start x.choice) (Start y.choice) x.chosen y.chosen) in
    ap (λ (f : ImageFacts). Some f)
    (facts-once z y.choice.image.window cpu false a b
    (subst (λ (k : Choice). IsImageOf z k.image.window cpu false a) same x.image) y.image)
start-once z cpu None (Some b) x y =
    fall-start x.fall y.choice (chosen-once z cpu Normal (Bootsel x.fall) (Start y.choice) x.here y.chosen)
start-once z cpu (Some a) None x y =
    fall-start y.fall x.choice (chosen-once z cpu Normal (Bootsel y.fall) (Start x.choice) y.here x.chosen)

-- what there is to fall back on
pub fallback-is : (z : Content) (cpu : Cpu) → IsFallback z cpu (fallback_told z cpu)
fallback-is z cpu = go (decision_in z cpu Normal) (decision-chosen z cpu Normal)
  where
    by-other : (choice : Choice) → Chosen z cpu Normal (Start choice) → (o : Option Window) → choice.other ≡ o
        → IsFallback z cpu (judged_on (after_boot z cpu) cpu o)
    by-other choice chosen None is = λ other here.
        let same = same-choice other choice (chosen-once z cpu Normal (Start other) (Start choice) here chosen) in
        ap (λ (k : Choice). k.other) same ∙ is
    by-other choice chosen (Some w) is = record {
      choice = choice;
      chosen = chosen;
      other = is;
      image = told-judged (after_boot z cpu) w cpu false;
    }

    go : (d : Decision) → Chosen z cpu Normal d → IsFallback z cpu (fallback_by (after_boot z cpu) cpu d)
    go (Start choice) chosen = by-other choice chosen choice.other refl
    go (Bootsel fall) chosen = λ choice here.
        fall-start fall choice (chosen-once z cpu Normal (Bootsel fall) (Start choice) chosen here)

some-none : {X P : Type 0} (o : Option X) (x : X) → o ≡ Some x → o ≡ None → P
some-none o x e f = cc

same-some : {X : Type 0} (o : Option X) (x y : X) → o ≡ Some x → o ≡ Some y → x ≡ y
same-some o x y e f = cc

pub fallback-once : (z : Content) (cpu : Cpu) (a b : Option JudgedWindow) → IsFallback z cpu a → IsFallback z cpu b → a ≡ b
fallback-once z cpu None None x y = refl
fallback-once z cpu None (Some b) x y = some-none y.choice.other b.window y.other (x y.choice y.chosen)
fallback-once z cpu (Some a) None x y = some-none x.choice.other a.window x.other (y x.choice x.chosen)
fallback-once z cpu (Some a) (Some b) x y =
    let same = same-choice x.choice y.choice (chosen-once z cpu Normal (Start x.choice) (Start y.choice) x.chosen y.chosen) in
    let here : a.window ≡ b.window =
    same-some y.choice.other a.window b.window (sym (ap (λ (k : Choice). k.other) same) ∙ x.other) y.other in
    let image : a.image ≡ b.image =
    judged-once (after_boot z cpu) b.window cpu false a.image b.image
    (subst (λ w. IsJudged (after_boot z cpu) w cpu false a.image) here x.image) y.image in
    ap (λ (l : JudgedWindow). Some l) (parts a b here image)
  where
    parts : (a b : JudgedWindow) → a.window ≡ b.window → a.image ≡ b.image → a ≡ b
    parts a b e f =
        ap (λ w. record { window = w; image = a.image }) e ∙ ap (λ r. record { window = b.window; image = r }) f

-- the windows that were written
module _ (z : Content) (cpu : Cpu) (moves : List MoveView) (by : List Doer) where
  line-is : (w : Window) → IsWritten z cpu moves by w (written_by z cpu w (writer_of moves by w))
  line-is w = go (writer_of moves by w) (writer-is moves by w)
    where
      go : (o : Option Writer) → IsWriter moves by w o → IsWritten z cpu moves by w (written_by z cpu w o)
      go None is = is
      go (Some by_) is = (refl, is, told-judged z w cpu true)

  pub written-are : AreWritten z cpu moves by (written_told z cpu moves by)
  written-are =
      lines-by (IsWritten z cpu moves by) (λ w. written_by z cpu w (writer_of moves by w)) line-is (members_in z cpu)

  none-writes : (w : Window) (x : Writer) → IsWriter moves by w (Some x) → IsWriter moves by w None → ⊥
  none-writes w writers.Script is none = none doers.Host is
  none-writes w writers.Boot is none = none doers.Boot is.1
  none-writes w writers.Buy is none = none doers.Buy is.2

  writer-once : (w : Window) (a b : Writer) → IsWriter moves by w (Some a) → IsWriter moves by w (Some b) → a ≡ b
  writer-once w writers.Script writers.Script x y = refl
  writer-once w writers.Boot writers.Boot x y = refl
  writer-once w writers.Buy writers.Buy x y = refl
  writer-once w writers.Script writers.Boot x y = absurd (y.0 x)
  writer-once w writers.Boot writers.Script x y = absurd (x.0 y)
  writer-once w writers.Script writers.Buy x y = absurd (y.0 x)
  writer-once w writers.Buy writers.Script x y = absurd (x.0 y)
  writer-once w writers.Boot writers.Buy x y = absurd (y.1 x.1)
  writer-once w writers.Buy writers.Boot x y = absurd (x.1 y.1)

  line-once : (w : Window) (a b : Option WrittenWindow) → IsWritten z cpu moves by w a → IsWritten z cpu moves by w b → a ≡ b
  line-once w None None x y = refl
  line-once w None (Some b) x y = absurd (none-writes w b.by y.1 x)
  line-once w (Some a) None x y = absurd (none-writes w a.by x.1 y)
  line-once w (Some a) (Some b) x y =
      ap (λ (l : WrittenWindow). Some l)
      (parts a b (x.0 ∙ sym y.0) (writer-once w a.by b.by x.1 y.1) (judged-once z w cpu true a.image b.image x.2 y.2))
    where
      parts : (a b : WrittenWindow) → a.window ≡ b.window → a.by ≡ b.by → a.image ≡ b.image → a ≡ b
      parts a b e f g =
          ap (λ v. record { window = v; by = a.by; image = a.image }) e
          ∙ (ap (λ x. record { window = b.window; by = x; image = a.image }) f
          ∙ ap (λ r. record { window = b.window; by = b.by; image = r }) g)

  pub written-once : (a b : List WrittenWindow) → AreWritten z cpu moves by a → AreWritten z cpu moves by b → a ≡ b
  written-once a b x y = lines-once (IsWritten z cpu moves by) line-once (members_in z cpu) a b x y

-- the images that are lost
module _ (c z : Content) (cpu : Cpu) where
  pub told-lost : AreLost c z cpu (lost_told c z cpu)
  told-lost =
      lines-by (IsLost c z cpu) (lost_line c (members_in z cpu) (after_boot z cpu) cpu (decision_in z cpu Normal))
      (λ w. lost-is c z cpu (decision_in z cpu Normal) (decision-chosen z cpu Normal) w) (members_in c cpu)

  begins-once : (w v u : Window) → BeginsWith z cpu w v → BeginsWith z cpu w u → v ≡ u
  begins-once w v u x y = same-some (slice_get (members_in z cpu) y.place) v u (subst (λ k. slice_get (members_in z cpu) k ≡ Some v) (places x.place y.place (λ lt. y.first x.place v lt x.member x.begins) (λ lt. x.first y.place u lt y.member y.begins)) x.member) y.member
    where
      places : (j k : ℕ) → (j < k → ⊥) → (k < j → ⊥) → j ≡ k
      places j k one two = omega (arith, one, two)

  kept-lost : (w : Window) (loss : Loss) → IsKept z cpu w → IsLoss z cpu w loss → ⊥
  kept-lost w NoUnit kept lost = lost kept.0 kept.1
  kept-lost w (Fault why) kept lost =
      go (subst (λ v. IsOfStartingUnit z cpu v ⊎ IsValidIn (after_boot z cpu) cpu v)
      (begins-once w kept.0 lost.0 kept.1 lost.1) kept.2)
    where
      go : IsOfStartingUnit z cpu lost.0 ⊎ IsValidIn (after_boot z cpu) cpu lost.0 → ⊥
      go (inl of) = lost.2 of
      go (inr valid) =
          not-both in_flash lost.0 cpu false (after_boot z cpu).otp (window_bytes (after_boot z cpu) lost.0) valid.0 why
          valid.1 lost.3

  loss-once : (w : Window) (a b : Loss) → IsLoss z cpu w a → IsLoss z cpu w b → a ≡ b
  loss-once w NoUnit NoUnit x y = refl
  loss-once w NoUnit (Fault why) x y = absurd (x y.0 y.1)
  loss-once w (Fault why) NoUnit x y = absurd (y x.0 x.1)
  loss-once w (Fault why) (Fault other) x y =
      ap (λ (e : Why). Fault e)
      (one-reason in_flash y.0 cpu false (after_boot z cpu).otp (window_bytes (after_boot z cpu) y.0) why other
      (subst (λ v. WhyNot (after_boot z cpu) v cpu false why) (begins-once w x.0 y.0 x.1 y.1) x.3) y.3)

  lost-line-once : (w : Window) (a b : Option LostWindow) → IsLost c z cpu w a → IsLost c z cpu w b → a ≡ b
  lost-line-once w None None x y = refl
  lost-line-once w None (Some b) x y = absurd (kept-lost w b.loss (x y.1) y.2)
  lost-line-once w (Some a) None x y = absurd (kept-lost w a.loss (y x.1) x.2)
  lost-line-once w (Some a) (Some b) x y =
      ap (λ (l : LostWindow). Some l) (parts a b (x.0 ∙ sym y.0) (loss-once w a.loss b.loss x.2 y.2))
    where
      parts : (a b : LostWindow) → a.window ≡ b.window → a.loss ≡ b.loss → a ≡ b
      parts a b e f =
          ap (λ v. record { window = v; loss = a.loss }) e ∙ ap (λ l. record { window = b.window; loss = l }) f

  pub lost-once : (a b : List LostWindow) → AreLost c z cpu a → AreLost c z cpu b → a ≡ b
  lost-once a b x y = lines-once (IsLost c z cpu) lost-line-once (members_in c cpu) a b x y
