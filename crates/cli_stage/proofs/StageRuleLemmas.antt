-- `stage` is right by its rules.
use Rattle.std.proofs.Common.{◌≡◌, ◌≢◌, ◌↔◌, ℕ, ◌==◌, Bool, true, false, true≢false, cond, List, [], ◌∷◌, ◌++◌, length, take, Option, Some, None, Result, Ok, Err, codes, refl, sym, ap, ◌∙◌, subst, inl, inr, arith, length-take}
use Rattle.std.specs.Prelude.{⊤, ◌&&◌, nat_lt, slice_index}
use Rattle.std.proofs.lemmas.Bool.{eqb-true, eqb-false, ne_eqb, ltb-true, ltb-false, lt-ltb, le-ltb, le-leb, and_from, and_parts}
use Rattle.std.proofs.lemmas.Slice.Eq.{bytes_eq-Decides}
use Rattle.pico_board.specs.declared.boot.Cpu.{Cpu}
use Rattle.pico_board.specs.declared.window.Window.{Window}
use Rattle.pico_board.specs.Content.{Content}
use Rattle.part_table.specs.declared.target.Target.{Target}
use Rattle.block_loop.specs.Loop.{loop_of}
use Rattle.block_loop.specs.Offsets.{loop_offsets}
use Rattle.block_loop.proofs.ChainLemmas.{loop_of-loop}
use Rattle.image_def.specs.declared.started.Started.{Started}
use Rattle.image_check.specs.declared.why.Why.{Why}
use Rattle.image_check.specs.Addressing.{in_flash}
use Rattle.image_check.specs.Image.{image_in}
use Rattle.image_check.proofs.LawLemmas.{valid-exactly, why-exactly}
use Rattle.boot_rules.specs.Choosing.{boot_units_in}
use Rattle.script_stage.specs.Stages.{stage_text}
use Rattle.text_lines.specs.Faults.{why_text}
use Rattle.cli_course.specs.declared.status.Status.TheVariants.{Done, Input as Refused}
use Rattle.cli_course.specs.Outcomes.{Refuses, one_file, AnswerView, refused, worked}
use Rattle.cli_inputs.specs.Rules.{IsRefusedOrRight, IsByRules}
use Rattle.cli_inputs.proofs.WorkLemmas.{same-outcome}
use Rattle.cli_tools.specs.ToolWorks.{plan_target}
use Rattle.cli_stage.specs.Images.{elf_front, file_fault, first_page, has_front, is_lone, is_unit_window, uf2_front}
use Rattle.cli_stage.specs.StageRules.{Fits, HasLoneLoop, IsElfFile, IsImageFault, IsPlainImage, IsStageOf, IsStageRefused, IsUf2File, IsUnitWindow, written}
use Rattle.cli_stage.specs.StageWorks.{file_work, judged_work, stage_line, stage_work, target_work, window_work, written_work}
use Rattle.cli_stage.proofs.ImageLemmas.{first-page, first-there, lone-exactly}
use Rattle.cli_stage.proofs.UnitLemmas.{unit-exactly}

none-of : (xs : List ℕ) → length xs ≡ 0 → xs ≡ []
none-of [] h = refl
none-of (x ∷ xs) h = absurd (omega arith)

some-of : (xs : List ℕ) → length xs ≢ 0 → xs ≢ []
some-of xs h is = h (ap (λ (ys : List ℕ). length ys) is)

some-length : (xs : List ℕ) → xs ≢ [] → length xs ≢ 0
some-length xs h is = h (none-of xs is)

-- two answers to one question
one-answer : (P : Type 0) (a b : Bool) → (a ≡ true) ↔ P → (b ≡ true) ↔ P → a ≡ b
one-answer P true b p q = sym (q.1 (p.0 refl))
one-answer P false true p q = p.1 (q.0 refl)
one-answer P false false p q = refl

-- the first bytes of a file
front-is : (front xs : List ℕ) → has_front front xs ≡ true → take 4 xs ≡ front
front-is front xs h = (bytes_eq-Decides (take 4 xs) front).0 ((and_parts _ _ h).1)

is-front : (front xs : List ℕ) → length front ≡ 4 → take 4 xs ≡ front → has_front front xs ≡ true
is-front front xs four is =
    let long : length (take 4 xs) ≡ 4 = ap (λ (ys : List ℕ). length ys) is ∙ four in
    let most = length-take 4 xs in
    and_from _ _ (le-leb 4 (length xs) (omega (arith, long, most))) ((bytes_eq-Decides (take 4 xs) front).1 is)

apart : (xs : List ℕ) → take 4 xs ≡ uf2_front → take 4 xs ≡ elf_front → ⊥
apart xs one two =
    let e : 0x55 ≡ 0x7f = ap (λ ys. slice_index ys 0) (sym one ∙ two) in absurd (omega (arith, e))

-- a test that holds nowhere
not-true : (P : Type 0) (b : Bool) → (b ≡ true → P) → (P → ⊥) → b ≡ false
not-true P true is never = absurd (never (is refl))
not-true P false is never = refl

uf2-fault : (i : List ℕ) → IsUf2File i → file_fault i ≡ Some (codes "uf2-file")
uf2-fault i is =
    ap (λ t. cond t (Some (codes "uf2-file")) (cond (has_front elf_front i) (Some (codes "elf-file")) None))
    (is-front uf2_front i refl is)

elf-fault : (i : List ℕ) → IsElfFile i → file_fault i ≡ Some (codes "elf-file")
elf-fault i is =
    ap (λ t. cond t (Some (codes "uf2-file")) (cond (has_front elf_front i) (Some (codes "elf-file")) None))
    (not-true (IsUf2File i) _ (front-is uf2_front i) (λ u. apart i u is))
    ∙ ap (λ t. cond t (Some (codes "elf-file")) None) (is-front elf_front i refl is)

no-fault : (i : List ℕ) → (IsUf2File i → ⊥) → (IsElfFile i → ⊥) → file_fault i ≡ None
no-fault i u e =
    ap (λ t. cond t (Some (codes "uf2-file")) (cond (has_front elf_front i) (Some (codes "elf-file")) None))
    (not-true (IsUf2File i) _ (front-is uf2_front i) u)
    ∙ ap (λ t. cond t (Some (codes "elf-file")) None) (not-true (IsElfFile i) _ (front-is elf_front i) e)

module _ (image out i : List ℕ) (c : Content) (cpu : Cpu) where
  abbrev StageDone : AnswerView → Type 0
  StageDone o = IsRefusedOrRight (IsStageRefused c cpu image i) (IsStageOf c cpu i out) o

  named : (name fault text : List ℕ) → name ≡ image → fault ≡ text → refused image text ≡ refused name fault
  named name fault text is same = ap (λ n. refused n text) (sym is) ∙ ap (refused name) (sym same)

  -- the target decides
  by-target : (t : Option Target) → plan_target c cpu ≡ t
      → worked (stage_work c cpu image out i) ≡ worked (target_work c cpu image out i t)
  by-target t is = ap (λ (t : Option Target). worked (target_work c cpu image out i t)) is

  module _ (w : Window) where
    abbrev v : List ℕ
    v = written c w i

    abbrev image_there : Result Started Why
    image_there = image_in in_flash w cpu true c.otp v

    -- where the image fits, its first bytes decide, and then the image in the window
    by-file : Fits w i → worked (window_work c cpu image out i w) ≡ worked (file_work c cpu w image out i (file_fault i))
    by-file fits =
        ap (λ s. worked (cond s (Refuses image (codes "empty"))
        (cond (nat_lt w.len (length i)) (Refuses image (codes "past-window"))
        (file_work c cpu w image out i (file_fault i)))))
        (ne_eqb (length i) 0 (some-length i fits.some))
        ∙ ap (λ s. worked (cond s (Refuses image (codes "past-window"))
        (file_work c cpu w image out i (file_fault i))))
        (le-ltb w.len (length i) fits.few)

    by-fault : (f : Option (List ℕ)) → file_fault i ≡ f
        → worked (file_work c cpu w image out i (file_fault i)) ≡ worked (file_work c cpu w image out i f)
    by-fault f is = ap (λ f. worked (file_work c cpu w image out i f)) is

    by-image : (r : Result Started Why) → image_there ≡ r
        → worked (written_work c cpu w image out i v) ≡ worked (judged_work c cpu w image out i v r)
    by-image r is = ap (λ r. worked (judged_work c cpu w image out i v r)) is

    plain-work : IsPlainImage w i → (r : Result Started Why) → image_there ≡ r
        → worked (window_work c cpu image out i w) ≡ worked (judged_work c cpu w image out i v r)
    plain-work plain r is =
        by-file plain.fits ∙ by-fault None (no-fault i plain.no_uf2 plain.no_elf) ∙ by-image r is

    -- what is told of an image that starts there
    abbrev told : ℕ → Bool → Bool → AnswerView
    told page is_staged is_bought = record {
      status = Done;
      text = stage_line w (length i) is_staged;
      files = one_file out (stage_text w.start page is_bought i);
    }

    buys-exactly : (s : Started)
        → ((s.trial && is_unit_window w (boot_units_in c cpu)) ≡ true)
        ↔ ((s.trial ≡ true) × IsUnitWindow c cpu w)
    buys-exactly s = (
      λ h. let p = and_parts _ _ h in (p.0, (unit-exactly w (boot_units_in c cpu)).0 p.1),
      λ h. and_from _ _ h.0 ((unit-exactly w (boot_units_in c cpu)).1 h.1),
    )

    window-fault : (fault : List ℕ) → IsImageFault c cpu w i fault
        → worked (window_work c cpu image out i w) ≡ refused image fault
    window-fault fault (inl (empty, text)) =
        ap (λ (xs : List ℕ). worked (window_work c cpu image out xs w)) empty ∙ ap (refused image) (sym text)
    window-fault fault (inr (inl (long, text))) =
        let some : length i ≢ 0 = λ e. absurd (omega (arith, long, e)) in
        ap (λ s. worked (cond s (Refuses image (codes "empty"))
        (cond (nat_lt w.len (length i)) (Refuses image (codes "past-window"))
        (file_work c cpu w image out i (file_fault i)))))
        (ne_eqb (length i) 0 some)
        ∙ ap (λ s. worked (cond s (Refuses image (codes "past-window"))
        (file_work c cpu w image out i (file_fault i))))
        (lt-ltb w.len (length i) long)
        ∙ ap (refused image) (sym text)
    window-fault fault (inr (inr (inl (fits, is, text)))) =
        by-file fits ∙ by-fault (Some (codes "uf2-file")) (uf2-fault i is) ∙ ap (refused image) (sym text)
    window-fault fault (inr (inr (inr (inl (fits, is, text))))) =
        by-file fits ∙ by-fault (Some (codes "elf-file")) (elf-fault i is) ∙ ap (refused image) (sym text)
    window-fault fault (inr (inr (inr (inr (plain, why, is, text))))) =
        plain-work plain (Err why) ((why-exactly in_flash w cpu true c.otp v why).0 is)
        ∙ ap (refused image) (sym text)

    module _ (target : Target) (goes : plan_target c cpu ≡ Some target) (same : target.window ≡ w) where
      fault-done : (fault : List ℕ) → IsImageFault c cpu w i fault → StageDone (refused image fault)
      fault-done fault is =
          inl (
            image,
            fault,
            (refl, inr (target, goes, subst (λ x. IsImageFault c cpu x i fault) (sym same) is)),
            refl,
          )

  -- in the target's window
  module _ (target : Target) (goes : plan_target c cpu ≡ Some target) where
    judged-done : IsPlainImage target.window i → (r : Result Started Why) → image_there target.window ≡ r
        → StageDone (worked (judged_work c cpu target.window image out i (v target.window) r))
    judged-done plain (Ok s) is =
        let w = target.window in
        let valid = (valid-exactly in_flash w cpu true c.otp (v w) s).1 is in
        let loop = valid.sound.loop in
        let closes : loop_of (v w) ≡ Ok loop = loop_of-loop (v w) loop valid.sound.defined.closes in
        let first = first-there (v w) loop closes in
        inr (record {
          target = target;
          goes = goes;
          plain = plain;
          started = s;
          valid = valid;
          first = first.0;
          begins = first.1;
          is_staged = is_lone (v w) (loop_offsets (loop_of (v w)));
          order = lone-exactly (v w) loop closes;
          is_bought = s.trial && is_unit_window w (boot_units_in c cpu);
          buys = buys-exactly w s;
          status = refl;
          text = refl;
          files = ap (λ page. one_file out
              (stage_text w.start page (s.trial && is_unit_window w (boot_units_in c cpu)) i))
              (first-page (v w) loop first.0 closes first.1);
        })
    judged-done plain (Err why) is =
        let w = target.window in
        fault-done w target goes refl (codes "not-bootable " ++ why_text why)
        (inr (inr (inr (inr (plain, why, (why-exactly in_flash w cpu true c.otp (v w) why).1 is, refl)))))

    file-done : Fits target.window i → StageDone (worked (file_work c cpu target.window image out i (file_fault i)))
    file-done fits = by-uf2 (has_front uf2_front i) refl
      where
        by-elf : (IsUf2File i → ⊥) → (t : Bool) → has_front elf_front i ≡ t
            → StageDone (worked (file_work c cpu target.window image out i
            (cond t (Some (codes "elf-file")) None)))
        by-elf never true is =
            fault-done target.window target goes refl (codes "elf-file")
            (inr (inr (inr (inl (fits, front-is elf_front i is, refl)))))
        by-elf never false is =
            let elf : IsElfFile i → ⊥ = λ e. true≢false (sym (is-front elf_front i refl e) ∙ is) in
            judged-done (record { fits = fits; no_uf2 = never; no_elf = elf }) (image_there target.window) refl

        by-uf2 : (t : Bool) → has_front uf2_front i ≡ t
            → StageDone (worked (file_work c cpu target.window image out i
            (cond t (Some (codes "uf2-file")) (cond (has_front elf_front i) (Some (codes "elf-file")) None))))
        by-uf2 true is =
            fault-done target.window target goes refl (codes "uf2-file")
            (inr (inr (inl (fits, front-is uf2_front i is, refl))))
        by-uf2 false is =
            by-elf (λ u. true≢false (sym (is-front uf2_front i refl u) ∙ is)) (has_front elf_front i) refl

    window-done : StageDone (worked (window_work c cpu image out i target.window))
    window-done = go (length i == 0) refl
      where
        fits : (t : Bool) → nat_lt target.window.len (length i) ≡ t → length i ≢ 0
            → StageDone (worked (cond t (Refuses image (codes "past-window"))
            (file_work c cpu target.window image out i (file_fault i))))
        fits true is some =
            fault-done target.window target goes refl (codes "past-window")
            (inr (inl (ltb-true target.window.len (length i) is, refl)))
        fits false is some =
            file-done (record { some = some-of i some; few = ltb-false target.window.len (length i) is })

        go : (t : Bool) → (length i == 0) ≡ t
            → StageDone (worked (cond t (Refuses image (codes "empty"))
            (cond (nat_lt target.window.len (length i)) (Refuses image (codes "past-window"))
            (file_work c cpu target.window image out i (file_fault i)))))
        go true is =
            fault-done target.window target goes refl (codes "empty")
            (inl (none-of i (eqb-true (length i) 0 is), refl))
        go false is = fits (nat_lt target.window.len (length i)) refl (eqb-false (length i) 0 is)

  stage-done : StageDone (worked (stage_work c cpu image out i))
  stage-done = go (plan_target c cpu) refl
    where
      go : (t : Option Target) → plan_target c cpu ≡ t → StageDone (worked (target_work c cpu image out i t))
      go None none = inl (image, codes "no-target", (refl, inl (none, refl)), refl)
      go (Some target) goes = window-done target goes

  stage-exact : (name fault : List ℕ) → IsStageRefused c cpu image i name fault
      → worked (stage_work c cpu image out i) ≡ refused name fault
  stage-exact name fault (is, inl (none, text)) = by-target None none ∙ named name fault (codes "no-target") is text
  stage-exact name fault (is, inr (target, goes, wrong)) =
      by-target (Some target) goes ∙ window-fault target.window fault wrong ∙ named name fault fault is refl

  stage-only : (o : AnswerView) → IsStageOf c cpu i out o → o ≡ worked (stage_work c cpu image out i)
  stage-only o right =
      let w = right.target.window in
      let loop = right.valid.sound.loop in
      let closes : loop_of (v w) ≡ Ok loop = loop_of-loop (v w) loop right.valid.sound.defined.closes in
      let units = boot_units_in c cpu in
      let buys : right.is_bought ≡ (right.started.trial && is_unit_window w units) =
      one-answer _ right.is_bought _ right.buys (buys-exactly w right.started) in
      let order : right.is_staged ≡ is_lone (v w) (loop_offsets (loop_of (v w))) =
      one-answer (HasLoneLoop (v w)) right.is_staged _ right.order (lone-exactly (v w) loop closes) in
      same-outcome o Done _ _ right.status right.text right.files
      ∙ ap (λ page. told w page right.is_staged right.is_bought)
      (sym (first-page (v w) loop right.first closes right.begins))
      ∙ ap (λ b. told w (first_page (loop_offsets (loop_of (v w)))) b right.is_bought) order
      ∙ ap (λ b. told w (first_page (loop_offsets (loop_of (v w)))) (is_lone (v w) (loop_offsets (loop_of (v w)))) b) buys
      ∙ sym (by-target (Some right.target) right.goes
      ∙ plain-work w right.plain (Ok right.started)
      ((valid-exactly in_flash w cpu true c.otp (v w) right.started).0 right.valid))

  stage-refuses : (worked (stage_work c cpu image out i)).status ≡ Refused
      → (name : List ℕ) × (fault : List ℕ) × IsStageRefused c cpu image i name fault
  stage-refuses h = go stage-done
    where
      go : StageDone (worked (stage_work c cpu image out i))
          → (name : List ℕ) × (fault : List ℕ) × IsStageRefused c cpu image i name fault
      go (inl (name, fault, refuses, is)) = (name, fault, refuses)
      go (inr right) = let e : Done ≡ Refused = sym right.status ∙ h in cc

-- `stage` is right by its rules
pub stage-works : (image out i : List ℕ) (c : Content) (cpu : Cpu)
    → IsByRules ⊤ (stage_work c cpu image out i) (IsStageRefused c cpu image i) (IsStageOf c cpu i out)
stage-works image out i c cpu = record {
  done = λ need. stage-done image out i c cpu;
  only = stage-only image out i c cpu;
  refuses = stage-refuses image out i c cpu;
  exact = stage-exact image out i c cpu;
}
