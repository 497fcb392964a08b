-- A stage leaves what a plan leaves, and where it says so it is staged.
use Rattle.std.proofs.Common.{◌≡◌, inl, inr, ℕ, ◌+◌, ◌-◌, ◌*◌, ◌/◌, ◌<◌, ◌≤◌, true, List, [], ◌∷◌, ◌++◌, length, drop, get_or, replicate, Ok, Result, refl, sym, ap, ◌∙◌, subst, arith}
use Rattle.std.specs.List.{AllByRecursion}
use Rattle.std.proofs.lemmas.Bool.{cases_lt}
use Rattle.std.proofs.lemmas.List.{get_or_past}
use Rattle.pico_board.specs.declared.Step.TheVariants.{Program}
use Rattle.pico_board.specs.declared.boot.Cpu.{Cpu}
use Rattle.pico_board.specs.declared.window.Window.{Window}
use Rattle.pico_board.specs.Content.{Content, IsContent, window_bytes}
use Rattle.pico_board.specs.Sessions.{Gated}
use Rattle.pico_board.specs.Steps.{after_all}
use Rattle.pico_board.proofs.ConfinementLemmas.{confined-after_all}
use Rattle.part_table.specs.declared.table.Right.TheVariants.{BootWrite}
use Rattle.part_table.specs.Rights.{allowed_by}
use Rattle.block_codec.specs.Blocks.{BlockAt, BlockView}
use Rattle.block_codec.proofs.AtLemmas.{BlockAt-first_byte}
use Rattle.block_loop.specs.Loop.{IsFirstBlock, IsLoop}
use Rattle.picoboot_cmd.specs.WellFormed.{MayWrite}
use Rattle.boot_script.specs.declared.event.ScriptFault.{ScriptFault}
use Rattle.boot_script.specs.Events.{EventView}
use Rattle.boot_script.specs.Scripts.{events}
use Rattle.image_check.specs.Addressing.{in_flash}
use Rattle.image_check.specs.Valid.{IsValidImage}
use Rattle.boot_rules.specs.Tables.{table_in}
use Rattle.boot_machine.specs.Serving.{table_of_found}
use Rattle.boot_sweep.specs.Firms.{HasNoOtherBlock}
use Rattle.script_plan.specs.Plans.{IsPlanned, in_sectors}
use Rattle.script_stage.specs.Stages.{stage_events, stage_text}
use Rattle.script_stage.specs.Written.{written_window}
use Rattle.image_pack.specs.Filling.{round_up, whole_sectors}
use Rattle.boot_session.specs.Sessions.{IsSlotOf, session}
use Rattle.boot_session.proofs.PlanServedLemmas.{Known}
use Rattle.boot_session.proofs.PlanSlotLemmas.{IsSlot, slot-is}
use Rattle.law_plans.specs.Written.{plan_steps, planned, whole_pages}
use Rattle.law_plans.proofs.PlanByteLemmas.{plan-writes}
use Rattle.law_plans.proofs.PlannedLemmas.{length-pages, length-written, planned-erased, planned-image, sectors-of-pages}
use Rattle.cli_stage.specs.StageRules.{IsStageOf, written}
use Rattle.check_laws.specs.Staged.{IsOffPage, Staged}
use Rattle.law_staged.specs.StagedPlans.{stage_steps}
use Rattle.law_staged.proofs.StageByteLemmas.{stage-plan}
use Rattle.law_staged.proofs.StageStepLemmas.{front, front-off, last_bytes, session-steps, steps-gated, steps-last}

same-ok : (xs ys : List EventView) → ◌≡◌ {A = Result (List EventView) ScriptFault} (Ok xs) (Ok ys) → xs ≡ ys
same-ok xs ys e = cc

-- the window that a stage leaves is the one that a plan leaves
pub written-planned : (image old : List ℕ) → written_window image old ≡ planned image old
written-planned image old =
    let n = length image in
    let pages = whole_pages image in
    let filled : in_sectors n ≡ round_up 4096 (length pages) =
    sym (ap (round_up 4096) (length-pages image) ∙ sectors-of-pages n) in
    let end : in_sectors n ≡ length (whole_sectors pages) = sym (length-written image) in
    ap (λ m. (pages ++ replicate (m - length pages) 255) ++ drop (in_sectors n) old) filled
    ∙ ap (λ m. whole_sectors pages ++ drop m old) end

-- a block that begins in the first sector of what is left begins in the image
pub begins-inside : (image old : List ℕ) (x : ℕ) (b : BlockView) → 0 < length image → x < 4096
    → BlockAt (written_window image old) x b → x < length image
begins-inside image old x b some low at =
    elim (cases_lt x (length image)) [
      | inl inside ↦ inside
      | inr past ↦
          let first : get_or (planned image old) x 0 ≡ 0xd3 =
          BlockAt-first_byte (planned image old) x b (subst (λ v. BlockAt v x b) (written-planned image old) at) in
          elim (cases_lt x (length (whole_pages image))) [
            | inl filled ↦
                let none : get_or (planned image old) x 0 ≡ 0 =
                planned-image image old x filled ∙ get_or_past image x 0 past in
                absurd (omega (arith, first, none))
            | inr behind ↦
                let long = length-written image in
                let blank = planned-erased image old x behind (omega (arith, some, low, long)) in
                absurd (omega (arith, first, blank))
          ]
    ]

-- what the law on the events of a stage says
abbrev pub KnownStage : Type 0
KnownStage = (w : Window) (image : List ℕ) (page : ℕ) (is_bought : _) → IsPlanned w → length image ≤ w.len
    → events (stage_text w.start page is_bought image) ≡ Ok (stage_events w.start page is_bought image)

module _ (known : Known) (says : KnownStage) (c : Content) (cpu : Cpu) (w : Window) (image : List ℕ) (page : ℕ)
    (is_bought : _) (es : List EventView) (right : IsContent c) (of : IsSlotOf c cpu w) (room : length image ≤ w.len)
    (low : page < 16) (holds : 256 * page < length image)
    (is : events (stage_text w.start page is_bought image) ≡ Ok es)
    (may : MayWrite (table_of_found (table_in c)) w.start w.len) where
  slot : IsSlot c w
  slot = slot-is c cpu w right of

  abbrev s : ℕ
  s = w.start / 4096

  starts : w.start ≡ 4096 * s
  starts = let whole = slot.placed.starts in omega (arith, whole)

  inside : w.start + w.len ≤ length c.flash
  inside =
      let in_flash_sectors = slot.placed.inside in
      let whole = right.flash_length.whole in
      omega (arith, in_flash_sectors, whole)

  planned_window : IsPlanned w
  planned_window = record {
    start = slot.placed.starts;
    len = slot.placed.whole;
    low = (let most = right.flash_length.most in omega (arith, inside, most));
  }

  all-may : slot.may ≡ true
  all-may =
      let least = slot.placed.some in
      let zeroth : w.start + 0 ≡ w.start = omega arith in
      sym (slot.rights w.start (omega arith) (omega (arith, least)))
      ∙ ap (λ k. allowed_by (table_of_found (table_in c)) (k / 4096) BootWrite) (sym zeroth)
      ∙ may 0 (omega (arith, least))

  pub stage-done : session c cpu es ≡ stage_steps s page image
  stage-done =
      ap (session c cpu) (same-ok es (stage_events w.start page is_bought image)
      (sym is ∙ says w image page is_bought planned_window room))
      ∙ session-steps known c cpu w right slot image room page low holds is_bought all-may

  pub stage-as-plan : ((k : ℕ) → get_or image k 0 < 256)
      → after_all c (session c cpu es) ≡ after_all c (plan_steps s image)
  stage-as-plan small =
      let least = slot.placed.some in
      ap (after_all c) stage-done
      ∙ stage-plan c s image page low holds (omega (arith, starts, inside, least)) small

  pub stage-writes : ((k : ℕ) → get_or image k 0 < 256)
      → window_bytes (after_all c (session c cpu es)) w ≡ written c w image
  stage-writes small =
      ap (λ d. window_bytes d w) (stage-as-plan small)
      ∙ plan-writes c w s image starts slot.placed.whole inside (omega (arith, holds)) room small
      ∙ sym (written-planned image (window_bytes c w))

  stage-gated : Gated (session c cpu es) w
  stage-gated =
      subst (λ xs. Gated xs w) (sym stage-done)
      (inr (s, _, _, steps-gated known c cpu w right slot image room page low holds is_bought))

  stage-rows : (after_all c (session c cpu es)).otp ≡ c.otp
  stage-rows = go stage-gated
    where
      go : Gated (session c cpu es) w → (after_all c (session c cpu es)).otp ≡ c.otp
      go (inl nothing) = ap (λ steps. (after_all c steps).otp) nothing
      go (inr (t, elsewhere, last, g)) = (confined-after_all c w (session c cpu es) g.confined).rows

  -- what `stage` says of the window makes the session staged
  pub stage-staged : (small : (k : ℕ) → get_or image k 0 < 256) (started : _)
      → IsValidImage in_flash w cpu true c.otp (written c w image) started
      → (first : BlockView) → IsFirstBlock (written c w image) first → page ≡ first.at / 256
      → (loop : List BlockView) → IsLoop (written c w image) loop → HasNoOtherBlock (written c w image) loop
      → Staged c (session c cpu es) w cpu
  stage-staged small started valid first begins page_is loop closes alone =
      let bytes_are = sym (stage-writes small) in
      let steps_front = front known c cpu w right slot image room page low holds is_bought in
      let steps_bytes = last_bytes known c cpu w right slot image room page low holds is_bought in
      let place : 16 * s + page ≡ (w.start + first.at) / 256 = omega (arith, starts, page_is) in record {
        gated = stage-gated;
        image = started;
        valid = subst (λ otp. IsValidImage in_flash w cpu true otp (window_bytes (after_all c (session c cpu es)) w) started)
            (sym stage-rows) (subst (λ v. IsValidImage in_flash w cpu true c.otp v started) bytes_are valid);
        loop = loop;
        closes = subst (λ v. IsLoop v loop) bytes_are closes;
        alone = subst (λ v. HasNoOtherBlock v loop) bytes_are alone;
        first = first;
        begins = subst (λ v. IsFirstBlock v first) bytes_are begins;
        before = steps_front;
        bytes = steps_bytes;
        last = stage-done
            ∙ (steps-last known c cpu w right slot image room page low holds is_bought
            ∙ ap (λ p. steps_front ++ Program p steps_bytes ∷ []) place);
        off = subst (λ p. AllByRecursion (IsOffPage p) steps_front) place
            (front-off known c cpu w right slot image room page low holds is_bought);
      }

some-bytes : (xs : List ℕ) → (xs ≡ [] → ⊥) → 0 < length xs
some-bytes [] none = absurd (none refl)
some-bytes (x ∷ xs) none = omega arith

-- the page that is written last is one of the first sector, and it has a byte of the image
pub page-of : (c : Content) (cpu : Cpu) (image out : List ℕ) (o : _) (is : IsStageOf c cpu image out o)
    → (is.first.at / 256 < 16) × (256 * (is.first.at / 256) < length image)
page-of c cpu image out o is =
    let low = is.begins.low in
    let some = some-bytes image is.plain.fits.some in
    let inside =
    begins-inside image (window_bytes c is.target.window) is.first.at is.first some low is.begins.stands in
    (omega (arith, low), omega (arith, inside))

-- the outcome of `stage`
pub stage-of : (known : Known) (says : KnownStage) (c : Content) (cpu : Cpu) (image out : List ℕ) (o : _)
    (is : IsStageOf c cpu image out o) (es : List EventView) → IsContent c → ((k : ℕ) → get_or image k 0 < 256)
    → IsSlotOf c cpu is.target.window
    → MayWrite (table_of_found (table_in c)) is.target.window.start is.target.window.len
    → events (stage_text is.target.window.start (is.first.at / 256) is.is_bought image) ≡ Ok es
    → is.is_staged ≡ true → Staged c (session c cpu es) is.target.window cpu
stage-of known says c cpu image out o is es right small of may reads staged =
    let w = is.target.window in
    let lone = is.order.0 staged in
    let page = page-of c cpu image out o is in
    stage-staged known says c cpu w image (is.first.at / 256) is.is_bought es right of is.plain.fits.few
    page.0 page.1 reads may small is.started is.valid is.first is.begins refl lone.0 lone.1 lone.2
