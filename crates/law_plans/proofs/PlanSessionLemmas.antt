-- What the session of a plan does.
use Rattle.std.proofs.Common.{◌≡◌, ◌⊎◌, inl, inr, ℕ, ◌+◌, ◌*◌, ◌/◌, ◌%◌, ◌<◌, ◌≤◌, Bool, true, false, List, [], ◌∷◌, ◌++◌, length, take, get_or, Result, Ok, refl, sym, ap, ◌∙◌, arith}
use Rattle.std.proofs.lemmas.Bool.{cases_lt}
use Rattle.std.proofs.lemmas.List.{drop_all, take_all}
use Rattle.pico_board.specs.declared.window.TheConstants.{MOST_FLASH_BYTES}
use Rattle.pico_board.specs.declared.Step.{Step}
use Rattle.pico_board.specs.declared.Step.TheVariants.{Erase}
use Rattle.pico_board.specs.declared.boot.Cpu.{Cpu}
use Rattle.pico_board.specs.declared.window.Window.{Window}
use Rattle.pico_board.specs.Content.{Content, IsContent, window_bytes}
use Rattle.pico_board.specs.Sessions.{Gated}
use Rattle.pico_board.specs.Steps.{after_all}
use Rattle.pico_board.proofs.ConfinementLemmas.{confined-after_all}
use Rattle.part_table.specs.declared.table.Right.TheVariants.{BootWrite}
use Rattle.part_table.specs.Rights.{allowed_by}
use Rattle.picoboot_cmd.specs.Pages.{programs}
use Rattle.picoboot_cmd.specs.Sectors.{erases}
use Rattle.picoboot_cmd.specs.WellFormed.{MayWrite}
use Rattle.boot_script.specs.declared.event.ScriptFault.{ScriptFault}
use Rattle.boot_script.specs.Events.{EventView}
use Rattle.boot_script.specs.Scripts.{events}
use Rattle.boot_rules.specs.Tables.{table_in}
use Rattle.boot_machine.specs.Serving.{table_of_found}
use Rattle.script_plan.specs.Plans.{plan_text}
use Rattle.boot_session.specs.Sessions.{IsSlotOf, session}
use Rattle.boot_session.proofs.PlanLaws.{KnownEvents, long-barred, long-done, long-is, plan-gated, short-barred, short-done, short-is}
use Rattle.boot_session.proofs.PlanServedLemmas.{Known}
use Rattle.boot_session.proofs.PlanSlotLemmas.{IsSlot, slot-is}
use Rattle.law_plans.specs.Written.{plan_steps, planned}
use Rattle.law_plans.proofs.PlanByteLemmas.{plan-writes}

same-ok : (xs ys : List EventView) → ◌≡◌ {A = Result (List EventView) ScriptFault} (Ok xs) (Ok ys) → xs ≡ ys
same-ok xs ys e = cc

-- the steps of an image of at most a sector
abbrev steps-of : ℕ → List ℕ → List ℕ → List Step
steps-of s rest first =
    Erase s ∷ ((erases (s + 1) ((length rest + 4095) / 4096) ++ programs (16 * (s + 1)) rest)
    ++ programs (16 * s) first)

short-steps : (s : ℕ) (image : List ℕ) → length image ≤ 4096 → Erase s ∷ programs (16 * s) image ≡ plan_steps s image
short-steps s image few =
    sym (ap (λ r. steps-of s r (take 4096 image)) (drop_all 4096 image few)
    ∙ ap (λ x. steps-of s [] x) (take_all 4096 image few))

module _ (known : Known) (says : KnownEvents) (c : Content) (cpu : Cpu) (w : Window) (image : List ℕ)
    (es : List EventView) (right : IsContent c) (of : IsSlotOf c cpu w) (some : 0 < length image)
    (room : length image ≤ w.len) (is : events (plan_text w.start image) ≡ Ok es) where
  slot : IsSlot c w
  slot = slot-is c cpu w right of

  pub inside : w.start + w.len ≤ length c.flash
  inside =
      let in_sectors = slot.placed.inside in
      let whole = right.flash_length.whole in
      omega (arith, in_sectors, whole)

  low : w.start + w.len ≤ MOST_FLASH_BYTES
  low = let most = right.flash_length.most in omega (arith, inside, most)

  pub starts : w.start ≡ 4096 * (w.start / 4096)
  starts = let whole = slot.placed.starts in omega (arith, whole)

  pub whole : w.len % 4096 ≡ 0
  whole = slot.placed.whole

  pub most : w.len ≤ MOST_FLASH_BYTES
  most = omega (arith, low)

  pub gated : Gated (session c cpu es) w
  gated = plan-gated known says c cpu w image es right of some room is

  done : slot.may ≡ true → session c cpu es ≡ plan_steps (w.start / 4096) image
  done may = go (cases_lt 4096 (length image))
    where
      go : (4096 < length image) ⊎ (length image ≤ 4096) → session c cpu es ≡ plan_steps (w.start / 4096) image
      go (inl more) =
          ap (session c cpu)
          (same-ok es _ (sym is ∙ says.long w image more room slot.placed.starts slot.placed.whole low)
          ∙ long-is known c cpu w right slot image some room more)
          ∙ long-done known c cpu w right slot image some room more may
      go (inr few) =
          ap (session c cpu)
          (same-ok es _ (sym is ∙ says.short w image few room slot.placed.starts slot.placed.whole low)
          ∙ short-is known c cpu w right slot image some room few)
          ∙ short-done known c cpu w right slot image some room few may
          ∙ short-steps (w.start / 4096) image few

  none : slot.may ≡ false → session c cpu es ≡ []
  none never = go (cases_lt 4096 (length image))
    where
      go : (4096 < length image) ⊎ (length image ≤ 4096) → session c cpu es ≡ []
      go (inl more) =
          ap (session c cpu)
          (same-ok es _ (sym is ∙ says.long w image more room slot.placed.starts slot.placed.whole low)
          ∙ long-is known c cpu w right slot image some room more)
          ∙ long-barred known c cpu w right slot image some room more never
      go (inr few) =
          ap (session c cpu)
          (same-ok es _ (sym is ∙ says.short w image few room slot.placed.starts slot.placed.whole low)
          ∙ short-is known c cpu w right slot image some room few)
          ∙ short-barred known c cpu w right slot image some room few never

  first-right : allowed_by (table_of_found (table_in c)) (w.start / 4096) BootWrite ≡ slot.may
  first-right = let least = slot.placed.some in slot.rights w.start (omega arith) (omega (arith, least))

  pub session-done : MayWrite (table_of_found (table_in c)) w.start w.len
      → session c cpu es ≡ plan_steps (w.start / 4096) image
  session-done may =
      let least = slot.placed.some in
      let zeroth : w.start + 0 ≡ w.start = omega arith in
      done (sym first-right
      ∙ ap (λ k. allowed_by (table_of_found (table_in c)) (k / 4096) BootWrite) (sym zeroth)
      ∙ may 0 (omega (arith, least)))

  pub session-barred : allowed_by (table_of_found (table_in c)) (w.start / 4096) BootWrite ≡ false
      → session c cpu es ≡ []
  session-barred never = none (sym first-right ∙ never)

  -- a session that does something is that of the plan
  pub session-some : (step : Step) (others : List Step) → session c cpu es ≡ step ∷ others
      → session c cpu es ≡ plan_steps (w.start / 4096) image
  session-some step others does = go slot.may refl
    where
      go : (b : Bool) → slot.may ≡ b → session c cpu es ≡ plan_steps (w.start / 4096) image
      go true may = done may
      go false never = let wrong : [] ≡ step ∷ others = sym (none never) ∙ does in cc

  -- a session that is that of the plan writes the planned bytes, and no row
  pub session-writes : ((k : ℕ) → get_or image k 0 < 256) → session c cpu es ≡ plan_steps (w.start / 4096) image
      → window_bytes (after_all c (session c cpu es)) w ≡ planned image (window_bytes c w)
  session-writes small done_so =
      ap (λ steps. window_bytes (after_all c steps) w) done_so
      ∙ plan-writes c w (w.start / 4096) image starts whole inside some room small

  pub session-rows : (after_all c (session c cpu es)).otp ≡ c.otp
  session-rows = go gated
    where
      go : Gated (session c cpu es) w → (after_all c (session c cpu es)).otp ≡ c.otp
      go (inl nothing) = ap (λ steps. (after_all c steps).otp) nothing
      go (inr (s, elsewhere, last, g)) = (confined-after_all c w (session c cpu es) g.confined).rows
