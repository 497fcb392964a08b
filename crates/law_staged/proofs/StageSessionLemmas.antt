-- The session of a script of `stage` has the stage's steps.
use Rattle.std.proofs.Common.{◌≡◌, ℕ, ◌+◌, ◌*◌, ◌/◌, ◌<◌, ◌≤◌, Bool, false, ◌==◌, List, [], ◌∷◌, ◌++◌, length, refl, sym, ap, ◌∙◌, arith, append-nil, append_assoc}
use Rattle.std.specs.Prelude.{if◌then◌else◌}
use Rattle.std.proofs.lemmas.Bool.Decides.{nat_tests}
use Rattle.pico_board.specs.declared.window.TheConstants.{MOST_FLASH_BYTES}
use Rattle.pico_board.specs.declared.Step.{Step}
use Rattle.pico_board.specs.declared.boot.Cpu.{Cpu}
use Rattle.pico_board.specs.declared.window.Window.{Window}
use Rattle.pico_board.specs.Content.{Content}
use Rattle.pico_board.specs.Sessions.{Confined}
use Rattle.pico_board.specs.Steps.{after_all}
use Rattle.pico_board.proofs.ConfinementLemmas.{confined-after_all}
use Rattle.pico_board.proofs.StepLemmas.{after_all-append}
use Rattle.picoboot_cmd.specs.Pages.{programs}
use Rattle.picoboot_cmd.specs.Sectors.{erases}
use Rattle.picoboot_cmd.specs.Served.{ServedCommand as Command}
use Rattle.picoboot_cmd.specs.WellFormed.{MayWrite}
use Rattle.boot_script.specs.Events.{EventView}
use Rattle.boot_machine.specs.Machines.{InBootsel}
use Rattle.boot_machine.specs.Serving.{ServedEvent, command_served}
use Rattle.script_plan.specs.Commands.{sent, update_cmd}
use Rattle.script_stage.specs.Stages.{Call, erase_call, last_calls, part_calls, rest_calls, update_call, with_tokens, write_call}
use Rattle.boot_session.specs.Sessions.{going_on, session_from}
use Rattle.boot_session.proofs.PlanServedLemmas.{Known, erase-done, host, table, write-done}
use Rattle.law_staged.specs.StagedPlans.{rest_steps}

-- a list with a first byte is not empty
some-bytes : (n : ℕ) → 0 < n → (n == 0) ≡ false
some-bytes n some = grind (arith, nat_tests, some)

module _ (known : Known) (c : Content) (cpu : Cpu) (small : length c.flash ≤ MOST_FLASH_BYTES) where
  -- commands with tokens from this one on, and then other events
  abbrev pub run : Content → ℕ → List Call → List EventView → List Step
  run d token calls tail = session_from d cpu (host c cpu) (with_tokens token calls ++ tail)

  -- calls do these steps, and then others follow
  pub record IsServed (d : Content) (token : ℕ) (calls more : List Call) (tail : List EventView) (steps : List Step)
      : Type 0 where
    pub next : ℕ
    pub few : next ≤ token + 2
    pub is : run d token (calls ++ more) tail ≡ steps ++ run (after_all d steps) next more tail

  pub write-then : (d : Content) → length d.flash ≡ length c.flash → (token p : ℕ) (bytes : List ℕ) (more : List Call)
      (tail : List EventView) → token < 100 → 0 < length bytes → 256 * p + length bytes ≤ length c.flash
      → MayWrite (table c cpu) (256 * p) (length bytes)
      → run d token (write_call (256 * p) bytes ∷ more) tail
      ≡ programs p bytes ++ run (after_all d (programs p bytes)) (token + 1) more tail
  unfolding sent
  write-then d long token p bytes more tail low some room may =
      write-done c cpu known d long small token p bytes (with_tokens (token + 1) more ++ tail) (omega (arith, low)) some
      (omega (arith, room, long)) may

  pub erase-then : (d : Content) → length d.flash ≡ length c.flash → (token s k : ℕ) (more : List Call)
      (tail : List EventView) → token < 100 → 4096 * (s + k) ≤ length c.flash
      → MayWrite (table c cpu) (4096 * s) (4096 * k)
      → run d token (erase_call (4096 * s) (4096 * k) ∷ more) tail
      ≡ erases s k ++ run (after_all d (erases s k)) (token + 1) more tail
  unfolding sent
  erase-then d long token s k more tail low room may =
      erase-done c cpu known d long small token s k (with_tokens (token + 1) more ++ tail) (omega (arith, low))
      (omega (arith, room, long)) may

  pub part-served : (d : Content) → length d.flash ≡ length c.flash → (token p : ℕ) (bytes : List ℕ) (more : List Call)
      (tail : List EventView) → token < 100 → 256 * p + length bytes ≤ length c.flash
      → MayWrite (table c cpu) (256 * p) (length bytes)
      → IsServed d token (part_calls (256 * p) bytes) more tail (programs p bytes)
  part-served d long token p [] more tail low room may =
      record { next = token; few = (omega arith); is = refl }
  part-served d long token p (b ∷ bytes) more tail low room may =
      record {
        next = token + 1;
        few = (omega arith);
        is = ap (λ (t : Bool). run d token ((if t then [] else write_call (256 * p) (b ∷ bytes) ∷ []) ++ more) tail)
            (some-bytes (length (b ∷ bytes)) (omega arith))
            ∙ write-then d long token p (b ∷ bytes) more tail low (omega arith) room may;
      }

  -- the sectors of the bytes are erased, from sector s on, and the bytes are written there
  pub rest-served : (d : Content) → length d.flash ≡ length c.flash → (w : Window) → (token s : ℕ) (bytes : List ℕ)
      (more : List Call) (tail : List EventView) → token < 90 → w.start + w.len ≤ length c.flash
      → Confined (erases s ((length bytes + 4095) / 4096)) w
      → 4096 * (s + (length bytes + 4095) / 4096) ≤ length c.flash
      → MayWrite (table c cpu) (4096 * s) (4096 * ((length bytes + 4095) / 4096))
      → MayWrite (table c cpu) (256 * (16 * s)) (length bytes)
      → IsServed d token (rest_calls (4096 * s) bytes) more tail (rest_steps s bytes)
  rest-served d long w token s [] more tail low inside confined room may_erase may_write =
      record { next = token; few = (omega arith); is = refl }
  rest-served d long w token s (b ∷ others) more tail low inside confined room may_erase may_write =
      let bytes = b ∷ others in
      let k = (length bytes + 4095) / 4096 in
      let mid = after_all d (erases s k) in
      let same : length mid.flash ≡ length c.flash =
      (confined-after_all d w (erases s k) confined).outside.long ∙ long in
      let page : 4096 * s ≡ 256 * (16 * s) = omega arith in record {
        next = token + 1 + 1;
        few = (omega arith);
        is = ap (λ (t : Bool). run d token
            ((if t then [] else erase_call (4096 * s) (4096 * k) ∷ write_call (4096 * s) bytes ∷ []) ++ more) tail)
            (some-bytes (length bytes) (omega arith))
            ∙ erase-then d long token s k (write_call (4096 * s) bytes ∷ more) tail (omega (arith, low)) room may_erase
            ∙ ap (λ xs. erases s k ++ xs)
            (ap (λ at. run mid (token + 1) (write_call at bytes ∷ more) tail) page
            ∙ write-then mid same (token + 1) (16 * s) bytes more tail (omega (arith, low)) (omega arith)
            (omega (arith, room)) may_write)
            ∙ sym (append_assoc (erases s k) (programs (16 * s) bytes)
            (run (after_all mid (programs (16 * s) bytes)) (token + 1 + 1) more tail))
            ∙ ap (λ (e : Content). (erases s k ++ programs (16 * s) bytes) ++ run e (token + 1 + 1) more tail)
            (sym (after_all-append d (erases s k) (programs (16 * s) bytes)));
      }

  -- the reboot into the update ends the session, whatever follows
  reboot-ends : (d : Content) (token at : ℕ) (tail : List EventView) → token < 100
      → run d token (update_call at ∷ []) tail ≡ []
  unfolding sent
  reboot-ends d token at tail low =
      let cmd = update_cmd token at in
      let read = (known.read token at 0 (omega (arith, low)) (omega arith)).2 in
      let done = known.rebooted d (table c cpu) false cmd (known.is_reboot token at) in
      ap (λ r. rest d (command_served d cpu (host c cpu) r [])) read
      ∙ ap (λ (r : Command). r.steps ++ going_on (λ next. session_from (after_all d r.steps) cpu next tail) r.boot
      (InBootsel (host c cpu))) done
    where
      rest : Content → ServedEvent → List Step
      rest d s = s.steps ++ going_on (λ next. session_from (after_all d s.steps) cpu next tail) s.boot s.place

  pub last-served : (d : Content) → length d.flash ≡ length c.flash → (token p at : ℕ) (bytes : List ℕ)
      (tail : List EventView) → token < 90 → 0 < length bytes → 256 * p + length bytes ≤ length c.flash
      → MayWrite (table c cpu) (256 * p) (length bytes)
      → run d token (last_calls at (256 * p) bytes) tail ≡ programs p bytes
  last-served d long token p at bytes tail low some room may =
      write-then d long token p bytes (update_call at ∷ []) tail (omega (arith, low)) some room may
      ∙ ap (λ xs. programs p bytes ++ xs)
      (reboot-ends (after_all d (programs p bytes)) (token + 1) at tail (omega (arith, low)))
      ∙ append-nil (programs p bytes)
