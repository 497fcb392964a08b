-- What the steps of a board leave of its flash, and of what is remembered of it.
use Rattle.std.proofs.Common.{◌≡◌, ◌≤◌, ℕ, ◌*◌, Bool, true, false, List, length, sym, ap, subst, inl, arith, ◌∙◌, slice_index, bit_and}
use Rattle.std.specs.Prelude.{nat_le}
use Rattle.std.proofs.lemmas.Bool.{leb-true}
use Rattle.pico_board.specs.declared.window.Window.{Window}
use Rattle.pico_board.specs.Sessions.{IsConfined, SameButWindow}
use Rattle.pico_board.proofs.ConfinementLemmas.{confined-after, confined-torn}
use Rattle.otp_roll.specs.Flags.{slot_size}
use Rattle.image_check.specs.declared.digests.Digests.{Digests}
use Rattle.boot_rules.specs.Tables.{table_in}
use Rattle.boot_rules.proofs.DataLemmas.{same-table}
use Rattle.boot_machine.specs.declared.lookup.Lookup.{Lookup}
use Rattle.boot_machine.specs.declared.lookup.Lookup.TheVariants.{Due, Done}
use Rattle.boot_machine.specs.Remembering.{IsLookup, kept_lookup, Remembers}
use Rattle.pico_board.specs.Board.{State, Does, Becomes}
use Rattle.pico_board.specs.Content.{Content}
use Rattle.pico_board.specs.declared.Step.{Step}
use Rattle.pico_board.specs.declared.Step.TheVariants.{Erase, Program, Raise}
use Rattle.pico_board.specs.Steps.{SameOutside}
use Rattle.pico_board.proofs.ChangedLemmas.{changed-same}

module _ {B : Type 0} (state : B → State) (history : B → List Step → Type 0) (old new : B) where
  -- outside of its sector an erase, done or torn, changes nothing
  pub erased-outside : (s : ℕ) (ok : Bool) → Does state history old (Erase s) ok new
      → SameOutside (4096 * s) 4096 (state old).content.flash (state new).content.flash
  erased-outside s true does =
      subst (λ (c : Content). SameOutside (4096 * s) 4096 (state old).content.flash c.flash) (sym does.done)
      (changed-same (λ i b. 255) (4096 * s) 4096 (state old).content.flash)
  erased-outside s false does = does.torn.outside

  -- outside of its page a program, done or torn, changes nothing
  pub programmed-outside : (p : ℕ) (d : List ℕ) (ok : Bool) → Does state history old (Program p d) ok new
      → SameOutside (256 * p) 256 (state old).content.flash (state new).content.flash
  programmed-outside p d true does =
      subst (λ (c : Content). SameOutside (256 * p) 256 (state old).content.flash c.flash) (sym does.done)
      (changed-same (λ i b. bit_and b (slice_index d i)) (256 * p) 256 (state old).content.flash)
  programmed-outside p d false does = does.torn.outside

  -- a raise, done or torn, changes no flash
  pub raised-flash : (r b : ℕ) (ok : Bool) → Does state history old (Raise r b) ok new
      → (state new).content.flash ≡ (state old).content.flash
  raised-flash r b true does = ap (λ (c : Content). c.flash) does.done
  raised-flash r b false does = does.torn.bytes

  -- what a bench does with the supply changes no content, so all that is remembered stays true
  pub supplied-remembers : (s : State) (d : Digests) (l : Lookup) → s.content ≡ (state old).content
      → Becomes state history old s new → Remembers (state old).content d l → Remembers (state new).content d l
  supplied-remembers s d l same becomes remembers =
      subst (λ c. Remembers c d l) (sym (ap (λ (t : State). t.content) becomes.same ∙ same)) remembers

  -- a step behind both table slots, done or torn, leaves the table
  stays : (step : Step) (w : Window) (ok : Bool) → IsConfined w step
      → 2 * slot_size (state old).content.otp (length (state old).content.flash) ≤ w.start
      → Does state history old step ok new → table_in (state new).content ≡ table_in (state old).content
  stays step w ok inside behind does =
      let z = slot_size (state old).content.otp (length (state old).content.flash) in
      let same = window-only step w ok inside does in
      same-table (state old).content (state new).content w same
      (inl (omega (arith, behind))) (inl (omega (arith, behind)))
    where
      window-only : (step : Step) (w : Window) (ok : Bool) → IsConfined w step → Does state history old step ok new
          → SameButWindow w (state old).content (state new).content
      window-only step w true inside does =
          subst (SameButWindow w (state old).content) (sym does.done) (confined-after (state old).content w step inside)
      window-only step w false inside does =
          confined-torn (state old).content w step (state new).content inside does.torn

  kept : (step : Step) (w : Window) (ok leaves : Bool) (l : Lookup) → IsConfined w step
      → leaves ≡ nat_le (2 * slot_size (state old).content.otp (length (state old).content.flash)) w.start
      → Does state history old step ok new → IsLookup (state old).content l
      → IsLookup (state new).content (kept_lookup leaves l)
  kept step w ok false l inside is does true_of = tt
  kept step w ok true Due inside is does true_of = tt
  kept step w ok true (Done found) inside is does true_of =
      true_of ∙ sym (stays step w ok inside (leb-true _ _ (sym is)) does)

  pub erased-lookup : (s : ℕ) (ok leaves : Bool) (l : Lookup)
      → leaves ≡ nat_le (2 * slot_size (state old).content.otp (length (state old).content.flash)) (4096 * s)
      → Does state history old (Erase s) ok new → IsLookup (state old).content l
      → IsLookup (state new).content (kept_lookup leaves l)
  erased-lookup s ok leaves l =
      kept (Erase s) (record { start = 4096 * s; len = 4096 }) ok leaves l (omega arith, omega arith)

  pub programmed-lookup : (p : ℕ) (d : List ℕ) (ok leaves : Bool) (l : Lookup)
      → leaves ≡ nat_le (2 * slot_size (state old).content.otp (length (state old).content.flash)) (256 * p)
      → Does state history old (Program p d) ok new → IsLookup (state old).content l
      → IsLookup (state new).content (kept_lookup leaves l)
  programmed-lookup p d ok leaves l =
      kept (Program p d) (record { start = 256 * p; len = 256 }) ok leaves l (omega arith, omega arith)
