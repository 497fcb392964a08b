-- Steps one after another.
use Rattle.std.proofs.Common.{◌≡◌, ℕ, suc, ◌+◌, ◌-◌, ◌<◌, ◌≤◌, Bool, true, false, List, [], ◌∷◌, map, Option, Some, None, refl, sym, ap, ◌∙◌, subst, arith}
use Rattle.std.specs.Prelude.{if◌then◌else◌}
use Rattle.std.specs.List.{range_with_len}
use Rattle.pico_board.specs.declared.Step.{Step}
use Rattle.pico_board.specs.declared.Step.TheVariants.{Erase}
use Rattle.pico_board.specs.declared.boot.Cpu.{Cpu}
use Rattle.pico_board.specs.Board.{DoesAll, State}
use Rattle.pico_board.specs.Content.{Content}
use Rattle.pico_board.specs.Steps.{after, after_all}
use Rattle.pico_board.proofs.StepLemmas.{DoesAll-append, DoesAll-append_cut}
use Rattle.slot_choice.specs.declared.choice.Choice.{Choice}
use Rattle.trial_buy.specs.Starting.{erase_in, image_raises, other_erase, settling, start_erase, start_steps}
use Rattle.trial_buy.specs.Buying.{buy_steps, clearing, page_program, page_programs, rewrite_steps, trial_place}

-- the pages from one on
abbrev pub programs_from : ℕ → List ℕ → ℕ → ℕ → List Step
programs_from s bytes i n = map (page_program s bytes) (range_with_len i n)

pub programs-all : (s : ℕ) (bytes : List ℕ) → page_programs s bytes ≡ programs_from s bytes 0 16
unfolding page_programs
programs-all s bytes = refl

pub programs-more : (s : ℕ) (bytes : List ℕ) (i n : ℕ) → i < n
    → programs_from s bytes i (n - i) ≡ page_program s bytes i ∷ programs_from s bytes (i + 1) (n - (i + 1))
programs-more s bytes i n lt =
    let more : n - i ≡ suc (n - (i + 1)) = omega arith in
    ap (programs_from s bytes i) more

pub programs-none : (s : ℕ) (bytes : List ℕ) (i n : ℕ) → n ≤ i → programs_from s bytes i (n - i) ≡ []
programs-none s bytes i n le = let none : n - i ≡ 0 = omega arith in ap (programs_from s bytes i) none

-- an image that is no trial image is erased for as the other member's image asks
pub plain-erase : (c : Content) (cpu : Cpu) (choice : Choice) → choice.image.trial ≡ false
    → start_erase c cpu choice ≡ other_erase c cpu choice
plain-erase c cpu choice plain =
    ap (λ trial. if trial then [] else other_erase c cpu choice) plain

-- an erase keeps the rows
pub erase-otp : (c : Content) (o : Option ℕ) → (after_all c (erase_in o)).otp ≡ c.otp
erase-otp c None = refl
erase-otp c (Some s) = refl

programs-otp : (c : Content) (s : ℕ) (bytes : List ℕ) (ns : List ℕ)
    → (after_all c (map (page_program s bytes) ns)).otp ≡ c.otp
programs-otp c s bytes [] = refl
programs-otp c s bytes (n ∷ ns) = programs-otp (after c (page_program s bytes n)) s bytes ns

pub rewrite-otp : (c : Content) (s : ℕ) (bytes : List ℕ) → (after_all c (rewrite_steps s bytes)).otp ≡ c.otp
rewrite-otp c s bytes =
    ap (λ steps. (after_all (after c (Erase s)) steps).otp) (programs-all s bytes)
    ∙ programs-otp (after c (Erase s)) s bytes (range_with_len 0 16)

module _ {B : Type 0} {state : B → State} {history : B → List Step → Type 0} where
  -- the other member's image is erased, and then the rows rise
  pub settled : {old mid new : B} {ok : Bool} (c : Content) (cpu : Cpu) (choice : Choice) (o : Option ℕ)
      → (state old).content.otp ≡ c.otp → erase_in o ≡ other_erase c cpu choice
      → DoesAll state history old (erase_in o) true mid
      → DoesAll state history mid (image_raises (state mid).content.otp choice.image) ok new
      → DoesAll state history old (settling c cpu choice) ok new
  settled {old} {mid} {new} {ok} c cpu choice o otp is first second =
      let kept : (state mid).content.otp ≡ c.otp = ap (λ (x : Content). x.otp) first.done
      ∙ erase-otp (state old).content o ∙ otp in
      DoesAll-append (subst (λ steps. DoesAll state history old steps true mid) is first)
      (subst (λ rows. DoesAll state history mid (image_raises rows choice.image) ok new) kept second)

  pub started : {old new : B} {ok : Bool} (c : Content) (cpu : Cpu) (choice : Choice) → choice.image.trial ≡ false
      → DoesAll state history old (settling c cpu choice) ok new
      → DoesAll state history old (start_steps c cpu choice) ok new
  started {old} {new} {ok} c cpu choice plain does =
      subst (λ trial. DoesAll state history old (if trial then [] else settling c cpu choice) ok new) (sym plain) does

  -- the sector of the trial bit is rewritten, and then the start is settled
  pub bought : {old mid new : B} {ok : Bool} (c : Content) (cpu : Cpu) (choice : Choice)
      → DoesAll state history old (clearing c.flash (trial_place choice.image)) true mid
      → DoesAll state history mid (settling c cpu choice) ok new
      → DoesAll state history old (buy_steps c cpu choice) ok new
  bought c cpu choice first second = DoesAll-append first second

  -- power is lost in the erase, before the rows rise
  pub cut-in_erase : {old new : B} (c : Content) (cpu : Cpu) (choice : Choice) (o : Option ℕ)
      → erase_in o ≡ other_erase c cpu choice
      → DoesAll state history old (erase_in o) false new → DoesAll state history old (settling c cpu choice) false new
  cut-in_erase {old} {new} c cpu choice o is lost =
      DoesAll-append_cut (image_raises c.otp choice.image)
      (subst (λ steps. DoesAll state history old steps false new) is lost)
