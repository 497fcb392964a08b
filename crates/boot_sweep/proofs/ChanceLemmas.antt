-- A line says `chance` only where its cut leaves an unfinished content with another table or with an accidental image
-- in the slot.
use Rattle.std.proofs.Common.{◌≡◌, inl, inr, ℕ, zero, suc, ◌+◌, ◌<◌, ◌≤◌, List, [], ◌∷◌, All, length, take, slice_get, Some, None, sym, ◌∙◌, subst, arith}
use Rattle.std.specs.List.{AllByRecursion}
use Rattle.pico_board.specs.declared.Step.{Step}
use Rattle.pico_board.specs.declared.boot.Cpu.{Cpu}
use Rattle.pico_board.specs.declared.boot.BootKind.TheVariants.{Normal}
use Rattle.pico_board.specs.declared.window.Window.{Window}
use Rattle.pico_board.specs.Content.{Content, IsContent}
use Rattle.pico_board.specs.Cuts.{cut_with}
use Rattle.pico_board.specs.Sessions.{Confined, Gated, IsConfined, Unfinished}
use Rattle.pico_board.proofs.CuttingLemmas.{CutOf-from, IsContent-after_all}
use Rattle.pico_board.proofs.TornStepLemmas.{Torn-cut_by}
use Rattle.pico_board.specs.declared.step.Step.TheVariants.{Erase, Program, Raise}
use Rattle.pico_board.specs.Steps.{CutOf, IsCutAt, IsStepIn, after_all}
use Rattle.boot_rules.specs.Choosing.{decision_in}
use Rattle.boot_rules.proofs.DecisionLemmas.{decision-chosen}
use Rattle.boot_rules.specs.AccidentalImages.{HasNoAccidentalImage}
use Rattle.boot_sweep.specs.declared.results.CutResult.TheVariants.{Chance}
use Rattle.boot_sweep.specs.Comparing.{result_of}
use Rattle.boot_sweep.specs.Refusals.{sweep_refusal}
use Rattle.boot_sweep.specs.Results.{IsCutResult}
use Rattle.boot_session.specs.Slots.{IsSlot}
use Rattle.boot_sweep.specs.Sweeps.{Line, content_at_line}
use Rattle.boot_session.proofs.GatedLaws.{decide-blank, gated-decision}
use Rattle.boot_session.proofs.NeighbourLemmas.{placed}
use Rattle.boot_sweep.proofs.RefusalLemmas.{IsSweepable, sweepable}
use Rattle.boot_sweep.proofs.ResultLemmas.{judged-exactly}

-- what is left of a session that is swept, where neither the former nor the finished image starts
module _ (c : Content) (cpu : Cpu) (steps : List Step) (w : Window) (right : IsContent c)
    (is : IsSweepable c cpu steps w) (d : Content) (cut : CutOf c steps d)
    (chance : IsCutResult c (after_all c steps) d cpu Chance) where
  -- it is not so that the content, wherever it is unfinished, has the former table and no accidental image in the slot
  not-free : (Unfinished c steps w d → HasNoAccidentalImage c (after_all c steps) d w cpu) → ⊥
  not-free no_accident =
      elim (gated-decision c w cpu steps d (decision_in c cpu Normal) (record {
        right = right;
        boot_member = is.slot.boot_member;
        gated = is.gated;
        cut = cut;
        former = decision-chosen c cpu Normal;
        elsewhere = is.elsewhere;
        table = is.table;
        no_accident = no_accident;
      })) [
        | inl former ↦ chance.0 (decision_in c cpu Normal, decision-chosen c cpu Normal, former)
        | inr finished ↦ chance.1 finished
      ]

  has-accident : HasNoAccidentalImage c (after_all c steps) d w cpu → ⊥
  has-accident accident_free = not-free (λ u. accident_free)

  unfinished : Unfinished c steps w d
  unfinished = record {
    moved = λ same. not-free (λ u. absurd (u.moved same));
    short = λ same. not-free (λ u. absurd (u.short same));
    touched = elim (decide-blank d.flash w.start 4096) [
      | inl blank ↦ absurd (not-free (λ u. absurd (u.touched.2 (blank u.touched.0 u.touched.1))))
      | inr some ↦ some
    ];
  }

  pub left-accident : Unfinished c steps w d × (HasNoAccidentalImage c (after_all c steps) d w cpu → ⊥)
  left-accident = (unfinished, has-accident)

all-take : (P : Step → Type 0) (n : ℕ) (xs : List Step) → AllByRecursion P xs → AllByRecursion P (take n xs)
all-take P zero xs all = tt
all-take P (suc n) [] all = tt
all-take P (suc n) (x ∷ xs) all = (all.0, all-take P n xs all.1)

step-in : (w : Window) (n : ℕ) (step : Step) → w.start + w.len ≤ n → IsConfined w step → IsStepIn n step
step-in w n (Erase s) inside c = let a = c.1 in omega (arith, a, inside)
step-in w n (Program p d) inside c = let a = c.1 in omega (arith, a, inside)
step-in w n (Raise r b) inside c = absurd c

pub steps-in : (w : Window) (n : ℕ) (steps : List Step) → w.start + w.len ≤ n → Confined steps w
    → AllByRecursion (IsStepIn n) steps
steps-in w n [] inside all = tt
steps-in w n (step ∷ steps) inside all = (step-in w n step inside all.0, steps-in w n steps inside all.1)

pub gated-confined : (w : Window) (steps : List Step) → Gated steps w → Confined steps w
gated-confined w steps (inl none) = subst (λ xs. Confined xs w) (sym none) tt
gated-confined w steps (inr (s, e, l, g)) = g.confined

-- the cut of a line is one of the session
pub line-cut : (c : Content) (pattern : List ℕ) (steps : List Step) (w : Window) (line : Line) → IsContent c
    → All (λ b. b < 256) pattern → Gated steps w → w.start + w.len ≤ length c.flash
    → slice_get steps line.number ≡ Some line.step
    → IsCutAt c steps line.number line.step (content_at_line c pattern steps line)
line-cut c pattern steps w line right small gated inside stands =
    let ranges = steps-in w (length c.flash) steps inside (gated-confined w steps gated) in
    let before = take line.number steps in record {
      stands = stands;
      torn = Torn-cut_by (cut_with 0 line.within pattern) (after_all c before) line.step small
          (IsContent-after_all c before right
          (all-take (IsStepIn (length c.flash)) line.number steps ranges)).flash_bytes;
    }

pub slot-inside : (c : Content) (cpu : Cpu) (steps : List Step) (w : Window) → IsContent c → IsSlot c cpu steps w
    → w.start + w.len ≤ length c.flash
slot-inside c cpu steps w right slot =
    let is = placed c w cpu right slot.boot_member in let inside = is.inside in omega (arith, inside)

pub line-accident : (c : Content) (cpu : Cpu) (pattern : List ℕ) (steps : List Step) (line : Line) (w : Window)
    → IsContent c → All (λ b. b < 256) pattern → sweep_refusal c cpu steps ≡ None → IsSlot c cpu steps w
    → slice_get steps line.number ≡ Some line.step
    → line.result ≡ result_of c (after_all c steps) (content_at_line c pattern steps line) cpu → line.result ≡ Chance
    → Unfinished c steps w (content_at_line c pattern steps line)
    × (HasNoAccidentalImage c (after_all c steps) (content_at_line c pattern steps line) w cpu → ⊥)
line-accident c cpu pattern steps line w right small none slot stands is chance =
    let able = sweepable c cpu steps w right none slot in
    let d = content_at_line c pattern steps line in
    let at = line-cut c pattern steps w line right small able.gated (slot-inside c cpu steps w right slot) stands in
    left-accident c cpu steps w right able d (CutOf-from c steps d (line.number, line.step, at))
    ((judged-exactly c (after_all c steps) d cpu Chance).1 (sym chance ∙ is))
