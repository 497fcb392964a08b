-- In a sweep of a firm image no line says `chance` of a cut that falls before a step.
use Rattle.std.proofs.Common.{◌≡◌, ◌≢◌, ℕ, zero, suc, ◌<◌, ◌≤◌, false, List, [], ◌∷◌, ◌++◌, All, take, Some, None, refl, ap, subst, arith}
use Rattle.std.specs.Prelude.{Contains, slice_get}
use Rattle.std.proofs.lemmas.Option.{same_Some}
use Rattle.pico_board.specs.declared.Step.{Step}
use Rattle.pico_board.specs.declared.boot.Cpu.{Cpu}
use Rattle.pico_board.specs.declared.window.Window.{Window}
use Rattle.pico_board.specs.Content.{Content, IsContent}
use Rattle.pico_board.specs.Sessions.{Unfinished}
use Rattle.pico_board.specs.Steps.{after_all}
use Rattle.image_def.specs.declared.started.Started.{Started}
use Rattle.boot_rules.specs.Tables.{table_in}
use Rattle.boot_rules.specs.declared.tables.Found.{Found}
use Rattle.boot_sweep.specs.declared.results.CutResult.TheVariants.{Chance}
use Rattle.boot_sweep.specs.Firms.{Firm, HasOwnDigests, Stray}
use Rattle.boot_sweep.specs.Refusals.{sweep_refusal}
use Rattle.boot_session.specs.Slots.{IsSlot}
use Rattle.boot_sweep.specs.Sweeps.{Line, content_after_cut, content_at_line, sweep_lines}
use Rattle.boot_sweep.proofs.ChanceLemmas.{line-cut, line-accident, slot-inside}
use Rattle.boot_sweep.proofs.FirmLaws.{firm-free}
use Rattle.boot_sweep.proofs.LineLemmas.{line-of-sweep}
use Rattle.boot_sweep.proofs.RefusalLemmas.{sweepable}
use Rattle.boot_sweep.proofs.StrayLemmas.{none-stray}

-- a list of steps is those before one of them, it, and those behind it
split-steps : (n : ℕ) (steps : List Step) (step : Step) → slice_get steps n ≡ Some step
    → (others : List Step) × (steps ≡ take n steps ++ step ∷ others)
split-steps n [] step is = let e : None ≡ Some step = is in cc
split-steps zero (x ∷ xs) step is = (xs, ap (λ y. y ∷ xs) (same_Some x step is))
split-steps (suc n) (x ∷ xs) step is = let rest = split-steps n xs step is in (rest.0, ap (λ ys. x ∷ ys) rest.1)

-- the cut of such a line leaves what the steps before it do
before-is : (c : Content) (pattern : List ℕ) (steps : List Step) (line : Line) → line.within ≡ false
    → content_at_line c pattern steps line ≡ after_all c (take line.number steps)
before-is c pattern steps line is = ap
    (λ b. content_after_cut (after_all c (take line.number steps)) pattern line.step b) is

some-before : (c : Content) (steps : List Step) (w : Window) (n : ℕ)
    → Unfinished c steps w (after_all c (take n steps)) → 1 ≤ n
some-before c steps w zero unfinished = absurd (unfinished.moved refl)
some-before c steps w (suc n) unfinished = omega arith

pub no-chance-before : (c : Content) (cpu : Cpu) (pattern : List ℕ) (steps : List Step) (line : Line) (w : Window)
    (s : Started) (found : Found) → IsContent c → All (λ b. b < 256) pattern → table_in c ≡ Some found
    → sweep_refusal c cpu steps ≡ None → IsSlot c cpu steps w → Firm (after_all c steps) w cpu s
    → HasOwnDigests (after_all c steps) (content_at_line c pattern steps line) w cpu s
    → Contains (sweep_lines c cpu pattern steps) line → line.within ≡ false → line.result ≢ Chance
no-chance-before c cpu pattern steps line w s found right small table none slot firm own has before chance =
    let of = line-of-sweep c cpu pattern steps line has in
    let no_accident = line-accident c cpu pattern steps line w right small none slot of.0 of.1 chance in
    let gated = (sweepable c cpu steps w right none slot).gated in
    let inside = slot-inside c cpu steps w right slot in
    let d = content_at_line c pattern steps line in
    let is = before-is c pattern steps line before in
    let parts = split-steps line.number steps line.step of.0 in
    let unfinished = subst (λ x. Unfinished c steps w x) is no_accident.0 in
    let clean : Stray (after_all c steps) d w → ⊥ =
    λ stray. none-stray c w steps (take line.number steps) parts.0 line.step right inside gated parts.1 unfinished
    (subst (λ x. Stray (after_all c steps) x w) is stray) in
    let some = some-before c steps w line.number unfinished in
    no_accident.1 (firm-free c w cpu steps s line.number line.step d found right table slot.boot_member gated firm
    (line-cut c pattern steps w line right small gated inside of.0) some clean own no_accident.0)
