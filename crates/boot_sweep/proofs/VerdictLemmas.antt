-- The result of a cut by which decision a normal boot makes.
use Rattle.std.proofs.Common.{◌≡◌, Bool, true, false, refl, sym, ap, ◌∙◌, subst}
use Rattle.std.specs.Prelude.{◌&&◌, if◌then◌else◌}
use Rattle.pico_board.specs.declared.boot.Cpu.{Cpu}
use Rattle.pico_board.specs.declared.boot.BootKind.TheVariants.{Normal}
use Rattle.pico_board.specs.Content.{Content}
use Rattle.boot_rules.specs.declared.decision.Decision.{Decision}
use Rattle.boot_rules.specs.Choosing.{decision_in}
use Rattle.boot_rules.specs.Chosen.{Chosen}
use Rattle.boot_rules.proofs.DecisionLemmas.{decision-chosen}
use Rattle.boot_sweep.specs.declared.results.CutResult.{CutResult}
use Rattle.boot_sweep.specs.declared.results.CutResult.TheVariants.{Former, Finished, Chance}
use Rattle.boot_sweep.specs.declared.results.Verdict.{Verdict}
use Rattle.boot_sweep.specs.declared.results.Verdict.TheVariants.{Before, After, Other}
use Rattle.boot_sweep.specs.Comparing.{is_same_decision, is_whole, result_by}
use Rattle.boot_sweep.specs.Verdicts.{verdict_by}
use Rattle.boot_sweep.proofs.ResultLemmas.{same-decision}

-- the decision that is made, by the two tests
abbrev verdict_of : Bool → Bool → Verdict
verdict_of x y = if x then Before else if y then After else Other

abbrev result_of_tests : Bool → Bool → Bool → CutResult
result_of_tests x y whole = if x then Former else if y && whole then Finished else Chance

before : (x y whole : Bool) → Before ≡ verdict_of x y → Former ≡ result_of_tests x y whole
before true y whole e = refl
before false true whole e = cc
before false false whole e = cc

after : (x y whole : Bool) → After ≡ verdict_of x y → (if whole then Finished else Chance) ≡ result_of_tests x y whole
after true y whole e = cc
after false true whole e = refl
after false false whole e = cc

other : (x y whole : Bool) → Other ≡ verdict_of x y → Chance ≡ result_of_tests x y whole
other true y whole e = cc
other false true whole e = cc
other false false whole e = refl

after-is : (x y : Bool) → After ≡ verdict_of x y → y ≡ true
after-is true y e = cc
after-is false true e = refl
after-is false false e = cc

module _ (former finished : Decision) (cpu : Cpu) (d z : Content) where
  abbrev here : Decision
  here = decision_in d cpu Normal

  pub is-former : Before ≡ verdict_by former finished here → Former ≡ result_by former finished cpu d z
  is-former e =
      before (is_same_decision here former) (is_same_decision here finished) (is_whole cpu d z here) e

  pub is-other : Other ≡ verdict_by former finished here → Chance ≡ result_by former finished cpu d z
  is-other e = other (is_same_decision here former) (is_same_decision here finished) (is_whole cpu d z here) e

  pub decides-after : After ≡ verdict_by former finished here → here ≡ finished
  decides-after e =
      same-decision here finished (after-is (is_same_decision here former) (is_same_decision here finished) e)

  pub chosen-after : After ≡ verdict_by former finished here → Chosen d cpu Normal finished
  chosen-after e = subst (λ x. Chosen d cpu Normal x) (decides-after e) (decision-chosen d cpu Normal)

  after-by : (whole : Bool) → whole ≡ is_whole cpu d z finished → After ≡ verdict_by former finished here
      → (if whole then Finished else Chance) ≡ result_by former finished cpu d z
  after-by whole is e =
      ap (λ b. if b then Finished else Chance) (is ∙ ap (is_whole cpu d z) (sym (decides-after e)))
      ∙ after (is_same_decision here former) (is_same_decision here finished) (is_whole cpu d z here) e

  pub is-finished : (whole : Bool) → whole ≡ is_whole cpu d z finished → whole ≡ true
      → After ≡ verdict_by former finished here → Finished ≡ result_by former finished cpu d z
  is-finished whole is holds e = ap (λ b. if b then Finished else Chance) (sym holds) ∙ after-by whole is e

  pub is-chance : (whole : Bool) → whole ≡ is_whole cpu d z finished → whole ≡ false
      → After ≡ verdict_by former finished here → Chance ≡ result_by former finished cpu d z
  is-chance whole is fails e = ap (λ b. if b then Finished else Chance) (sym fails) ∙ after-by whole is e
