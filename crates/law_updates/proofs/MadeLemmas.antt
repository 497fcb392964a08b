-- What a loss of power leaves in the steps of a boot or of a buy that is kept.
use Rattle.std.proofs.Common.{◌≡◌, ◌≢◌, ◌⊎◌, ◌∙◌, ℕ, Bool, true, false, cond, List, [], ◌∷◌, ◌++◌, slice_get, Option, Some, None, refl, sym, ap, subst, inl, inr}
use Rattle.std.specs.Prelude.{◌&&◌, ◌/◌, Contains}
use Rattle.std.specs.List.{All, AllByRecursion}
use Rattle.pico_board.specs.declared.Step.{Step}
use Rattle.pico_board.specs.declared.step.Step.TheVariants.{Erase}
use Rattle.pico_board.specs.declared.boot.BootKind.{BootKind}
use Rattle.pico_board.specs.declared.boot.BootKind.TheVariants.{Normal}
use Rattle.pico_board.specs.declared.boot.Cpu.{Cpu}
use Rattle.pico_board.specs.declared.window.Window.{Window}
use Rattle.pico_board.specs.Content.{Content, IsContent}
use Rattle.pico_board.specs.Steps.{CutOf, IsCutAt, IsRaise, after_all}
use Rattle.pico_board.proofs.CuttingLemmas.{CutOf-from}
use Rattle.pico_board.proofs.StepLemmas.{CutOf-append_left}
use Rattle.image_def.specs.declared.started.Started.{Started}
use Rattle.slot_choice.specs.declared.choice.Choice.{Choice}
use Rattle.trial_buy.specs.Buying.{buy_steps}
use Rattle.trial_buy.specs.Starting.{erase_of, image_raises, is_other_better, other_image, settling, start_steps}
use Rattle.boot_rules.specs.declared.decision.Decision.{Decision}
use Rattle.boot_rules.specs.declared.decision.Decision.TheVariants.{Start, Bootsel}
use Rattle.boot_rules.specs.declared.tables.Found.{Found}
use Rattle.boot_rules.specs.Chosen.{Chosen}
use Rattle.boot_rules.specs.Tables.{table_in}
use Rattle.boot_rules.specs.Choosing.{decision_in}
use Rattle.boot_rules.proofs.DecisionLemmas.{chosen-decision, chosen-once, decision-chosen}
use Rattle.boot_rules.proofs.StartLemmas.{of-unit, start}
use Rattle.boot_machine.specs.Boots.{Effect, decided_steps}
use Rattle.boot_machine.specs.Machines.{MachineView, Running, FromFlash}
use Rattle.boot_machine.specs.Moves.{bought_choice, stays_with}
use Rattle.text_lines.specs.declared.outcome.EventOutcome.TheVariants as event_outcomes
use Rattle.boot_session.specs.CutSessions.{StartsFinished}
use Rattle.law_boot_cuts.specs.Crashes.{LeavesNoAccidentalImage}
use Rattle.law_boot_cuts.proofs.RaisesCutLemmas.{raises-kept}
use Rattle.check_laws.specs.OwnLaws.{BootMade, BuyMade, IsBootKept, IsBuyKept}
use Rattle.check_laws.specs.Triples.{AreTriplesApart}
use Rattle.law_updates.specs.Made.{BeginsBoot, BeginsBuy}
use Rattle.law_updates.proofs.KeptLemmas.{own-kept, plain-kept, plain-list}
use Rattle.law_updates.proofs.PlayedLemmas.{IsBootOf, IsBuyOf}

-- the first of some steps, where these begin with raises alone
first-raises : (x : Step) (xs steps rest : List Step) → x ∷ xs ≡ steps ++ rest → steps ≢ [] → AllByRecursion IsRaise steps
    → IsRaise x
first-raises x xs [] rest e some all = absurd (some refl)
first-raises x xs (s ∷ steps) rest e some all = let same : s ≡ x = cc in subst IsRaise same all.0

-- a list that begins with raises alone has no erase before them
no-erase : (choice : Choice) (o : Option Window) (image : Option Started) (others steps rest : List Step)
    → erase_of choice o image ++ others ≡ steps ++ rest → steps ≢ [] → AllByRecursion IsRaise steps
    → erase_of choice o image ≡ []
no-erase choice None image others steps rest e some all = refl
no-erase choice (Some w) None others steps rest e some all = refl
no-erase choice (Some w) (Some other) others steps rest e some all =
    go (choice.updated && is_other_better choice.member choice.image.version other.version) e
  where
    go : (b : Bool) → cond b (Erase (w.start / 4096) ∷ []) [] ++ others ≡ steps ++ rest
        → cond b (Erase (w.start / 4096) ∷ []) [] ≡ []
    go true is = absurd (first-raises (Erase (w.start / 4096)) others steps rest is some all)
    go false is = refl

no-cut : {P : Type 0} (xs : List Step) (k : ℕ) (step : Step) → xs ≡ [] → slice_get xs k ≡ Some step → P
no-cut xs k step e at = none (sym (ap (λ ys. slice_get ys k) e) ∙ at)
  where
    none : {P : Type 0} → None ≡ Some step → P
    none f = cc

nothing-first : (xs ys : List Step) → [] ≡ xs ++ ys → xs ≡ []
nothing-first [] ys e = refl
nothing-first (x ∷ xs) ys e = cc

-- a start whose first steps raise rows alone raises those of its image
raises-alone : (c : Content) (cpu : Cpu) (choice : Choice) (steps rest : List Step) → start_steps c cpu choice ≡ steps ++ rest
    → steps ≢ [] → AllByRecursion IsRaise steps → start_steps c cpu choice ≡ image_raises c.otp choice.image
raises-alone c cpu choice steps rest e some all = go choice.image.trial e
  where
    go : (b : Bool) → cond b [] (settling c cpu choice) ≡ steps ++ rest
        → cond b [] (settling c cpu choice) ≡ image_raises c.otp choice.image
    go true is = absurd (some (nothing-first steps rest is))
    go false is =
        ap (λ before. before ++ image_raises c.otp choice.image)
        (no-erase choice choice.other (other_image c cpu choice.other) (image_raises c.otp choice.image) steps rest is some
        all)

same-choice : (a b : Choice) → Start a ≡ Start b → a ≡ b
same-choice a b e = cc

a-table : (o : Option Found) → o ≢ None → (found : Found) × (o ≡ Some found)
a-table None some = absurd (some refl)
a-table (Some found) some = (found, refl)

-- a boot that does the first of its steps
module _ (c : Content) (cpu : Cpu) (kind : BootKind) (choice : Choice) (steps rest : List Step) (k : ℕ) (step : Step)
    (d : Content) (former : Decision) (right : IsContent c) (h : Chosen c cpu kind (Start choice))
    (begins : start_steps c cpu choice ≡ steps ++ rest) (at : IsCutAt c steps k step d)
    (first : Chosen c cpu Normal former) where
  some-cut : CutOf c steps d
  some-cut = CutOf-from c steps d (k, step, at)

  whole-cut : CutOf c (start_steps c cpu choice) d
  whole-cut = subst (λ xs. CutOf c xs d) (sym begins) (CutOf-append_left c steps rest d some-cut)

  -- one that starts what a normal boot would start, and raises rows alone
  same-kept : (normal : Choice) → Chosen c cpu Normal (Start normal) → normal.image ≡ choice.image
      → AllByRecursion IsRaise steps → Chosen d cpu Normal former
  same-kept normal would same all =
      let raises = raises-alone c cpu choice steps rest begins (λ none. no-cut steps k step none at.stands) all in
      let list : start_steps c cpu choice ≡ image_raises c.otp normal.image =
      raises ∙ ap (image_raises c.otp) (sym same) in
      subst (λ e. Chosen d cpu Normal e) (chosen-once c cpu Normal (Start normal) former would first)
      (raises-kept c cpu Normal normal d right would (inr (subst (λ xs. CutOf c xs d) list whole-cut)))

  -- one that raises no row of another unit's triple, on a content with a table
  apart-kept : (found : Found) → table_in c ≡ Some found → AreTriplesApart c cpu choice.image steps
      → LeavesNoAccidentalImage c (after_all c steps) d cpu choice step
      → Chosen d cpu Normal former ⊎ StartsFinished (after_all c steps) d cpu
  apart-kept found table apart lucky = go choice.updated refl
    where
      go : (b : Bool) → choice.updated ≡ b → Chosen d cpu Normal former ⊎ StartsFinished (after_all c steps) d cpu
      go true updated =
          own-kept c cpu kind choice right h (start c cpu kind choice h).unit (of-unit c cpu kind choice h) found table
          (start_steps c cpu choice) steps rest (inl (updated, refl)) begins apart k step d at lucky former first
      go false plain =
          let list = plain-list c cpu kind choice right h (start c cpu kind choice h).unit
          (of-unit c cpu kind choice h) plain in
          inl (plain-kept c cpu kind choice right h (start c cpu kind choice h).unit (of-unit c cpu kind choice h) plain
          d (inr (subst (λ xs. CutOf c xs d) list whole-cut)) steps rest (sym list ∙ begins) (inr some-cut) apart former
          first)

pub boot-kept : (cpu : Cpu) (b : BootMade) (choice : Choice) (k : ℕ) (step : Step) (d : Content) (former : Decision)
    → IsContent b.before → BeginsBoot cpu b choice → IsBootKept cpu b → IsCutAt b.before b.done k step d
    → LeavesNoAccidentalImage b.before (after_all b.before b.done) d cpu choice step
    → Chosen b.before cpu Normal former
    → Chosen d cpu Normal former ⊎ StartsFinished (after_all b.before b.done) d cpu
boot-kept cpu b choice k step d former right does (inl same) at lucky first =
    let one = same-choice same.choice choice
    (chosen-once b.before cpu b.kind (Start same.choice) (Start choice) same.chosen does.chosen) in
    inl (same-kept b.before cpu b.kind choice b.done does.rest k step d former right does.chosen does.begins at first
    same.normal same.would (same.same ∙ ap (λ (x : Choice). x.image) one) same.raises)
boot-kept cpu b choice k step d former right does (inr own) at lucky first =
    let one = same-choice own.choice choice
    (chosen-once b.before cpu b.kind (Start own.choice) (Start choice) own.chosen does.chosen) in
    let table = a-table (table_in b.before) own.table in
    apart-kept b.before cpu b.kind choice b.done does.rest k step d former right does.chosen does.begins at first table.0
    table.1 (subst (λ (x : Choice). AreTriplesApart b.before cpu x.image b.done) one own.apart) lucky

pub buy-kept : (cpu : Cpu) (kind : BootKind) (b : BuyMade) (rest : List Step) (k : ℕ) (step : Step) (d : Content)
    (former : Decision) → IsContent b.before → Chosen b.before cpu kind (Start b.choice) → b.choice.image.trial ≡ true
    → buy_steps b.before cpu b.choice ≡ b.done ++ rest → IsBuyKept cpu b → IsCutAt b.before b.done k step d
    → LeavesNoAccidentalImage b.before (after_all b.before b.done) d cpu b.choice step
    → Chosen b.before cpu Normal former
    → Chosen d cpu Normal former ⊎ StartsFinished (after_all b.before b.done) d cpu
buy-kept cpu kind b rest k step d former right h trial begins kept at lucky first =
    let table = a-table (table_in b.before) kept.table in
    own-kept b.before cpu kind b.choice right h (start b.before cpu kind b.choice h).unit
    (of-unit b.before cpu kind b.choice h) table.0 table.1 (buy_steps b.before cpu b.choice) b.done rest
    (inr (trial, refl)) begins kept.apart k step d at lucky former first

-- what a boot of a script begins, and a buy
pub boot-begins : (cpu : Cpu) (b : BootMade) (choice : Choice) → IsBootOf cpu b → Chosen b.before cpu b.kind (Start choice)
    → BeginsBoot cpu b choice
boot-begins cpu b choice of chosen = record {
  chosen = chosen;
  rest = of.begins.0;
  begins = ap (decided_steps b.before cpu) (chosen-decision b.before cpu b.kind (Start choice) chosen) ∙ of.begins.1;
}

pub boot-starts : (cpu : Cpu) (b : BootMade) → IsBootOf cpu b → b.done ≢ [] → (choice : Choice) × BeginsBoot cpu b choice
boot-starts cpu b of some = go (decision_in b.before cpu b.kind) (decision-chosen b.before cpu b.kind) of.begins.1
  where
    go : (e : Decision) → Chosen b.before cpu b.kind e → decided_steps b.before cpu e ≡ b.done ++ of.begins.0
        → (choice : Choice) × BeginsBoot cpu b choice
    go (Start choice) chosen begins =
        (choice, record { chosen = chosen; rest = of.begins.0; begins = begins })
    go (Bootsel fall) chosen begins = absurd (some (nothing-first b.done of.begins.0 begins))

pub buy-begins : (cpu : Cpu) (m : MachineView) (b : BuyMade) (of : IsBuyOf cpu m b) → b.done ≢ []
    → (b.choice.image.trial ≡ true) × BeginsBuy of.machine b
buy-begins cpu m b of some = go b.choice.image.trial refl of.begins.1
  where
    go : (t : Bool) → b.choice.image.trial ≡ t
        → (cond {A = Effect} t (record {
          steps = buy_steps of.machine.content of.machine.cpu b.choice;
          place = Running (FromFlash (bought_choice b.choice));
          outcome = event_outcomes.Bought;
        }) (stays_with (Running (FromFlash b.choice)) event_outcomes.NothingToBuy)).steps ≡ b.done ++ of.begins.0
        → (b.choice.image.trial ≡ true) × BeginsBuy of.machine b
    go true is begins = (is, record { before = of.before; rest = of.begins.0; begins = begins })
    go false is begins = absurd (some (nothing-first b.done of.begins.0 begins))

pub some-step : (xs : List Step) (k : ℕ) (step : Step) → slice_get xs k ≡ Some step → xs ≢ []
some-step xs k step at = λ none. no-cut xs k step none at

-- of all writes, one that does the step that is cut
pub one-kept : {A : Type 0} (done : A → List Step) (kept : A → Type 0) (writes : List A) (w : A) (k : ℕ) (step : Step)
    → All (λ x. done x ≢ [] → kept x) writes → Contains writes w → slice_get (done w) k ≡ Some step → kept w
one-kept done kept writes w k step all has at =
    subst (λ x. done x ≢ [] → kept x) has.2 (all has.0 w has.1) (λ none. no-cut (done w) k step none at)
