-- A boot or a buy is kept exactly where the function says so.
use Rattle.std.proofs.Common.{◌≡◌, ◌≢◌, inl, inr, Bool, true, false, List, [], ◌∷◌, Option, Some, None, refl, sym, ap, ◌∙◌, subst}
use Rattle.std.specs.Prelude.{◌↔◌, ◌&&◌, ◌||◌, is_some}
use Rattle.std.specs.List.{AllByRecursion, list_all}
use Rattle.std.proofs.lemmas.Bool.{and_from, and_parts}
use Rattle.pico_board.specs.declared.Step.{Step}
use Rattle.pico_board.specs.declared.step.Step.TheVariants.{Erase, Program, Raise}
use Rattle.pico_board.specs.declared.boot.Cpu.{Cpu}
use Rattle.pico_board.specs.declared.boot.BootKind.{BootKind}
use Rattle.pico_board.specs.declared.boot.BootKind.TheVariants.{Normal}
use Rattle.pico_board.specs.Content.{Content}
use Rattle.pico_board.specs.Steps.{IsRaise}
use Rattle.image_def.specs.declared.started.Started.{Started}
use Rattle.slot_choice.specs.declared.choice.Choice.{Choice}
use Rattle.slot_choice.specs.declared.unit.Member.TheVariants.{A}
use Rattle.boot_rules.specs.declared.decision.Decision.{Decision}
use Rattle.boot_rules.specs.declared.decision.Decision.TheVariants.{Start, Bootsel}
use Rattle.boot_rules.specs.declared.tables.Found.{Found}
use Rattle.boot_rules.specs.Choosing.{decision_in}
use Rattle.boot_rules.specs.Chosen.{Chosen}
use Rattle.boot_rules.specs.Tables.{table_in}
use Rattle.boot_rules.proofs.DecisionLemmas.{chosen-decision, decision-chosen}
use Rattle.boot_sweep.specs.Comparing.{is_same_started}
use Rattle.boot_sweep.proofs.ResultLemmas.{decision-same, same-started}
use Rattle.check_laws.specs.OwnLaws.{BootMade, IsBootKept, IsBuyKept, boot_kept, boot_kept_by, is_raise, raises_own, starts_image}
use Rattle.check_laws.specs.Triples.{AreTriplesApart}
use Rattle.check_laws.proofs.TripleLemmas.{units-from, units-to}

started-self : (s : Started) → is_same_started s s ≡ true
started-self s =
    let choice : Choice = record { image = s; member = A; other = None; updated = false } in
    (and_parts _ _ (decision-same (Start choice) (Start choice) refl)).0

starts-from : (d : Decision) (s : Started) → starts_image d s ≡ true → (choice : Choice) × (d ≡ Start choice) × (choice.image ≡ s)
starts-from (Start choice) s e = (choice, refl, same-started choice.image s e)
starts-from (Bootsel fall) s e = cc

abbrev made : Content → BootKind → List Step → BootMade
made c kind done = record { before = c; kind = kind; done = done }

-- what is asked of the rows of an image
abbrev pub RaisesOwn : Content → Cpu → Started → List Step → Type 0
RaisesOwn c cpu image done = (table_in c ≢ None) × AreTriplesApart c cpu image done

same-choice : (a b : Choice) → Start a ≡ Start b → a ≡ b
same-choice a b e = cc

module _ (c : Content) (cpu : Cpu) (kind : BootKind) (done : List Step) (d : Decision) (choice : Choice)
    (decided : d ≡ decision_in c cpu kind) (starts : d ≡ Start choice) where
  chosen : Chosen c cpu kind (Start choice)
  chosen = subst (λ x. Chosen c cpu kind x) (sym decided ∙ starts) (decision-chosen c cpu kind)

  the-choice : (other : Choice) → Chosen c cpu kind (Start other) → other ≡ choice
  the-choice other is = same-choice other choice (chosen-decision c cpu kind (Start other) is ∙ (sym decided ∙ starts))

  pub kept-same : (n : Decision) → n ≡ decision_in c cpu Normal → starts_image n choice.image ≡ true
      → AllByRecursion IsRaise done → IsBootKept cpu (made c kind done)
  kept-same n normal same raises =
      let s = starts-from n choice.image same in inl (record {
        choice = choice;
        chosen = chosen;
        normal = s.0;
        would = subst (λ x. Chosen c cpu Normal x) (sym normal ∙ s.1) (decision-chosen c cpu Normal);
        same = s.2;
        raises = raises;
      })

  pub kept-own : RaisesOwn c cpu choice.image done → IsBootKept cpu (made c kind done)
  kept-own own = inr (record { choice = choice; chosen = chosen; table = own.0; apart = own.1 })

  -- where it does not start the same, it raises its own rows
  pub kept-other : (n : Decision) → n ≡ decision_in c cpu Normal
      → ((starts_image n choice.image ≡ true) × AllByRecursion IsRaise done → ⊥)
      → IsBootKept cpu (made c kind done) → RaisesOwn c cpu choice.image done
  kept-other n normal other (inl s) =
      let same = the-choice s.choice s.chosen in
      let is : n ≡ Start s.normal = normal ∙ sym (chosen-decision c cpu Normal (Start s.normal) s.would) in
      absurd (other (
        ap (λ x. starts_image x choice.image) is
            ∙ (ap (λ (x : Started). is_same_started x choice.image) (s.same ∙ ap (λ (y : Choice). y.image) same)
            ∙ started-self choice.image),
        s.raises,
      ))
  kept-other n normal other (inr o) =
      (o.table, subst (λ (x : Choice). AreTriplesApart c cpu x.image done) (the-choice o.choice o.chosen) o.apart)

-- a boot that falls starts nothing
pub fallen : (c : Content) (cpu : Cpu) (kind : BootKind) (done : List Step) (d : Decision)
    → d ≡ decision_in c cpu kind → ((choice : Choice) → d ≡ Start choice → ⊥) → IsBootKept cpu (made c kind done) → ⊥
fallen c cpu kind done d decided none (inl s) =
    none s.choice (decided ∙ sym (chosen-decision c cpu kind (Start s.choice) s.chosen))
fallen c cpu kind done d decided none (inr o) =
    none o.choice (decided ∙ sym (chosen-decision c cpu kind (Start o.choice) o.chosen))

raise-is : (step : Step) → (is_raise step ≡ true) ↔ IsRaise step
raise-is (Erase s) = (λ e. cc, λ r. absurd r)
raise-is (Program p d) = (λ e. cc, λ r. absurd r)
raise-is (Raise r b) = (λ e. tt, λ r. refl)

raises-is : (steps : List Step) → (list_all is_raise steps ≡ true) ↔ AllByRecursion IsRaise steps
raises-is [] = (λ e. tt, λ all. refl)
raises-is (step ∷ steps) = (
  λ e. let p = and_parts _ _ e in ((raise-is step).0 p.0, (raises-is steps).0 p.1),
  λ all. and_from _ _ ((raise-is step).1 all.0) ((raises-is steps).1 all.1),
)

own-is : (c : Content) (cpu : Cpu) (image : Started) (done : List Step)
    → (raises_own c cpu image done ≡ true) ↔ RaisesOwn c cpu image done
own-is c cpu image done = (
  λ e. let p = and_parts _ _ e in (has (table_in c) p.0, units-from c cpu image done p.1),
  λ own. and_from _ _ (is (table_in c) own.0) (units-to c cpu image done own.1),
)
  where
    has : (o : Option Found) → is_some o ≡ true → o ≢ None
    has None e = cc
    has (Some f) e = λ none. cc

    is : (o : Option Found) → o ≢ None → is_some o ≡ true
    is None some = absurd (some refl)
    is (Some f) some = refl

pub boot-is : (c : Content) (cpu : Cpu) (kind : BootKind) (done : List Step)
    → (boot_kept c cpu kind done ≡ true) ↔ IsBootKept cpu (made c kind done)
boot-is c cpu kind done = go (decision_in c cpu kind) refl
  where
    normal : Decision
    normal = decision_in c cpu Normal

    by-same : (choice : Choice) → decision_in c cpu kind ≡ Start choice → (b : Bool)
        → (starts_image normal choice.image && list_all is_raise done) ≡ b
        → ((b || raises_own c cpu choice.image done) ≡ true) ↔ IsBootKept cpu (made c kind done)
    by-same choice at true is =
        let p = and_parts _ _ is in (
          λ e. kept-same c cpu kind done (Start choice) choice (sym at) refl normal refl p.0 ((raises-is done).0 p.1),
          λ kept. refl,
        )
    by-same choice at false is = (
      λ e. kept-own c cpu kind done (Start choice) choice (sym at) refl ((own-is c cpu choice.image done).0 e),
      λ kept. (own-is c cpu choice.image done).1
          (kept-other c cpu kind done (Start choice) choice (sym at) refl normal refl
          (λ both.
          let f : true ≡ false = sym (and_from _ _ both.0 ((raises-is done).1 both.1)) ∙ is in cc) kept),
    )

    go : (d : Decision) → decision_in c cpu kind ≡ d
        → (boot_kept_by c cpu done d normal ≡ true) ↔ IsBootKept cpu (made c kind done)
    go (Start choice) at = by-same choice at (starts_image normal choice.image && list_all is_raise done) refl
    go (Bootsel fall) at = (
      λ e. cc,
      λ kept. absurd (fallen c cpu kind done (Bootsel fall) (sym at) (λ choice e. cc) kept),
    )

pub boot-kept : (c : Content) (cpu : Cpu) (kind : BootKind) (done : List Step) (b : Bool)
    → b ≡ boot_kept c cpu kind done → (b ≡ true) ↔ IsBootKept cpu (made c kind done)
boot-kept c cpu kind done b is = (λ e. (boot-is c cpu kind done).0 (sym is ∙ e), λ kept. is ∙ (boot-is c cpu kind done).1 kept)

pub buy-kept : (c : Content) (cpu : Cpu) (image : Started) (done : List Step) (b : Bool)
    → b ≡ raises_own c cpu image done → (choice : Choice) → choice.image ≡ image
    → (b ≡ true) ↔ IsBuyKept cpu (record { before = c; choice = choice; done = done })
buy-kept c cpu image done b is choice same = (
  λ e.
      let own = (own-is c cpu image done).0 (sym is ∙ e) in
      record { table = own.0; apart = subst (λ s. AreTriplesApart c cpu s done) (sym same) own.1 },
  λ kept. is ∙ (own-is c cpu image done).1 (kept.table, subst (λ s. AreTriplesApart c cpu s done) same kept.apart),
)
