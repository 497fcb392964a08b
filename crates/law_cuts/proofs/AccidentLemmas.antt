-- A cut of a gated session that leaves another image than two left an accidental one.
use Rattle.std.proofs.Common.{◌≡◌, inl, inr, ℕ, zero, suc, ◌<◌, All, List, [], ◌∷◌, refl, sym, ap, ◌∙◌, subst, Some}
use Rattle.std.specs.Prelude.{false, slice_get, true}
use Rattle.std.proofs.lemmas.Option.{same_Some}
use Rattle.pico_board.specs.declared.Step.{Step}
use Rattle.pico_board.specs.declared.boot.Cpu.{Cpu}
use Rattle.pico_board.specs.declared.boot.BootKind.TheVariants.{Normal}
use Rattle.pico_board.specs.declared.window.Window.{Window}
use Rattle.pico_board.specs.Content.{Content}
use Rattle.pico_board.specs.Cuts.{cut_by, cut_with}
use Rattle.pico_board.specs.Sessions.{Unfinished}
use Rattle.pico_board.specs.Steps.{CutOf, Torn, after, after_all}
use Rattle.pico_board.proofs.ConfinementLemmas.{confined-CutOf}
use Rattle.pico_board.proofs.ContentLemmas.{flash_bytes-after}
use Rattle.pico_board.proofs.TornStepLemmas.{Torn-cut_by}
use Rattle.boot_rules.specs.AccidentalImages.{HasNoAccidentalImage}
use Rattle.boot_rules.specs.declared.decision.Decision.{Decision}
use Rattle.boot_rules.specs.declared.decision.Decision.TheVariants.{Start, Bootsel}
use Rattle.boot_rules.specs.Choosing.{decision_in}
use Rattle.boot_rules.specs.Chosen.{Chosen}
use Rattle.boot_rules.proofs.DecisionLemmas.{decision-chosen}
use Rattle.boot_script.specs.Events.{EventView}
use Rattle.boot_session.specs.CutSessions.{StartsFinished, StartsOutside}
use Rattle.boot_session.specs.Sessions.{session}
use Rattle.boot_session.proofs.GatedLaws.{decide-blank, gated-decision}
use Rattle.boot_sweep.specs.Refusals.{StartsIn}
use Rattle.boot_sweep.specs.Moving.{MoveView}
use Rattle.cut_class.specs.declared.class.Class.{Class}
use Rattle.cut_class.specs.declared.class.Class.TheVariants.{Former, Finished}
use Rattle.boot_cuts.specs.Classes.{IsClass, IsFinished, IsFormer}
use Rattle.boot_cuts.proofs.ClassLemmas.{class-exactly}
use Rattle.boot_cuts.specs.Contents.{cut_contents}
use Rattle.boot_tape.specs.Traces.{trace, trace_steps, traced_from}
use Rattle.law_cuts.specs.Cases.{IsAccident, IsGatedScript, IsOther}
use Rattle.law_cuts.proofs.CaseLemmas.{decides-former, keeps-former, starts-finished}
use Rattle.law_cuts.proofs.SessionTraceLemmas.{all-mended, last-is, trace-is}

-- the steps of a list of steps with the contents before them
pub steps-of : (c : Content) (steps : List Step) → trace_steps (traced_from c steps) ≡ steps
steps-of c [] = refl
steps-of c (step ∷ steps) = ap (λ xs. step ∷ xs) (steps-of (after c step) steps)

-- no start in the window is a start outside
outside : (c : Content) (cpu : Cpu) (w : Window) → (StartsIn c cpu w → ⊥) → (e : Decision) → Chosen c cpu Normal e
    → StartsOutside w e
outside c cpu w elsewhere (Start choice) chosen = λ there. elsewhere (choice, chosen, there)
outside c cpu w elsewhere (Bootsel fall) chosen = tt

-- the cuts of a trace are cuts of its steps
cut-in : (pattern : List ℕ) (c : Content) (steps : List Step) (n : ℕ) (d : Content) → All (λ b. b < 256) pattern
    → All (λ b. b < 256) c.flash → slice_get (cut_contents pattern (traced_from c steps)) n ≡ Some d → CutOf c steps d
cut-in pattern c [] zero d small bytes is = cc
cut-in pattern c [] (suc n) d small bytes is = cc
cut-in pattern c (step ∷ steps) zero d small bytes is =
    inl (subst (Torn c step) (same_Some c d is) (Torn-cut_by (cut_with 0 false pattern) c step small bytes))
cut-in pattern c (step ∷ steps) (suc zero) d small bytes is =
    inl (subst (Torn c step) (same_Some (cut_by (cut_with 0 true pattern) c step) d is)
    (Torn-cut_by (cut_with 0 true pattern) c step small bytes))
cut-in pattern c (step ∷ steps) (suc (suc n)) d small bytes is =
    inr (cut-in pattern (after c step) steps n d small (flash_bytes-after c step bytes) is)

module _ (c : Content) (cpu : Cpu) (events : List EventView) (w : Window) (is : IsGatedScript c cpu events w)
    (d : Content) (cut : CutOf c (trace_steps (trace c cpu events).done) d)
    (class : Class) (found : IsClass c (trace c cpu events).last (trace c cpu events).moves d cpu class)
    (other : IsOther class) where
  abbrev steps : List Step
  steps = trace_steps (trace c cpu events).done

  abbrev z : Content
  z = (trace c cpu events).last

  abbrev moves : List MoveView
  moves = (trace c cpu events).moves

  never : (k : Class) → IsClass c z moves d cpu k → (IsOther k → ⊥) → ⊥
  never k is no_other =
      no_other (subst IsOther ((class-exactly c z moves d cpu class).0 found
      ∙ sym ((class-exactly c z moves d cpu k).0 is)) other)

  not-former : IsFormer c d cpu → ⊥
  not-former h = never Former h (λ o. o)

  not-finished : IsFinished z moves d cpu → ⊥
  not-finished h = never Finished (not-former, h) (λ o. o)

  -- the script leaves what its steps do
  leads : z ≡ after_all c steps
  leads =
      let one = is.session in
      last-is c cpu events one
      ∙ ap (after_all c) (sym (ap (λ ts. trace_steps ts) (trace-is c cpu events one) ∙ steps-of c (session c cpu events)))

  -- it is not so that d, wherever it is unfinished, has the former table and no accidental image in the slot
  not-free : (Unfinished c steps w d → HasNoAccidentalImage c (after_all c steps) d w cpu) → ⊥
  not-free no_accident =
      elim (gated-decision c w cpu steps d (decision_in c cpu Normal) (record {
        right = is.right;
        boot_member = is.holds.keeps.slot.boot_member;
        gated = is.gated;
        cut = cut;
        former = decision-chosen c cpu Normal;
        elsewhere = outside c cpu w is.holds.elsewhere (decision_in c cpu Normal) (decision-chosen c cpu Normal);
        table = is.holds.table;
        no_accident = no_accident;
      })) [
        | inl former ↦
            not-former (decides-former c d cpu
            (keeps-former c w cpu d is.right is.holds.keeps.slot.boot_member is.holds.elsewhere
            (confined-CutOf c w steps d is.holds.keeps.confined cut))
            (decision_in c cpu Normal, decision-chosen c cpu Normal, former))
        | inr finished ↦
            not-finished (starts-finished z moves d cpu
            (all-mended c cpu events is.session) (subst (λ x. StartsFinished x d cpu) (sym leads) finished))
      ]

  pub accident-is : IsAccident c cpu events w d
  accident-is = record {
    unfinished = record {
      moved = λ same. not-free (λ u. absurd (u.moved same));
      short = λ same. not-free (λ u. absurd (u.short same));
      touched = elim (decide-blank d.flash w.start 4096) [
        | inl blank ↦ absurd (not-free (λ u. absurd (u.touched.2 (blank u.touched.0 u.touched.1))))
        | inr some ↦ some
      ];
    };
    accident = λ free. not-free (λ u. subst (λ x. HasNoAccidentalImage c x d w cpu) leads free);
  }

pub cut-of-script : (c : Content) (cpu : Cpu) (events : List EventView) (pattern : List ℕ) (w : Window) (n : ℕ)
    (d : Content) → All (λ b. b < 256) pattern → IsGatedScript c cpu events w
    → slice_get (cut_contents pattern (trace c cpu events).done) n ≡ Some d
    → CutOf c (trace_steps (trace c cpu events).done) d
cut-of-script c cpu events pattern w n d small is at =
    let one = is.session in
    let trace_is = trace-is c cpu events one in
    subst (λ ts. CutOf c (trace_steps ts) d) (sym trace_is)
    (subst (λ xs. CutOf c xs d) (sym (steps-of c (session c cpu events)))
    (cut-in pattern c (session c cpu events) n d small is.right.flash_bytes
    (ap (λ ts. slice_get (cut_contents pattern ts) n) (sym trace_is) ∙ at)))
