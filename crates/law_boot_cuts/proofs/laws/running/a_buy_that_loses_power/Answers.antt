use Rattle.std.proofs.Common.{inl, inr, refl, subst, sym}
use Rattle.pico_board.specs.declared.boot.BootKind.TheVariants.{Normal}
use Rattle.boot_rules.specs.Chosen.{Chosen}
use Rattle.boot_rules.specs.declared.decision.Decision.TheVariants.{Start}
use Rattle.boot_rules.proofs.StartLemmas.{of-unit, start}
use Rattle.boot_script.specs.Events.{EventView}
use Rattle.law_boot_cuts.specs.Crashes.{settled_choice}
use Rattle.text_lines.specs.declared.outcome.EventOutcome.TheVariants.{PowerLost}
use Rattle.law_boot_cuts.specs.Running.{buys}
use Rattle.law_boot_cuts.proofs.RunLemmas.{buy-cut, is-done, next-place}
use Rattle.law_boot_cuts.proofs.laws.running.a_buy_that_loses_power.Goals as goal

pub returns-clause-steps : goal.returns-clause-steps
returns-clause-steps k = λ m n o choice run moves.
    (let chosen = k.a_running_trial_is_chosen.ensures m n run.events run.outcomes choice run.fresh run.plays run.runs
    run.trial in (
      (start n.content n.cpu chosen.0 choice chosen.1).unit,
      of-unit n.content n.cpu chosen.0 choice chosen.1,
      buy-cut n o choice run.runs run.trial
          ((k.only_lost_power_says_so.ensures.told n o EventView.Buy PowerLost moves).0 refl),
    ))

pub returns-clause-pick : goal.returns-clause-pick
returns-clause-pick k = λ m n o choice u step loses.
    (let run = loses.run in
    let chosen = k.a_running_trial_is_chosen.ensures m n run.events run.outcomes choice run.fresh run.plays run.runs
    run.trial in
    k.boots_own_writes.ensures.pick n.content n.cpu chosen.0 choice u (buys n choice) loses.place step o.content
    loses.content chosen.1 loses.unit (inr (run.trial, refl)) loses.cut loses.no_accident)

pub returns-clause-next : goal.returns-clause-next
returns-clause-next k = λ m n o p choice u step found e outcome loses table keeps former moves other.
    (let run = loses.run in
    let chosen = k.a_running_trial_is_chosen.ensures m n run.events run.outcomes choice run.fresh run.plays run.runs
    run.trial in
    let lost = (k.only_lost_power_says_so.ensures.told n o EventView.Buy PowerLost loses.lost).0 refl in
    let done = is-done o p EventView.PowerOn outcome moves other in
    elim (k.boots_own_writes.ensures.with_a_table n.content n.cpu chosen.0 choice u found (buys n choice) loses.place
    step o.content e loses.content chosen.1 loses.unit table (inr (run.trial, refl)) loses.cut loses.no_accident keeps
    former) [
      | inl same ↦
          inl (next-place o p outcome e lost.place
          (subst (λ cpu. Chosen o.content cpu Normal e) (sym lost.cpu) same) done)
      | inr both ↦ inr (
        next-place o p outcome (Start (settled_choice choice)) lost.place
            (subst (λ cpu. Chosen o.content cpu Normal (Start (settled_choice choice))) (sym lost.cpu) both.here) done,
        both,
      )
    ])
