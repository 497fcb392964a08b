use Rattle.std.proofs.Common.{◌∙◌, ap, subst, sym}
use Rattle.pico_board.specs.Content.{Content}
use Rattle.trial_buy.specs.Buying.{buy_steps}
use Rattle.boot_rules.specs.declared.decision.Decision.TheVariants.{Start}
use Rattle.boot_rules.specs.Chosen.{Chosen}
use Rattle.law_updates.proofs.MadeLemmas.{buy-kept}
use Rattle.law_updates.proofs.laws.own.buys_that_are_kept.Goals as goal

pub returns : goal.returns
returns c = λ m n b k step d former run right does kept at lucky first.
    (let chosen = c.a_running_trial_is_chosen.ensures m n run.events run.outcomes b.choice run.fresh run.plays run.runs
    run.trial in
    buy-kept n.cpu chosen.0 b does.rest k step d former right
    (subst (λ (x : Content). Chosen x n.cpu chosen.0 (Start b.choice)) (sym does.before) chosen.1) run.trial
    (ap (λ (x : Content). buy_steps x n.cpu b.choice) does.before ∙ does.begins) kept at lucky first)
