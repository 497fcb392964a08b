use Rattle.std.proofs.Common.{◌≡◌, ◌∙◌, ◌++◌, ap, subst, sym}
use Rattle.pico_board.specs.declared.boot.Cpu.{Cpu}
use Rattle.pico_board.specs.Content.{Content}
use Rattle.trial_buy.specs.Buying.{buy_steps}
use Rattle.boot_rules.specs.declared.decision.Decision.TheVariants.{Start}
use Rattle.boot_rules.specs.Chosen.{Chosen}
use Rattle.check_laws.specs.OwnLaws.{BuyMade, IsBuyKept, buys_in}
use Rattle.boot_machine.specs.Plays.{powerless}
use Rattle.law_updates.proofs.MadeLemmas.{buy-begins, buy-kept, one-kept, some-step}
use Rattle.law_updates.proofs.PlayedLemmas.{buy-of}
use Rattle.law_updates.proofs.laws.own.the_law_of_buys_holds.Goals as goal

pub returns : goal.returns
returns g = λ c cpu events b k step d former on law among first at lucky.
    (let of = buy-of c cpu events on b among in
    let does = buy-begins cpu (powerless c cpu) b of (some-step b.done k step at.stands) in
    let n = of.machine in
    let chosen = g.a_running_trial_is_chosen.ensures (powerless c cpu) n of.events of.outcomes b.choice tt of.plays of.runs
    does.0 in
    buy-kept cpu chosen.0 b does.1.rest k step d former of.content
    (subst (λ (p : Cpu). Chosen b.before p chosen.0 (Start b.choice)) of.cpu_is
    (subst (λ (x : Content). Chosen x n.cpu chosen.0 (Start b.choice)) (sym of.before) chosen.1)) does.0
    (subst (λ (p : Cpu). buy_steps b.before p b.choice ≡ b.done ++ does.1.rest) of.cpu_is
    (ap (λ (x : Content). buy_steps x n.cpu b.choice) of.before ∙ does.1.begins))
    (one-kept (λ (x : BuyMade). x.done) (IsBuyKept cpu) (buys_in (powerless c cpu) events) b k step law.1 among
    at.stands) at lucky first)
