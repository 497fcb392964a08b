use Rattle.boot_machine.specs.Plays.{powerless}
use Rattle.law_updates.proofs.MadeLemmas.{buy-begins}
use Rattle.law_updates.proofs.PlayedLemmas.{buy-of}
use Rattle.law_updates.proofs.laws.own.buys_of_a_script.Goals as goal

pub returns-clause-content : goal.returns-clause-content
returns-clause-content g = λ c cpu events b on among.
    (buy-of c cpu events on b among).content

pub returns-clause-runs : goal.returns-clause-runs
returns-clause-runs g = λ c cpu events b on among some.
    (let of = buy-of c cpu events on b among in
    let does = buy-begins cpu (powerless c cpu) b of some in (
      of.machine,
      record {
        events = of.events;
        outcomes = of.outcomes;
        fresh = tt;
        plays = of.plays;
        runs = of.runs;
        trial = does.0;
      },
      does.1,
    ))
