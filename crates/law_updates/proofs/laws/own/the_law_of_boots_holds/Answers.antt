use Rattle.check_laws.specs.OwnLaws.{BootMade, IsBootKept, boots_in}
use Rattle.boot_machine.specs.Plays.{powerless}
use Rattle.law_updates.proofs.MadeLemmas.{boot-begins, boot-kept, one-kept}
use Rattle.law_updates.proofs.PlayedLemmas.{boot-of}
use Rattle.law_updates.proofs.laws.own.the_law_of_boots_holds.Goals as goal

pub returns : goal.returns
returns g = λ c cpu events b choice k step d former on law among chosen first at lucky.
    (let of = boot-of c cpu events on b among in
    boot-kept cpu b choice k step d former of.content (boot-begins cpu b choice of chosen)
    (one-kept (λ (x : BootMade). x.done) (IsBootKept cpu) (boots_in (powerless c cpu) events) b k step law.1 among
    at.stands) at lucky first)
