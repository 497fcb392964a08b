use Rattle.boot_machine.specs.Plays.{powerless}
use Rattle.check_laws.specs.OwnLaws.{BootMade, BuyMade, IsBootKept, IsBuyKept, boot_kept, boots_in, buys_in, raises_own}
use Rattle.check_laws.proofs.WriteLawLemmas.{one-law}
use Rattle.check_laws.proofs.laws.one_law_of_writes.Goals as goal

pub returns-clause-boots : goal.returns-clause-boots
returns-clause-boots c = λ content cpu events a b.
    one-law (λ (made : BootMade). made.done) (λ made. boot_kept made.before cpu made.kind made.done) (IsBootKept cpu)
    (boots_in (powerless content cpu) events) a b

pub returns-clause-buys : goal.returns-clause-buys
returns-clause-buys c = λ content cpu events a b.
    one-law (λ (made : BuyMade). made.done) (λ made. raises_own made.before cpu made.choice.image made.done) (IsBuyKept cpu)
    (buys_in (powerless content cpu) events) a b
