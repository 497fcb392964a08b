use Rattle.check_laws.specs.Hosts.{first_content}
use Rattle.law_updates.proofs.ErasedLemmas.{host-erased}
use Rattle.law_updates.proofs.laws.the_line_again_holds.Goals as goal

pub returns-clause-erased : goal.returns-clause-erased
returns-clause-erased g = λ c cpu events pattern k hosts yes.
    host-erased c cpu events hosts (λ j u. yes.0 (j, u)) k

pub returns-clause-content : goal.returns-clause-content
returns-clause-content g = λ n c d cpu events pattern raises hosts yes left.
    g.a_script_that_is_played_often.ensures.content n (first_content c cpu) d cpu events raises
    (host-erased c cpu events hosts (λ j u. yes.0 (j, u))) left
