use Rattle.law_updates.proofs.MadeLemmas.{boot-starts}
use Rattle.law_updates.proofs.PlayedLemmas.{boot-of}
use Rattle.law_updates.proofs.laws.own.boots_of_a_script.Goals as goal

pub returns-clause-content : goal.returns-clause-content
returns-clause-content g = λ c cpu events b on among.
    (boot-of c cpu events on b among).content

pub returns-clause-starts : goal.returns-clause-starts
returns-clause-starts g = λ c cpu events b on among some.
    boot-starts cpu b (boot-of c cpu events on b among) some
