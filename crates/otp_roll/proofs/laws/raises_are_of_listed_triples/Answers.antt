use Rattle.std.proofs.lemmas.List.Elements.{All-from_recursion, recursion_from_All}
use Rattle.otp_roll.proofs.RisingLemmas.{raises-raise, raises-listed, raises-inside}
use Rattle.otp_roll.proofs.laws.raises_are_of_listed_triples.Goals as goal

pub returns-clause-raises : goal.returns-clause-raises
returns-clause-raises c = raises-raise

pub returns-clause-listed : goal.returns-clause-listed
returns-clause-listed c = raises-listed

pub returns-clause-inside : goal.returns-clause-inside
returns-clause-inside c = λ n otp rows version listed.
    All-from_recursion _ _ (raises-inside n otp rows version (recursion_from_All _ rows listed.in_range))
