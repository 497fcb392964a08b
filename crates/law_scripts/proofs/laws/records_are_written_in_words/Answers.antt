use Rattle.law_scripts.proofs.NamedLineLemmas.{line-named}
use Rattle.law_scripts.proofs.SayingLemmas.{read-says, words-listed}
use Rattle.law_scripts.proofs.TokenLemmas.{token-told}
use Rattle.law_scripts.proofs.laws.records_are_written_in_words.Goals as goal

pub returns-clause-token : goal.returns-clause-token
returns-clause-token c = token-told

pub returns-clause-said : goal.returns-clause-said
returns-clause-said c = line-named

pub returns-clause-read : goal.returns-clause-read
returns-clause-read c = λ next words line e image small read named.
    line-named next line e image small named (read-says words line read (words-listed line.row named))
