use Rattle.std.proofs.Common.{ap, arith, take}
use Rattle.script_words.specs.declared.splitting.TheConstants.{MOST_WORDS}
use Rattle.script_words.specs.Splitting.{words_in}
use Rattle.script_words.proofs.LookLemmas.{enough-words, none-first}
use Rattle.script_words.proofs.laws.first_words_are_enough.Goals as goal

pub returns-clause-says : goal.returns-clause-says
returns-clause-says c = λ line. enough-words MOST_WORDS (words_in line) (omega arith)

pub returns-clause-none : goal.returns-clause-none
returns-clause-none c = λ line.
    (λ none. none-first MOST_WORDS (words_in line) (omega arith) none, λ none. ap (take MOST_WORDS) none)
