use Rattle.text_words.proofs.BytesLemmas.{word-back}
use Rattle.text_words.proofs.NumberBackLemmas.{number-back, zeros-back}
use Rattle.text_words.proofs.laws.numbers_are_read_back.Goals as goal

pub returns-clause-decimal : goal.returns-clause-decimal
returns-clause-decimal c = zeros-back

pub returns-clause-short : goal.returns-clause-short
returns-clause-short c = number-back

pub returns-clause-word : goal.returns-clause-word
returns-clause-word c = word-back
