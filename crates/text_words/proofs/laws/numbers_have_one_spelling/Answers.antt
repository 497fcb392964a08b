use Rattle.text_words.specs.Reading.{number_in, word_in}
use Rattle.text_words.proofs.BytesLemmas.{IsWord, word-spelled}
use Rattle.text_words.proofs.NumberBackLemmas.{IsNumber, number-spelled}
use Rattle.text_words.proofs.OptionLemmas.{some-of}
use Rattle.text_words.proofs.laws.numbers_have_one_spelling.Goals as goal

pub returns-clause-short : goal.returns-clause-short
returns-clause-short c = λ text n is. (some-of (IsNumber text) (number_in text) n is (number-spelled text)).is

pub returns-clause-word : goal.returns-clause-word
returns-clause-word c = λ text n is. (some-of (IsWord text) (word_in text) n is (word-spelled text)).is
