use Rattle.table_json.proofs.TextLemmas.{named-text, text-named}
use Rattle.table_json.proofs.laws.texts_name_numbers.Goals as goal

pub returns : goal.returns
returns c = λ text n. (text-named text n, named-text text n)
