use Rattle.table_json.proofs.SpecLemmas.{spec_halves}
use Rattle.table_json.proofs.laws.specs_have_half_words.Goals as goal

pub returns : goal.returns
returns c = spec_halves
