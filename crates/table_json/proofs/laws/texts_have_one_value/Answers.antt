use Rattle.table_json.proofs.WholeLemmas.{one_value}
use Rattle.table_json.proofs.laws.texts_have_one_value.Goals as goal

pub returns : goal.returns
returns c = one_value
