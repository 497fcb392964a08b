use Rattle.table_json.proofs.SaysLemmas.{says_text}
use Rattle.table_json.proofs.laws.partitions_say_their_texts.Goals as goal

pub returns : goal.returns
returns c = says_text
