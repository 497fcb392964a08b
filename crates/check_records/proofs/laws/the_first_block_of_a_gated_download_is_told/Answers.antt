use Rattle.check_records.proofs.GatedLemmas.{held-gated}
use Rattle.check_records.proofs.laws.the_first_block_of_a_gated_download_is_told.Goals as goal

pub returns : goal.returns
returns k = λ c cpu events. held-gated c cpu events
