use Rattle.load_map.proofs.BlockWordLemmas.{masked-here, masked-other, masked-count, masked-front}
use Rattle.load_map.proofs.laws.the_trial_bit_is_masked.Goals as goal

pub returns-clause-here : goal.returns-clause-here
returns-clause-here c = masked-here

pub returns-clause-others : goal.returns-clause-others
returns-clause-others c = masked-other

pub returns-clause-count : goal.returns-clause-count
returns-clause-count c = masked-count

pub returns-clause-behind : goal.returns-clause-behind
returns-clause-behind c = masked-front
