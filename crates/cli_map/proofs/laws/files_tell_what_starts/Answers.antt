use Rattle.cli_map.proofs.StartWordLemmas.{fallen-times, started-times}
use Rattle.cli_map.proofs.laws.files_tell_what_starts.Goals as goal

pub returns-clause-start : goal.returns-clause-start
returns-clause-start a = λ c cpu m choice right is e. started-times c cpu m right is choice e

pub returns-clause-fall : goal.returns-clause-fall
returns-clause-fall a = λ c cpu m fall right is e. fallen-times c cpu m right is fall e
