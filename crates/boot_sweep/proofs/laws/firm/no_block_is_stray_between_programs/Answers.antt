use Rattle.boot_sweep.proofs.StrayLemmas.{none-stray}
use Rattle.boot_sweep.proofs.laws.firm.no_block_is_stray_between_programs.Goals as goal

pub returns : goal.returns
returns c = none-stray
