use Rattle.boot_sweep.proofs.BeforeLineLaws.{no-chance-before}
use Rattle.boot_sweep.proofs.laws.firm.no_cut_before_a_step_is_chance.Goals as goal

pub returns : goal.returns
returns c = no-chance-before
