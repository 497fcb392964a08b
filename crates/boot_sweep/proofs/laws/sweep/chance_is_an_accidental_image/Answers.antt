use Rattle.boot_sweep.proofs.ChanceLemmas.{line-accident}
use Rattle.boot_sweep.proofs.CountLemmas.{chances, few-chances}
use Rattle.boot_sweep.proofs.LineLemmas.{line-of-sweep}
use Rattle.boot_sweep.proofs.laws.sweep.chance_is_an_accidental_image.Goals as goal

pub returns-clause-no_accident : goal.returns-clause-no_accident
returns-clause-no_accident c = λ content cpu pattern steps line w right usable small none slot has chance.
    let is = line-of-sweep content cpu pattern steps line has in
    line-accident content cpu pattern steps line w right small none slot is.0 is.1 chance

pub returns-clause-few : goal.returns-clause-few
returns-clause-few c = λ content cpu pattern steps right usable small none.
    few-chances content cpu pattern steps right small none

pub returns-clause-programs : goal.returns-clause-programs
returns-clause-programs c = λ content cpu pattern steps w s elsewhere last right usable small none slot gated.
    chances content cpu pattern steps w right small none slot s elsewhere last gated
