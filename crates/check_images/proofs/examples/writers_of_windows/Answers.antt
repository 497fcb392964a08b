use Rattle.std.proofs.Common.{refl}
use Rattle.check_images.proofs.examples.writers_of_windows.Goals as goal

pub returns-clause-script : goal.returns-clause-script
returns-clause-script c = refl

pub returns-clause-boot : goal.returns-clause-boot
returns-clause-boot c = refl

pub returns-clause-buy : goal.returns-clause-buy
returns-clause-buy c = refl

pub returns-clause-torn : goal.returns-clause-torn
returns-clause-torn c = refl

pub returns-clause-beside : goal.returns-clause-beside
returns-clause-beside c = refl

pub returns-clause-raise : goal.returns-clause-raise
returns-clause-raise c = refl

pub returns-clause-nothing : goal.returns-clause-nothing
returns-clause-nothing c = refl

pub returns-clause-before : goal.returns-clause-before
returns-clause-before c = refl
