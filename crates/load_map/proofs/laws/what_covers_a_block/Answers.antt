use Rattle.std.proofs.Common.{refl}
use Rattle.load_map.proofs.EntryLaws.{shared-byte, covering-byte}
use Rattle.load_map.proofs.laws.what_covers_a_block.Goals as goal

pub returns-clause-stored : goal.returns-clause-stored
returns-clause-stored c = λ b x size. (shared-byte b x size, λ shared. covering-byte b x size shared.0 shared.1)

pub returns-clause-clear : goal.returns-clause-clear
returns-clause-clear c = λ b size. refl
