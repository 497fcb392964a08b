-- By computing.
use Rattle.std.proofs.Common.{refl}
use Rattle.uf2_place.specs.Blocks.{word_bytes, written_block}
use Rattle.uf2_place.proofs.examples.blocks_of_other_families.Goals as goal

pub returns-clause-riscv : goal.returns-clause-riscv
unfolding word_bytes
returns-clause-riscv c = refl

pub returns-clause-unnamed : goal.returns-clause-unnamed
unfolding word_bytes
returns-clause-unnamed c = refl

pub returns-clause-fault : goal.returns-clause-fault
unfolding word_bytes
returns-clause-fault c = refl

pub returns-clause-written : goal.returns-clause-written
unfolding written_block word_bytes
returns-clause-written c = λ page. refl
