-- By computing.
use Rattle.std.proofs.Common.{refl, arith}
use Rattle.uf2_place.specs.Blocks.{written_block, word_bytes as uf2_bytes}
use Rattle.boot_machine.proofs.examples.play.blocks_that_begin_a_download.Goals as goal

pub returns-clause-first : goal.returns-clause-first
unfolding written_block uf2_bytes
returns-clause-first c = record { is = refl; same = refl; kept = refl; new = tt }

pub returns-clause-another_count : goal.returns-clause-another_count
unfolding written_block uf2_bytes
returns-clause-another_count c = record { is = refl; same = refl; kept = refl; new = refl }

pub returns-clause-next : goal.returns-clause-next
returns-clause-next c = λ bytes begins. let new = begins.new in cc new

pub returns-clause-skipped : goal.returns-clause-skipped
returns-clause-skipped c = λ bytes begins. let kept = begins.kept in cc kept

pub returns-clause-another_family : goal.returns-clause-another_family
returns-clause-another_family c = λ bytes begins. let no : ⊥ = omega (arith, begins.same) in no
