-- By computing.
use Rattle.std.proofs.Common.{refl}
use Rattle.uf2_place.specs.Blocks.{word_bytes}
use Rattle.uf2_place.proofs.examples.faults_of_blocks.Goals as goal

pub returns-clause-none : goal.returns-clause-none
unfolding word_bytes
returns-clause-none c = refl

pub returns-clause-magic : goal.returns-clause-magic
unfolding word_bytes
returns-clause-magic c = refl

pub returns-clause-payload : goal.returns-clause-payload
unfolding word_bytes
returns-clause-payload c = refl

pub returns-clause-alignment : goal.returns-clause-alignment
unfolding word_bytes
returns-clause-alignment c = refl

pub returns-clause-number : goal.returns-clause-number
unfolding word_bytes
returns-clause-number c = refl

pub returns-clause-payload_and_alignment : goal.returns-clause-payload_and_alignment
unfolding word_bytes
returns-clause-payload_and_alignment c = refl

pub returns-clause-alignment_and_number : goal.returns-clause-alignment_and_number
unfolding word_bytes
returns-clause-alignment_and_number c = refl
