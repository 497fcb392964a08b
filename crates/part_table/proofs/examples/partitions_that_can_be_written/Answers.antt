use Rattle.std.proofs.Common.{◌<◌, arith}
use Rattle.part_table.proofs.GreatestLemmas.{widest}
use Rattle.part_table.proofs.examples.partitions_that_can_be_written.Goals as goal

pub returns-clause-greatest : goal.returns-clause-greatest
returns-clause-greatest c = widest

pub returns-clause-byte : goal.returns-clause-byte
returns-clause-byte c = λ is. let low : 256 < 256 = is.bytes 0 in absurd (omega (arith, low))
