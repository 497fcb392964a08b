use Rattle.std.proofs.Common.{◌≡◌, ◌∙◌, sym, subst, arith, true}
use Rattle.part_table.specs.Partitions.{no_partition}
use Rattle.part_table.specs.Windows.{shares_sector}
use Rattle.part_table.proofs.TestLemmas.{first_position, no_position}
use Rattle.part_table.proofs.FaultLemmas.{index_at}
use Rattle.part_table.proofs.faults.first_shared.Goals as goal

pub returns-then-shares_sector : goal.returns-then-shares_sector
returns-then-shares_sector c =
    sym (first_position (shares_sector c.args.part.now) c.args.parts.now c.loop-k.k no_partition c.loop-k-test.true
    (subst (λ p. shares_sector c.args.part.now p ≡ true)
    (index_at c.args.parts.now c.loop-k.k c.index-parts-k.result c.loop-k-test.true c.index-parts-k.is)
    (sym c.shares_sector.ensures ∙ c.if-shares_sector.true)) c.loop-k.invariant).1

pub returns : goal.returns
returns c =
    sym (no_position (shares_sector c.args.part.now) c.args.parts.now no_partition
    (λ j lt. c.loop-k.invariant j (omega (arith, lt))))
