use Rattle.std.proofs.Common.{◌≡◌, ◌∙◌, sym, subst, arith, true}
use Rattle.part_table.specs.Partitions.{no_partition}
use Rattle.part_table.specs.Links.{is_second_of}
use Rattle.part_table.proofs.TestLemmas.{first_position, no_position}
use Rattle.part_table.proofs.FaultLemmas.{index_at}
use Rattle.slot_choice.proofs.units.second_of.Goals as goal

pub returns-then-is_second_of-clause-value : goal.returns-then-is_second_of-clause-value
returns-then-is_second_of-clause-value c =
    sym (first_position (is_second_of c.args.first) c.args.parts.now c.loop-i.i no_partition
    (omega (arith, c.loop-i-test.true, c.requires.few))
    (subst (λ p. is_second_of c.args.first p ≡ true)
    (index_at c.args.parts.now c.loop-i.i c.index-parts-i.result
    (omega (arith, c.loop-i-test.true, c.requires.few)) c.index-parts-i.is)
    (sym c.is_second_of.ensures ∙ c.if-is_second_of.true)) c.loop-i.invariant).1

pub returns-clause-value : goal.returns-clause-value
returns-clause-value c =
    sym (no_position (is_second_of c.args.first) c.args.parts.now no_partition
    (λ j lt. c.loop-i.invariant j (omega (arith, lt, c.loop-i-test.false, c.requires.few))))
