use Rattle.std.proofs.Common.{◌∙◌, sym, ap, length, take}
use Rattle.part_table.specs.declared.table.TableFault.TheVariants.{Range}
use Rattle.part_table.specs.Faults.{judge_range}
use Rattle.part_table.proofs.FaultLemmas.{index_of, found_fault, sound_next, no_fault, place_of, faulty, faultless_if}
use Rattle.part_table.proofs.faults.range_fault.Goals as goal

pub returns-then-is_out_of_range : goal.returns-then-is_out_of_range
returns-then-is_out_of_range c =
    found_fault (judge_range c.args.sectors c.args.first) c.args.parts.now c.loop-i.i c.loop-i.invariant _
    (index_of c.args.parts.now c.loop-i.i c.index-parts-i.result c.loop-i-test.true c.index-parts-i.is)
    (Range c.loop-i.i)
    (faulty _ (Range (length (take c.loop-i.i c.args.parts.now))) (Range c.loop-i.i)
    (sym c.is_out_of_range.ensures ∙ c.if-is_out_of_range.true)
    (ap (λ n. Range n) (place_of c.args.parts.now c.loop-i.i c.loop-i-test.true)))

pub loop-i-preserved : goal.loop-i-preserved
loop-i-preserved c =
    sound_next (judge_range c.args.sectors c.args.first) c.args.parts.now c.loop-i.i c.loop-i.invariant _
    (index_of c.args.parts.now c.loop-i.i c.index-parts-i.result c.loop-i-test.true c.index-parts-i.is)
    (faultless_if _ (Range (length (take c.loop-i.i c.args.parts.now)))
    (sym c.is_out_of_range.ensures ∙ c.if-is_out_of_range.false))

pub returns : goal.returns
returns c = no_fault
    (judge_range c.args.sectors c.args.first) c.args.parts.now c.loop-i.i c.loop-i.invariant c.loop-i-test.false
