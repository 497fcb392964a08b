use Rattle.std.proofs.Common.{◌+◌}
use Rattle.std.proofs.lemmas.List.{take_rest}
use Rattle.part_table.specs.declared.table.TableFault.TheVariants.{Overlap}
use Rattle.part_table.specs.Faults.{judge_overlap}
use Rattle.part_table.proofs.FaultLemmas.{index_of, found_fault, sound_next, no_fault, overlaps, no_overlap}
use Rattle.part_table.proofs.faults.overlap_fault.Goals as goal

pub returns-in-Some : goal.returns-in-Some
returns-in-Some c =
    found_fault (judge_overlap c.args.parts.now) c.args.parts.now c.loop-i.i c.loop-i.invariant c.index-parts-i.result
    (index_of c.args.parts.now c.loop-i.i c.index-parts-i.result c.loop-i-test.true c.index-parts-i.is)
    (Overlap c.loop-i.i (c.loop-i.i + 1 + c.in-Some.k))
    (overlaps c.args.parts.now c.loop-i.i c.index-parts-i.result c.loop-i-test.true c.in-Some.k _
    (take_rest c.args.parts.now (c.loop-i.i + 1)) c.in-Some.ensures)

pub loop-i-preserved : goal.loop-i-preserved
loop-i-preserved c =
    sound_next (judge_overlap c.args.parts.now) c.args.parts.now c.loop-i.i c.loop-i.invariant c.index-parts-i.result
    (index_of c.args.parts.now c.loop-i.i c.index-parts-i.result c.loop-i-test.true c.index-parts-i.is)
    (no_overlap c.args.parts.now c.loop-i.i c.index-parts-i.result c.loop-i-test.true _
    (take_rest c.args.parts.now (c.loop-i.i + 1)) c.in_default.ensures)

pub returns : goal.returns
returns c = no_fault (judge_overlap c.args.parts.now) c.args.parts.now c.loop-i.i c.loop-i.invariant c.loop-i-test.false
