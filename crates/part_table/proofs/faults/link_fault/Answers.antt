use Rattle.std.proofs.Common.{◌∙◌, sym, ap, length, take}
use Rattle.std.proofs.lemmas.Option.{slice_get-get_or}
use Rattle.part_table.specs.Partitions.{no_partition}
use Rattle.part_table.specs.declared.table.TableFault.TheVariants.{Link}
use Rattle.part_table.specs.Faults.{judge_link}
use Rattle.part_table.proofs.FaultLemmas.{found_fault, sound_next, no_fault, place_of, faulty, faultless_if}
use Rattle.part_table.proofs.faults.link_fault.Goals as goal

pub returns-then-is_wrong_link : goal.returns-then-is_wrong_link
returns-then-is_wrong_link c =
    found_fault (judge_link c.args.parts.now) c.args.parts.now c.loop-i.i c.loop-i.invariant _
    (slice_get-get_or c.args.parts.now c.loop-i.i no_partition c.loop-i-test.true) (Link c.loop-i.i)
    (faulty _ (Link (length (take c.loop-i.i c.args.parts.now))) (Link c.loop-i.i)
    (sym c.is_wrong_link.ensures ∙ c.if-is_wrong_link.true)
    (ap (λ n. Link n) (place_of c.args.parts.now c.loop-i.i c.loop-i-test.true)))

pub loop-i-preserved : goal.loop-i-preserved
loop-i-preserved c =
    sound_next (judge_link c.args.parts.now) c.args.parts.now c.loop-i.i c.loop-i.invariant _
    (slice_get-get_or c.args.parts.now c.loop-i.i no_partition c.loop-i-test.true)
    (faultless_if _ (Link (length (take c.loop-i.i c.args.parts.now)))
    (sym c.is_wrong_link.ensures ∙ c.if-is_wrong_link.false))

pub returns : goal.returns
returns c = no_fault (judge_link c.args.parts.now) c.args.parts.now c.loop-i.i c.loop-i.invariant c.loop-i-test.false
