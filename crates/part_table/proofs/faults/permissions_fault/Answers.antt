use Rattle.std.proofs.Common.{◌∙◌, sym, ap, length, take}
use Rattle.std.proofs.lemmas.Bool.{eq-eqb, ne_eqb}
use Rattle.part_table.specs.declared.table.TableFault.TheVariants.{Permissions}
use Rattle.part_table.specs.Faults.{judge_permissions}
use Rattle.part_table.proofs.FaultLemmas.{index_of, found_fault, sound_next, no_fault, place_of, faulty_unless, faultless_unless}
use Rattle.part_table.proofs.faults.permissions_fault.Goals as goal

pub returns-then-permissions_of : goal.returns-then-permissions_of
returns-then-permissions_of c =
    found_fault judge_permissions c.args.parts.now c.loop-i.i c.loop-i.invariant c.index-parts-i.result
    (index_of c.args.parts.now c.loop-i.i c.index-parts-i.result c.loop-i-test.true c.index-parts-i.is)
    (Permissions c.loop-i.i)
    (faulty_unless _ (Permissions (length (take c.loop-i.i c.args.parts.now))) (Permissions c.loop-i.i)
    (ne_eqb _ _ (λ e. c.if-permissions_of.true (c.permissions_of.ensures ∙ e ∙ sym c.permissions_of-in-loop-i.ensures)))
    (ap (λ n. Permissions n) (place_of c.args.parts.now c.loop-i.i c.loop-i-test.true)))

pub loop-i-preserved : goal.loop-i-preserved
loop-i-preserved c =
    sound_next judge_permissions c.args.parts.now c.loop-i.i c.loop-i.invariant c.index-parts-i.result
    (index_of c.args.parts.now c.loop-i.i c.index-parts-i.result c.loop-i-test.true c.index-parts-i.is)
    (faultless_unless _ (Permissions (length (take c.loop-i.i c.args.parts.now)))
    (eq-eqb _ _ (sym c.permissions_of.ensures ∙ c.if-permissions_of.false ∙ c.permissions_of-in-loop-i.ensures)))

pub returns : goal.returns
returns c = no_fault judge_permissions c.args.parts.now c.loop-i.i c.loop-i.invariant c.loop-i-test.false
