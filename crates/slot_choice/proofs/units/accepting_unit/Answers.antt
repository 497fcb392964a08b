use Rattle.std.proofs.Common.{◌≡◌, ◌∙◌, ap, arith, sym, option_map, length, ◌&&◌, Some}
use Rattle.part_table.specs.Families.{accepts}
use Rattle.part_table.specs.Partitions.{part_at}
use Rattle.part_table.proofs.FaultLemmas.{index_at}
use Rattle.slot_choice.specs.LoadUnits.{begins_load_unit}
use Rattle.slot_choice.specs.Units.{unit_of}
use Rattle.slot_choice.proofs.ListLemmas.{sought-more, sought-here}
use Rattle.slot_choice.proofs.units.accepting_unit.Goals.{else-begins_load_unit-via-then-begins_load_unit+else-accepts, else-begins_load_unit-via-else-begins_load_unit}
use Rattle.slot_choice.proofs.units.accepting_unit.Goals as goal

pub returns-then-accepts : goal.returns-then-accepts
returns-then-accepts c =
    let at : c.index-parts-i.result ≡ part_at c.args.parts.now c.loop-i.i =
    index_at c.args.parts.now c.loop-i.i c.index-parts-i.result
    (omega (arith, c.loop-i-test.true, c.requires.few)) c.index-parts-i.is in
    ap Some c.unit_of.ensures
    ∙ sym (ap (option_map (unit_of c.args.parts.now))
    (sought-here (λ k. accepts (part_at c.args.parts.now k) c.args.family)
    (λ k. begins_load_unit (part_at c.args.parts.now k))
    (length c.args.parts.now) c.loop-i.i (omega (arith, c.loop-i-test.true, c.requires.few)) c.loop-i.invariant
    (ap begins_load_unit (sym at) ∙ sym c.begins_load_unit.ensures ∙ c.if-begins_load_unit.true)
    (ap (λ p. accepts p c.args.family) (sym at) ∙ sym c.accepts.ensures ∙ c.if-accepts.true)))

pub loop-i-preserved : goal.loop-i-preserved
loop-i-preserved c =
    let at : c.index-parts-i.result ≡ part_at c.args.parts.now c.loop-i.i =
    index_at c.args.parts.now c.loop-i.i c.index-parts-i.result
    (omega (arith, c.loop-i-test.true, c.requires.few)) c.index-parts-i.is in
    let begins = ap begins_load_unit (sym at) ∙ sym c.begins_load_unit.ensures in
    let past = sought-more (λ k. accepts (part_at c.args.parts.now k) c.args.family)
    (λ k. begins_load_unit (part_at c.args.parts.now k))
    c.loop-i.i c.loop-i.invariant in
    elim c.else-begins_load_unit.branch [
      | else-begins_load_unit-via-then-begins_load_unit+else-accepts w ↦
          past (ap (λ b. b && accepts (part_at c.args.parts.now c.loop-i.i) c.args.family)
          (begins ∙ w.if-begins_load_unit.true)
          ∙ ap (λ p. accepts p c.args.family) (sym at) ∙ sym w.accepts.ensures ∙ w.if-accepts.false)
      | else-begins_load_unit-via-else-begins_load_unit w ↦
          past (ap (λ b. b && accepts (part_at c.args.parts.now c.loop-i.i) c.args.family)
          (begins ∙ w.if-begins_load_unit.false))
    ]
