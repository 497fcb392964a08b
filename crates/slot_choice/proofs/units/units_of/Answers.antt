use Rattle.std.proofs.Common.{◌≡◌, ◌∙◌, ap, arith, length, sym}
use Rattle.arrayvec.specs.ArrayVec.{ArrayVec}
use Rattle.part_table.specs.Partitions.{part_at}
use Rattle.part_table.proofs.FaultLemmas.{index_at}
use Rattle.slot_choice.specs.declared.unit.SlotUnit.{SlotUnit}
use Rattle.slot_choice.specs.Units.{begins_boot_unit, unit_of}
use Rattle.slot_choice.proofs.ListLemmas.{made-more, made-same}
use Rattle.slot_choice.proofs.units.units_of.Goals.{then-begins_boot_unit, else-begins_boot_unit}
use Rattle.slot_choice.proofs.units.units_of.Goals as goal

pub loop-i-preserved : goal.loop-i-preserved
loop-i-preserved c =
    let at : c.index-parts-i.result ≡ part_at c.args.parts.now c.loop-i.i =
    index_at c.args.parts.now c.loop-i.i c.index-parts-i.result
    (omega (arith, c.loop-i-test.true, c.requires.few)) c.index-parts-i.is in
    let tells : c.begins_boot_unit.result ≡ begins_boot_unit c.args.cpu (part_at c.args.parts.now c.loop-i.i) =
    c.begins_boot_unit.ensures ∙ ap (begins_boot_unit c.args.cpu) at in
    elim c.if-begins_boot_unit.branch [
      | then-begins_boot_unit w ↦ (
        ap (λ (us : ArrayVec SlotUnit). us.items) w.units-is
            ∙ w.push.ensures.items
            ∙ made-more (unit_of c.args.parts.now)
            (λ k. begins_boot_unit c.args.cpu (part_at c.args.parts.now k)) c.loop-i.i
            c.loop-i.units.items c.loop-i.invariant.0 w.unit_of.result
            (sym tells ∙ w.if-begins_boot_unit.true) w.unit_of.ensures,
        (let long : length c.if-begins_boot_unit.units.items ≡ length w.push.new.self.items =
            ap (λ (us : ArrayVec SlotUnit). length us.items) w.units-is in
            omega (arith, long, w.push.ensures.len, c.loop-i.invariant.1)),
      )
      | else-begins_boot_unit w ↦ (
        ap (λ (us : ArrayVec SlotUnit). us.items) w.units-is
            ∙ made-same (unit_of c.args.parts.now)
            (λ k. begins_boot_unit c.args.cpu (part_at c.args.parts.now k)) c.loop-i.i
            c.loop-i.units.items c.loop-i.invariant.0 (sym tells ∙ w.if-begins_boot_unit.false),
        (let long : length c.if-begins_boot_unit.units.items ≡ length c.loop-i.units.items =
            ap (λ (us : ArrayVec SlotUnit). length us.items) w.units-is in
            omega (arith, long, c.loop-i.invariant.1)),
      )
    ]
