use Rattle.std.proofs.Common.{◌≡◌, ◌+◌, ◌<◌, ℕ, ◌∙◌, sym, ap, subst, arith, length, List, true}
use Rattle.arrayvec.specs.ArrayVec.{ArrayVec}
use Rattle.part_table.specs.Partitions.{part_at}
use Rattle.part_table.proofs.FaultLemmas.{index_at}
use Rattle.slot_choice.proofs.ListLemmas.{made-more, made-same}
use Rattle.owner_data.specs.Owners.{is_owned_by, taken_part}
use Rattle.owner_data.proofs.DataLemmas.{room}
use Rattle.owner_data.proofs.owners.data_of.Goals.{then-is_owned_by, else-is_owned_by}
use Rattle.owner_data.proofs.owners.data_of.Goals as goal

pub push-requires : goal.push-requires
push-requires c =
    let at : c.index-parts-i.result ≡ part_at c.args.parts.now c.loop-i.i =
    index_at c.args.parts.now c.loop-i.i c.index-parts-i.result c.loop-i-test.true c.index-parts-i.is in
    let own : is_owned_by c.args.owner (part_at c.args.parts.now c.loop-i.i) ≡ true =
    ap (is_owned_by c.args.owner) (sym at) ∙ sym c.is_owned_by.ensures ∙ c.if-is_owned_by.true in
    let left : length c.loop-i.data.items + 1 < length c.args.parts.now =
    subst (λ (xs : List ℕ). length xs + 1 < length c.args.parts.now) (sym c.loop-i.invariant)
    (room c.args.parts.now c.requires.links c.args.owner c.args.second c.loop-i.i c.requires.owner c.loop-i-test.true
    own) in
    let few : length c.loop-i.data.items < 14 = omega (arith, left, c.requires.few) in
    (omega arith, few)

pub loop-i-preserved : goal.loop-i-preserved
loop-i-preserved c =
    let at : c.index-parts-i.result ≡ part_at c.args.parts.now c.loop-i.i =
    index_at c.args.parts.now c.loop-i.i c.index-parts-i.result c.loop-i-test.true c.index-parts-i.is in
    let tells : c.is_owned_by.result ≡ is_owned_by c.args.owner (part_at c.args.parts.now c.loop-i.i) =
    c.is_owned_by.ensures ∙ ap (is_owned_by c.args.owner) at in
    elim c.if-is_owned_by.branch [
      | then-is_owned_by w ↦
          ap (λ (xs : ArrayVec ℕ). xs.items) w.data-is
          ∙ w.push.ensures.items
          ∙ made-more (taken_part c.args.parts.now c.args.second)
          (λ k. is_owned_by c.args.owner (part_at c.args.parts.now k)) c.loop-i.i
          c.loop-i.data.items c.loop-i.invariant w.taken_part.result
          (sym tells ∙ w.if-is_owned_by.true) w.taken_part.ensures
      | else-is_owned_by w ↦
          ap (λ (xs : ArrayVec ℕ). xs.items) w.data-is
          ∙ made-same (taken_part c.args.parts.now c.args.second)
          (λ k. is_owned_by c.args.owner (part_at c.args.parts.now k)) c.loop-i.i
          c.loop-i.data.items c.loop-i.invariant (sym tells ∙ w.if-is_owned_by.false)
    ]
