use Rattle.std.proofs.Common.{ℕ, ◌∙◌, ap, sym, arith, cond}
use Rattle.std.proofs.lemmas.Bool.{eq-eqb, ne_eqb}
use Rattle.block_codec.specs.Items.{items_of}
use Rattle.block_codec.specs.Kinds.{is_of_kind}
use Rattle.part_table.proofs.SearchLemmas.{counted_more}
use Rattle.part_table.proofs.items.is_repeated.Goals as goal
use Rattle.part_table.proofs.items.is_repeated.Goals.{then-kind_of-kind, else-kind_of-kind}

pub loop-i-preserved : goal.loop-i-preserved
loop-i-preserved c =
    let more = counted_more (is_of_kind c.args.kind)
    (items_of c.args.block.now.items) c.loop-i.i c.item.result c.item.ensures.value in
    elim c.if-kind_of-kind.branch [
      | then-kind_of-kind w ↦
          let one = ap {B = ℕ} (λ b. cond b 1 0) (eq-eqb _ _ (sym c.kind_of.ensures ∙ w.if-kind_of-kind.true)) in
          record { so_far = omega (arith, more, one, w.count-is); few = omega (arith, w.count-is) }
      | else-kind_of-kind w ↦
          let none = ap {B = ℕ} (λ b. cond b 1 0) (ne_eqb _ _ (λ e. w.if-kind_of-kind.false (c.kind_of.ensures ∙ e))) in
          record { so_far = omega (arith, more, none, w.count-is); few = omega (arith, w.count-is) }
    ]
