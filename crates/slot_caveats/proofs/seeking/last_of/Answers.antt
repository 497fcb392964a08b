use Rattle.std.proofs.Common.{◌≤◌, Bool, cond, Some, length, arith, ap, sym, ◌∙◌}
use Rattle.slot_caveats.specs.Sought.{is_sought}
use Rattle.block_loop.proofs.PlaceLemmas.{as-many}
use Rattle.slot_caveats.proofs.SeenLemmas.{last-all, last-more}
use Rattle.slot_caveats.proofs.seeking.last_of.Goals.{then-is_sought, else-is_sought}
use Rattle.slot_caveats.proofs.seeking.last_of.Goals as goal

pub loop-i-preserved : goal.loop-i-preserved
loop-i-preserved g c = λ loop is.
    last-more (is_sought c.args.what) loop c.loop-i.i c.block_of-block.result (c.block_of-block.ensures.exact loop is)
    c.loop-i.last c.if-is_sought.last
    (c.loop-i.invariant loop is)
    (elim c.if-is_sought.branch [
      | then-is_sought w ↦ w.last-is
          ∙ sym (ap (λ (t : Bool). cond t (Some c.block_of-block.result) c.loop-i.last)
          (sym c.is_sought.ensures ∙ w.if-is_sought.true))
      | else-is_sought w ↦ w.last-is
          ∙ sym (ap (λ (t : Bool). cond t (Some c.block_of-block.result) c.loop-i.last)
          (sym c.is_sought.ensures ∙ w.if-is_sought.false))
    ])

pub returns : goal.returns
returns g c = λ loop is.
    let few : length loop ≤ c.loop-i.i =
    omega (
      arith,
      as-many (g.V.View.bytes c.args.view.now) c.args.found.now c.requires.loop_ loop is,
      c.loop-i-test.false,
      c.count-i-end.ensures.value,
    ) in
    last-all (is_sought c.args.what) loop c.loop-i.i few c.loop-i.last (c.loop-i.invariant loop is)
