use Rattle.std.proofs.Common.{◌≤◌, length, arith, ap, ◌∙◌}
use Rattle.std.specs.List.{list_any}
use Rattle.image_def.specs.Suits.{has_image_type, last_suiting}
use Rattle.block_loop.proofs.PlaceLemmas.{stands-at}
use Rattle.image_check.proofs.SeenLemmas.{all-blocks, suiting-step, typed-step}
use Rattle.image_check.proofs.examining.scan_blocks.Goals as goal

pub block_there-requires : goal.block_there-requires
block_there-requires g c =
    stands-at (g.V.View.bytes c.args.view.now) c.args.found.now c.loop-i.i c.at.result c.requires.loop_ c.at.ensures

pub loop-i-preserved : goal.loop-i-preserved
loop-i-preserved g c =
    let w = g.V.View.bytes c.args.view.now in
    record {
      typed =
          λ loop is. typed-step w c.args.found.now c.requires.loop_ c.args.cpu c.loop-i.i c.at.result c.at.ensures
          c.block_there.result
          c.block_there.ensures loop is _ _ (c.loop-i.invariant.typed loop is) c.scan_block-seen.ensures.typed;
      suiting =
          λ loop is. suiting-step w c.args.found.now c.requires.loop_ c.args.cpu c.loop-i.i c.at.result c.at.ensures
          c.block_there.result
          c.block_there.ensures loop is _ _ (c.loop-i.invariant.suiting loop is) c.scan_block-seen.ensures.suiting;
    }

pub returns-clause-typed : goal.returns-clause-typed
returns-clause-typed g c = λ loop is.
    let few : length c.args.found.now ≤ c.loop-i.i = omega (arith, c.loop-i-test.false, c.count-i-end.ensures.value) in
    c.loop-i.invariant.typed loop is
    ∙ ap (list_any has_image_type) (all-blocks (g.V.View.bytes c.args.view.now) c.args.found.now c.requires.loop_
    c.loop-i.i few loop is)

pub returns-clause-suiting : goal.returns-clause-suiting
returns-clause-suiting g c = λ loop is.
    let few : length c.args.found.now ≤ c.loop-i.i = omega (arith, c.loop-i-test.false, c.count-i-end.ensures.value) in
    c.loop-i.invariant.suiting loop is
    ∙ ap (last_suiting c.args.cpu) (all-blocks (g.V.View.bytes c.args.view.now) c.args.found.now c.requires.loop_
    c.loop-i.i few loop is)
