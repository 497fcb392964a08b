use Rattle.std.proofs.Common.{◌≤◌, length, arith, refl, subst}
use Rattle.image_check.specs.SameImage.{AgreeOnBlocks}
use Rattle.image_check.proofs.SameLemmas.{block-agrees, block-room, blocks-more}
use Rattle.block_loop.proofs.PlaceLemmas.{stands-at}
use Rattle.image_check.proofs.SeenLemmas.{all-blocks}
use Rattle.image_check.proofs.same.same_blocks.Goals as goal

pub block_there-block-requires : goal.block_there-block-requires
block_there-block-requires g c =
    stands-at (g.V.View.bytes c.args.one.now) c.args.found.now c.loop-i.i c.at.result c.requires.loop_ c.at.ensures

pub same_range-requires-clause-in_one : goal.same_range-requires-clause-in_one
same_range-requires-clause-in_one g c =
    block-room (g.V.View.bytes c.args.one.now) c.at.result _ _ c.block_there-block.result c.block_there-block.ensures
    c.at-in-loop-i.ensures.value c.size.ensures.value

pub same_range-requires-clause-in_two : goal.same_range-requires-clause-in_two
same_range-requires-clause-in_two g c =
    let room = block-room (g.V.View.bytes c.args.one.now) c.at.result _ _ c.block_there-block.result
    c.block_there-block.ensures
    c.at-in-loop-i.ensures.value c.size.ensures.value in
    omega (arith, room, c.requires.long)

pub returns-then-not-same_range : goal.returns-then-not-same_range
returns-then-not-same_range g c = λ loop is. (
  λ e. cc,
  λ agree.
      let same = c.same_range.ensures.1 (block-agrees (g.V.View.bytes c.args.one.now)
      (g.W.View.bytes c.args.two.now) c.args.found.now
      c.requires.loop_ c.loop-i.i c.at.result c.at.ensures c.block_there-block.result c.block_there-block.ensures _ _
      c.at-in-loop-i.ensures.value c.size.ensures.value loop is agree) in
      cc,
)

pub loop-i-preserved : goal.loop-i-preserved
loop-i-preserved g c = λ loop is.
    blocks-more (g.V.View.bytes c.args.one.now) (g.W.View.bytes c.args.two.now) c.args.found.now
    c.requires.loop_ c.loop-i.i c.at.result c.at.ensures c.block_there-block.result c.block_there-block.ensures _ _
    c.at-in-loop-i.ensures.value c.size.ensures.value loop is (c.loop-i.invariant loop is)
    (c.same_range.ensures.0 c.if-not-same_range.false)

pub returns : goal.returns
returns g c = λ loop is.
    let few : length c.args.found.now ≤ c.loop-i.i = omega (arith, c.loop-i-test.false, c.count-i-end.ensures.value) in
    let all = all-blocks (g.V.View.bytes c.args.one.now) c.args.found.now c.requires.loop_ c.loop-i.i few loop is in (
      λ e. subst (AgreeOnBlocks (g.V.View.bytes c.args.one.now) (g.W.View.bytes c.args.two.now)) all
          (c.loop-i.invariant loop is),
      λ agree. refl,
    )
