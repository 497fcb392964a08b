use Rattle.std.proofs.Common.{◌∙◌, ◌%◌, ◌/◌, ◌+◌, ap, arith}
use Rattle.block_codec.specs.Blocks.{block_words}
use Rattle.block_codec.proofs.FrameLemmas.{length-frame}
use Rattle.image_def.proofs.RowLemmas.{tail-low, tail-high, tail-inside}
use Rattle.image_def.proofs.rows.tail_half.Goals as goal

pub returns-then-k-eq0-clause-value : goal.returns-then-k-eq0-clause-value
returns-then-k-eq0-clause-value c =
    ap (λ w. w % 65536) c.item_word-word.ensures.value
    ∙ tail-low (block_words c.args.block.now) c.args.item.now c.args.k (2 + c.from.result)
    (omega (arith, c.from.ensures)) c.if-k-eq0.true

pub returns-else-k-eq0-clause-value : goal.returns-else-k-eq0-clause-value
returns-else-k-eq0-clause-value c =
    ap (λ w. w / 65536) c.item_word-word.ensures.value
    ∙ tail-high (block_words c.args.block.now) c.args.item.now c.args.k (2 + c.from.result)
    (omega (arith, c.from.ensures)) (omega (arith, c.if-k-eq0.false))

pub returns-then-k-eq0-clause-inside : goal.returns-then-k-eq0-clause-inside
returns-then-k-eq0-clause-inside c =
    let long = length-frame c.args.block.now.items c.args.block.now.link in
    tail-inside (block_words c.args.block.now) c.args.item.now c.args.k (2 + c.from.result)
    (omega (arith, c.from.ensures)) (omega (arith, long, c.item_word-word.ensures.within))

pub returns-else-k-eq0-clause-inside : goal.returns-else-k-eq0-clause-inside
returns-else-k-eq0-clause-inside c =
    let long = length-frame c.args.block.now.items c.args.block.now.link in
    tail-inside (block_words c.args.block.now) c.args.item.now c.args.k (2 + c.from.result)
    (omega (arith, c.from.ensures)) (omega (arith, long, c.item_word-word.ensures.within))
