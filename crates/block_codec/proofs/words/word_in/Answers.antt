use Rattle.std.proofs.Common.{arith, ◌∙◌, ap}
use Rattle.std.proofs.lemmas.Int.{to_z-of_z}
use Rattle.std.specs.Int.{cast_unsigned, w32}
use Rattle.block_codec.proofs.FrameLemmas.{word-start, word-item, word-last, word-link, word-end}
use Rattle.block_codec.proofs.words.word_in.Goals as goal

pub returns-then-place-eq0 : goal.returns-then-place-eq0
returns-then-place-eq0 c = word-start c.args.items.now c.args.link c.args.k (omega arith)

pub returns-then-place-count : goal.returns-then-place-count
returns-then-place-count c = word-item c.args.items.now c.args.link c.args.k c.if-place-eq0.false (omega arith)

pub returns-then-place-count-2 : goal.returns-then-place-count-2
returns-then-place-count-2 c = c.last_word.ensures ∙ word-last c.args.items.now c.args.link c.args.k (omega arith)

pub returns-then-place-count-3 : goal.returns-then-place-count-3
returns-then-place-count-3 c =
    c.cast_unsigned.ensures ∙ ap (cast_unsigned w32) (to_z-of_z w32 c.args.link c.ranges.link)
    ∙ word-link c.args.items.now c.args.link c.args.k (omega arith)

pub returns-else-place-count-3 : goal.returns-else-place-count-3
returns-else-place-count-3 c = word-end c.args.items.now c.args.link c.args.k (omega arith)
