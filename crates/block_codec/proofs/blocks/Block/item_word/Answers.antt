use Rattle.std.proofs.Common.{arith}
use Rattle.block_codec.proofs.ExactLemmas.{item_word-room, item_word-within}
use Rattle.block_codec.proofs.blocks.Block.item_word.Goals as goal

pub overflow_add-item : goal.overflow_add-item
overflow_add-item c =
    let lt = item_word-room _ _ _ _ c.args.k c.self.invariant c.self.view_is c.as_slice.ensures.value
    c.requires.of_block c.requires.within in
    let few = c.as_slice.ensures.fits in
    omega (arith, lt, few)

pub word_in-requires-clause-within : goal.word_in-requires-clause-within
word_in-requires-clause-within c =
    item_word-room _ _ _ _ c.args.k c.self.invariant c.self.view_is c.as_slice.ensures.value c.requires.of_block
    c.requires.within

pub returns-clause-within : goal.returns-clause-within
returns-clause-within c =
    item_word-within _ _ _ _ c.args.k c.self.invariant c.self.view_is c.as_slice.ensures.value c.requires.of_block
    c.requires.within
