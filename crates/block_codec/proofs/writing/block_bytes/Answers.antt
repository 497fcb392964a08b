use Rattle.std.proofs.Common.{◌∙◌, ap}
use Rattle.std.proofs.lemmas.Int.{to_z-of_z}
use Rattle.std.specs.Int.{cast_unsigned, w32}
use Rattle.block_codec.proofs.WriteLemmas.{all_written}
use Rattle.block_codec.proofs.writing.block_bytes.Goals as goal

pub returns : goal.returns
returns c =
    all_written c.args.items.now _ _ _ _ c.args.link c.loop-word.word-index c.last_word.result c.cast_unsigned.result
    c.loop-word-test.false c.loop-word.invariant.written
    c.last_word.ensures c.put-2.ensures.items
    (c.cast_unsigned.ensures ∙ ap (cast_unsigned w32) (to_z-of_z w32 c.args.link c.ranges.link))
    c.put-3.ensures.items
    c.put-4.ensures.items
