use Rattle.std.proofs.Common.{◌++◌, take, arith, subst}
use Rattle.sha2.specs.Hashers.{Holds256}
use Rattle.block_codec.specs.Blocks.{block_words}
use Rattle.block_codec.specs.Words.{bytes_of, word_bytes}
use Rattle.load_map.specs.Covered.{masked_words}
use Rattle.load_map.proofs.FeedingLemmas.{length-masked, words-fed}
use Rattle.load_map.proofs.digest.add_words.Goals as goal

pub loop-k-preserved : goal.loop-k-preserved
unfolding word_bytes
loop-k-preserved c = λ m held.
    let words = masked_words (block_words c.args.block.now) c.args.image_word in
    let long = length-masked c.args.block.now c.args.image_word in
    let within = c.loop-k-test.true in
    let room = c.requires in
    subst (λ message. Holds256 c.update.new.self message)
    (words-fed words m c.to_le_bytes.result c.loop-k.k c.masked_word-word.result (omega (arith, long, within, room))
    c.masked_word-word.ensures c.to_le_bytes.ensures)
    (c.update.ensures (m ++ bytes_of (take c.loop-k.k words)) (c.loop-k.invariant m held))
