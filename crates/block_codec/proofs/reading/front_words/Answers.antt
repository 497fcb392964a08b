use Rattle.std.proofs.Common.{arith}
use Rattle.block_codec.proofs.ReadLemmas.{words_read-more, words_read-all}
use Rattle.block_codec.proofs.reading.front_words.Goals as goal

pub loop-k-preserved : goal.loop-k-preserved
loop-k-preserved c =
    words_read-more c.args.piece.now c.loop-k.words.items c.push.new.self.items c.loop-k.k c.read_u32.result
    (omega arith) c.read_u32.ensures
    c.loop-k.invariant c.push.ensures.items

pub returns : goal.returns
returns c = words_read-all c.args.piece.now c.loop-k.words.items c.loop-k.k (omega arith) c.loop-k.invariant
