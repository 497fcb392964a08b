use Rattle.std.proofs.Common.{◌++◌, ◌∙◌, ap, arith}
use Rattle.std.proofs.lemmas.List.{take_all}
use Rattle.block_codec.specs.Words.{words_of}
use Rattle.block_codec.proofs.WordLemmas.{length-words_of}
use Rattle.part_table.proofs.WriteLemmas.{one_word_more}
use Rattle.part_table.proofs.writing.put_bytes.Goals as goal

pub loop-k-preserved : goal.loop-k-preserved
loop-k-preserved c = record {
  so_far =
      one_word_more c.args.words.now.items c.loop-k.words.items c.push.new.self.items c.args.bytes.now c.loop-k.k
      c.read_u32.result
      (omega arith) c.read_u32.ensures c.loop-k.invariant.so_far c.push.ensures.items;
  long = omega arith;
}

pub returns : goal.returns
returns c =
    c.loop-k.invariant.so_far
    ∙ ap (λ ws. c.args.words.now.items ++ ws)
    (take_all c.loop-k.k (words_of c.args.bytes.now)
    (let long = length-words_of c.args.bytes.now in omega (arith, long)))
