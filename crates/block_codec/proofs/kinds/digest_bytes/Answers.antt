use Rattle.std.proofs.Common.{◌≡◌, ◌+◌, ◌++◌, sym, ap, ◌∙◌, arith, slice_range}
use Rattle.block_codec.specs.Blocks.{block_words}
use Rattle.block_codec.specs.Words.{bytes_of, word_bytes}
use Rattle.block_codec.proofs.FrameLemmas.{length-frame}
use Rattle.block_codec.proofs.KindLemmas.{bytes_of_one_more}
use Rattle.block_codec.proofs.kinds.digest_bytes.Goals as goal

pub loop-k-preserved : goal.loop-k-preserved
loop-k-preserved c =
    let b = c.args.block.now in
    let first = c.args.item.now.first in
    let long = length-frame b.items b.link in
    let more = bytes_of_one_more (block_words b) (first + 1) (first + c.loop-k.k) (omega arith) (omega arith) in
    let next : first + (c.loop-k.k + 1) ≡ first + c.loop-k.k + 1 = omega arith in
    record {
      so_far =
          c.put.ensures.items
          ∙ ap (λ xs. xs ++ word_bytes c.item_word.result) c.loop-k.invariant.so_far
          ∙ ap (λ w. bytes_of (slice_range (block_words b) (first + 1) (first + c.loop-k.k)) ++ word_bytes w)
          c.item_word.ensures.value
          ∙ sym more
          ∙ ap (λ n. bytes_of (slice_range (block_words b) (first + 1) n)) (sym next);
      long = omega arith;
    }
