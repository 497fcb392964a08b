use Rattle.std.proofs.Common.{◌≡◌, ◌+◌, ◌∷◌, ◌++◌, [], sym, ap, ◌∙◌, arith, slice_range}
use Rattle.std.proofs.lemmas.List.Edits.{between_more}
use Rattle.block_codec.specs.Blocks.{block_words}
use Rattle.block_codec.proofs.FrameLemmas.{length-frame}
use Rattle.image_pack.proofs.parts.item_words.Goals as goal

pub loop-k-preserved : goal.loop-k-preserved
loop-k-preserved c =
    let b = c.args.block.now in
    let first = c.args.item.now.first in
    let long = length-frame b.items b.link in
    let more = between_more (block_words b) first (first + c.loop-k.k) 0 (omega arith) (omega arith) in
    let next : first + c.loop-k.k + 1 ≡ first + (c.loop-k.k + 1) = omega arith in
    record {
      so_far =
          c.push.ensures.items
          ∙ ap (λ xs. xs ++ c.item_word.result ∷ []) c.loop-k.invariant.so_far
          ∙ ap (λ w. slice_range (block_words b) first (first + c.loop-k.k) ++ w ∷ []) c.item_word.ensures.value
          ∙ sym more
          ∙ ap (slice_range (block_words b) first) next;
      long = omega arith;
    }
