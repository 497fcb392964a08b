use Rattle.std.proofs.Common.{◌≡◌, ◌+◌, ◌++◌, ◌∙◌, ap, subst, arith, take}
use Rattle.sha2.specs.Hashers.{Holds256}
use Rattle.block_codec.specs.Blocks.{block_words}
use Rattle.block_codec.specs.Words.{bytes_of, word_bytes}
use Rattle.block_codec.proofs.FrameLemmas.{length-frame}
use Rattle.part_table.proofs.ReadLemmas.{bytes_more}
use Rattle.part_table.proofs.hashes.digest_of_words.Goals as goal

pub word-requires : goal.word-requires
word-requires c = let long =
    length-frame c.args.block.now.items c.args.block.now.link in omega (arith, long, c.requires)

pub loop-k-preserved : goal.loop-k-preserved
unfolding word_bytes
loop-k-preserved c =
    let words = block_words c.args.block.now in
    let more : bytes_of (take c.loop-k.k words) ++ c.as_slice.result.now ≡ bytes_of (take (c.loop-k.k + 1) words) =
    ap (λ bs. bytes_of (take c.loop-k.k words) ++ bs)
    (c.as_slice.ensures ∙ c.to_le_bytes.ensures ∙ ap (λ w. word_bytes w) c.word.ensures.value)
    ∙ bytes_more words c.loop-k.k (omega (arith, c.requires)) in
    subst (λ m. Holds256 c.update.new.self m) more
    (c.update.ensures (bytes_of (take c.loop-k.k words)) c.loop-k.invariant)
