use Rattle.std.proofs.Common.{◌≡◌, ◌/◌, ◌∙◌, ap, sym, length, arith, nat_lt, None}
use Rattle.block_codec.proofs.FrameLemmas.{length-frame}
use Rattle.block_codec.specs.Blocks.{block_words}
use Rattle.part_table.specs.Contents.{is_misplaced_digest}
use Rattle.part_table.proofs.items.is_misplaced_digest.Goals as goal

pub returns-in-None-Some : goal.returns-in-None-Some
returns-in-None-Some c =
    let b = c.args.block.now in
    let long = length-frame b.items b.link in
    let size : c.size.result / 4 ≡ length (block_words b) = omega (arith, long, c.size.ensures.value) in
    ap (λ n. nat_lt n c.in-None-Some.count) size
    ∙ sym (ap (λ o. is_misplaced_digest (length (block_words b)) o c.args.count)
    (sym c.find_item.ensures.value ∙ c.in-None-Some.is-0)
    ∙ ap (λ o. is_misplaced_digest (length (block_words b)) None o) c.in-None-Some.is-1)
