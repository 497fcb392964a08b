use Rattle.std.proofs.Common.{◌∙◌, ap, sym, cond, length, None, Some, arith}
use Rattle.std.proofs.lemmas.Bool.{le-leb, lt-leb}
use Rattle.block_codec.specs.Blocks.{block_words}
use Rattle.block_codec.specs.Items.{items_of}
use Rattle.block_codec.specs.declared.kinds.TheConstants.{HASH_DEF}
use Rattle.block_codec.proofs.FrameLemmas.{length-frame}
use Rattle.image_def.specs.declared.fault.DefFault.TheVariants.{BadItem}
use Rattle.image_def.proofs.FaultLemmas.{last-counted}
use Rattle.image_def.proofs.judging.fault_after.Goals as goal

pub returns-in-None-Some : goal.returns-in-None-Some
returns-in-None-Some c =
    let words = block_words c.args.block.now in
    let long = length-frame c.args.block.now.items c.args.block.now.link in
    let count = c.in-None-Some.count in
    let past = lt-leb count (length words) (omega (arith, long, c.size.ensures.value, c.if-count-size.true)) in
    sym (last-counted words (items_of c.args.block.now.items) count
    (sym c.find_item.ensures.value ∙ c.in-None-Some.is-0)
    (sym c.hashed_words-count.ensures ∙ c.in-None-Some.is-1) ∙ ap (λ b. cond b None (Some (BadItem HASH_DEF))) past)

pub returns-in_default-2 : goal.returns-in_default-2
returns-in_default-2 c =
    let words = block_words c.args.block.now in
    let long = length-frame c.args.block.now.items c.args.block.now.link in
    let count = c.in-None-Some.count in
    let inside = le-leb count (length words) (omega (arith, long, c.size.ensures.value, c.if-count-size.false)) in
    sym (last-counted words (items_of c.args.block.now.items) count
    (sym c.find_item.ensures.value ∙ c.in-None-Some.is-0)
    (sym c.hashed_words-count.ensures ∙ c.in-None-Some.is-1) ∙ ap (λ b. cond b None (Some (BadItem HASH_DEF))) inside)
