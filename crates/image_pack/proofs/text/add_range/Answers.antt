use Rattle.std.proofs.Common.{◌+◌, ◌-◌, ◌++◌, ap, ◌∙◌, subst, append_assoc, replicate, slice_range}
use Rattle.sha2.specs.Hashers.{Holds256}
use Rattle.image_pack.proofs.RangeLemmas.{erased_behind-parts}
use Rattle.image_pack.proofs.text.add_range.Goals as goal

pub returns : goal.returns
returns c = λ m held.
    let bytes = c.args.bytes.now in
    let part = slice_range bytes c.min-from.result (c.min-from.result + c.min-count.result) in
    let behind = replicate (c.args.size - c.min-count.result) 255 in
    subst (λ message. Holds256 c.add_erased.new.hasher message)
    (append_assoc m part behind
    ∙ ap (λ xs. m ++ xs) (erased_behind-parts c.args.start c.args.size c.min-from.result c.min-count.result bytes
    c.min-from.ensures c.min-count.ensures))
    (c.add_erased.ensures (m ++ part) (c.update.ensures m held))
