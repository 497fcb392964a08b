use Rattle.std.proofs.Common.{◌∷◌, [], ◌∙◌, ap, arith, Err, length, length-append, pos}
use Rattle.block_codec.specs.Blocks.{frame}
use Rattle.block_codec.specs.Items.{AreItems, size_of}
use Rattle.block_codec.specs.Words.{bytes_of}
use Rattle.block_codec.proofs.FrameLemmas.{length-frame}
use Rattle.block_codec.proofs.WordLemmas.{length-bytes_of}
use Rattle.block_codec.proofs.WriteLemmas.{IsBadAt-whole}
use Rattle.image_pack.proofs.generating.put_block.Goals as goal

one-item : AreItems (0x10210142 ∷ [])
unfolding size_of
one-item = (omega arith, omega arith, tt)

pub unreachable-requires : goal.unreachable-requires
unreachable-requires c =
    let long = (c.write_block.ensures.too_long c.in-Err-TooLong.field-0-0).0
    (c.in-Err-TooLong.is ∙ ap (λ e. Err e) c.in-Err-TooLong.field-0-is) in
    omega (arith, long.0)

pub unreachable-requires-in-Err-ItemSize : goal.unreachable-requires-in-Err-ItemSize
unreachable-requires-in-Err-ItemSize c =
    let bad = (c.write_block.ensures.item_size c.in-Err-ItemSize.field-0-0).0
    (c.in-Err-ItemSize.is ∙ ap (λ e. Err e) c.in-Err-ItemSize.field-0-is) in
    IsBadAt-whole (0x10210142 ∷ []) c.in-Err-ItemSize.field-0-0 one-item bad.1

pub returns-in-Ok-clause-len : goal.returns-in-Ok-clause-len
returns-in-Ok-clause-len c =
    let words = frame (0x10210142 ∷ []) (pos 0) in
    omega (
      arith,
      ap (λ xs. length xs) c.in-Ok.ensures.ok,
      length-append c.args.out.now.items (bytes_of words),
      length-bytes_of words,
      length-frame (0x10210142 ∷ []) (pos 0),
    )
