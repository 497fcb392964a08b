use Rattle.std.proofs.Common.{◌-◌, ◌≤◌, ◌++◌, ◌∙◌, pos, replicate, take, List, ℕ, Err, ap, arith, length, subst, sym}
use Rattle.block_codec.specs.Blocks.{frame}
use Rattle.block_codec.specs.Items.{AreItems}
use Rattle.block_codec.specs.Words.{bytes_of}
use Rattle.elf_pack.specs.Binaries.{first_storage}
use Rattle.elf_pack.proofs.StoredLemmas.{block-padded}
use Rattle.elf_pack.proofs.StoringLemmas.{block-memory, items_few, items_whole}
use Rattle.elf_pack.proofs.storing.sram_block.Goals as goal

pub want_of_memory-requires : goal.want_of_memory-requires
want_of_memory-requires c =
    let xs = c.args.segments.now in
    let same = c.as_slice.ensures.value ∙ c.sram_items-items.ensures in
    block-memory c.in-Err.error c.as_slice.result.now
    (subst (λ (ws : List ℕ). length ws ≤ 156) (sym same)
    (omega (arith, items_few c.args.cpu c.args.entry xs c.requires.few, c.requires.few)))
    (subst AreItems (sym same) (items_whole c.args.cpu c.args.entry xs c.requires.few))
    (λ n h. ((c.in-Err.ensures.too_long n).0 (ap Err h)).0)
    (λ i h. ((c.in-Err.ensures.item_size i).0 (ap Err h)).1)

pub returns-clause-value : goal.returns-clause-value
returns-clause-value c =
    let block = bytes_of (frame c.as_slice.result.now (pos 0)) in
    let written = c.write_block.new.out in
    block-padded c.args.cpu c.args.entry c.args.segments.now c.requires.few c.as_slice.result.now written.items _
    (c.as_slice.ensures.value ∙ c.sram_items-items.ensures)
    (c.in-Ok.ensures.ok ∙ ap (λ (ys : List ℕ). ys ++ block) c.new-bytes.ensures.items)
    (c.in_ok-resize.ensures.items
    ∙ ap (λ n. take first_storage written.items ++ replicate (first_storage - n) 255) written.ok.0)
