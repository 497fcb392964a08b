use Rattle.std.proofs.Common.{◌∙◌, ◌++◌, ℕ, List, ap, length}
use Rattle.uf2_place.specs.Blocks.{written_block}
use Rattle.script_words.proofs.ListLemmas.{block-long}
use Rattle.script_words.proofs.making.block_bytes.Goals as goal

pub returns : goal.returns
returns c =
    let whole = c.deref.ensures.value ∙ c.in_ok-push_block.ensures
    ∙ ap (λ (bs : List ℕ). bs ++ written_block c.args.block.now) c.new-bytes.ensures.items in
    c.whole_block.ensures
    (ap (λ (bs : List ℕ). length bs) whole ∙ block-long c.args.block.now c.whole_page-page.ensures.size) ∙ whole
