use Rattle.std.proofs.Common.{◌≡◌, ℕ, ℤ, pos, negsuc, zero, suc, [], ◌∷◌, Some, refl, sym, ap, subst, arith, ◌∙◌, slice_get}
use Rattle.std.proofs.lemmas.Option.{none-some, same_Some}
use Rattle.block_codec.specs.Blocks.{BlockAt, BlockView, frame}
use Rattle.block_codec.specs.Items.{size_of}
use Rattle.block_codec.specs.Reading.{block_at, front_block, item_words}
use Rattle.block_codec.specs.Words.{word_bytes, word_of}
use Rattle.block_codec.proofs.AtLemmas.{BlockAt-from_found, BlockAt-unique}
use Rattle.worked_flashes.specs.Images.{small_block}
use Rattle.law_premises.specs.Examples.{linked_block, one_block_window}
use Rattle.law_premises.proofs.examples.formats.a_window_that_keeps_links.Goals as goal

found : block_at one_block_window 8 ≡ Some (small_block 8)
unfolding block_at front_block item_words frame size_of word_of word_bytes
found = refl

stands : BlockAt one_block_window 8 (small_block 8)
stands = BlockAt-from_found one_block_window 8 (small_block 8) found

keeps : (i : ℕ) (b c : BlockView) → slice_get (small_block 8 ∷ []) i ≡ Some b → BlockAt one_block_window b.at c
    → c.link ≡ b.link
keeps zero b c at other =
    let same = same_Some (small_block 8) b at in
    let there : BlockAt one_block_window 8 c =
    subst (λ (x : BlockView). BlockAt one_block_window x.at c) (sym same) other in
    ap (λ (x : BlockView). x.link) (BlockAt-unique one_block_window 8 c (small_block 8) there stands ∙ same)
keeps (suc i) b c at other = absurd (none-some b at)

abbrev number : ℤ → ℕ
number (pos n) = n
number (negsuc n) = 0

pub returns-clause-kept : goal.returns-clause-kept
returns-clause-kept c = record { links = keeps }

pub returns-clause-other : goal.returns-clause-other
returns-clause-other c = λ k.
    let e : 0 ≡ 256 = ap number (k.links 0 linked_block (small_block 8) refl stands) in absurd (omega (arith, e))
