-- How the message that a hasher holds grows piece by piece and word by word.
use Rattle.std.proofs.Common.{◌≡◌, ℕ, ◌+◌, ◌<◌, List, [], ◌∷◌, ◌++◌, length, take, get_or, sym, ap, ◌∙◌, append_assoc}
use Rattle.std.specs.Prelude.{slice_index}
use Rattle.std.proofs.lemmas.List.{take_more, length-set, append-nil}
use Rattle.std.proofs.lemmas.Grind.{flat_map-append}
use Rattle.block_codec.specs.Blocks.{BlockView, block_words}
use Rattle.block_codec.specs.Words.{bytes_of, word_bytes}
use Rattle.block_codec.proofs.FrameLemmas.{length-frame}
use Rattle.load_map.specs.Covered.{masked_words}

-- a block with its image word masked has as many words as before
pub length-masked : (b : BlockView) (image_word : ℕ)
    → length (masked_words (block_words b) image_word) ≡ length b.items + 4
length-masked b image_word = length-set (block_words b) image_word _ ∙ length-frame b.items b.link

-- a message that k words were fed to, and the bytes of the next one
pub words-fed : (words m bytes : List ℕ) (k w : ℕ) → k < length words → w ≡ slice_index words k
    → bytes ≡ word_bytes w → (m ++ bytes_of (take k words)) ++ bytes ≡ m ++ bytes_of (take (k + 1) words)
words-fed words m bytes k w lt read is =
    let one : bytes_of (w ∷ []) ≡ bytes = append-nil (word_bytes w) ∙ sym is in
    let more = take_more words k 0 lt in
    rw (more, flat_map-append word_bytes (take k words) (get_or words k 0 ∷ []))
    (append_assoc m (bytes_of (take k words)) bytes
    ∙ ap (λ bs. m ++ (bytes_of (take k words) ++ bs)) (sym one ∙ ap (λ x. bytes_of (x ∷ [])) read))
