-- The bytes of a run of words grow by those of one word more.
use Rattle.std.proofs.Common.{◌≡◌, ℕ, ◌+◌, ◌≤◌, ◌<◌, List, [], ◌∷◌, ◌++◌, ◌∙◌, length, ap, slice_range, slice_index}
use Rattle.std.proofs.lemmas.List.Edits.{between_more}
use Rattle.std.proofs.lemmas.List.Concat.{flat_map-append}
use Rattle.std.proofs.lemmas.List.{append-nil}
use Rattle.block_codec.specs.Words.{bytes_of, word_bytes}

pub bytes_of_one_more : (words : List ℕ) (from k : ℕ) → from ≤ k → k < length words
    → bytes_of (slice_range words from (k + 1)) ≡ bytes_of (slice_range words from k)
    ++ word_bytes (slice_index words k)
bytes_of_one_more words from k le lt =
    ap bytes_of (between_more words from k 0 le lt)
    ∙ flat_map-append word_bytes (slice_range words from k) (slice_index words k ∷ [])
    ∙ ap (λ xs. bytes_of (slice_range words from k) ++ xs) (append-nil (word_bytes (slice_index words k)))
