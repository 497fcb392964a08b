-- What the loops of the reader step by, and what they leave.
use Rattle.std.proofs.Common.{◌≡◌, ℕ, ◌+◌, ◌*◌, ◌/◌, ◌%◌, ◌<◌, ◌≤◌, List, [], ◌∷◌, ◌++◌, length, take, drop, get_or, min, sym, ap, ◌∙◌, arith}
use Rattle.std.proofs.lemmas.List.{take_more, take_rest, take_min}
use Rattle.std.specs.List.{slice_range}
use Rattle.byteorder.specs.Endian.{little_number}
use Rattle.block_codec.specs.Words.{word_of, words_of}
use Rattle.block_codec.specs.Items.{size_of}
use Rattle.block_codec.specs.Reading.{words_before}
use Rattle.block_codec.proofs.WordLemmas.{length-words_of, get_or-words_of, words_of-take}
use Rattle.block_codec.proofs.ItemLemmas.{later, later-later, words_before-step}

-- what is read at a word's place is that word
word_read : (bs : List ℕ) (k x : ℕ) → 4 * k + 4 ≤ length bs → x ≡ little_number 4 (slice_range bs (4 * k) (length bs))
    → x ≡ get_or (words_of bs) k 0
unfolding word_of
word_read bs k x room e =
    e ∙ ap (little_number 4) (take_rest bs (4 * k)) ∙ sym (get_or-words_of bs k room)

-- one word more was read
pub words_read-more : (bs read more : List ℕ) (k x : ℕ) → 4 * k + 4 ≤ length bs
    → x ≡ little_number 4 (slice_range bs (4 * k) (length bs)) →
    read ≡ take k (words_of bs) → more ≡ read ++ x ∷ [] → more ≡ take (k + 1) (words_of bs)
words_read-more bs read more k x room e was is =
    let long = length-words_of bs in
    let last = word_read bs k x room e in
    is ∙ ap (λ xs. xs ++ x ∷ []) was ∙ ap (λ y. take k (words_of bs) ++ y ∷ []) last
    ∙ sym (take_more (words_of bs) k 0 (omega arith))

-- all words that a block can have were read
pub words_read-all : (bs read : List ℕ) (k : ℕ) → k ≡ min (length bs / 4) 160 → read ≡ take k (words_of bs)
    → read ≡ words_of (take 640 bs)
words_read-all bs read k e was =
    let long = length-words_of bs in
    let same : k ≡ min 160 (length (words_of bs)) = omega arith in
    was ∙ ap (λ n. take n (words_of bs)) same ∙ take_min 160 (words_of bs) ∙ sym (words_of-take 160 bs)

-- the walk over headers goes on behind a whole item
pub count_step : (ws : List ℕ) (at size : ℕ) → at < length ws → (get_or ws at 0 % 256 ≡ 255 → ⊥)
    → size ≡ size_of (get_or ws at 0) → (size ≡ 0 → ⊥) →
    words_before 0 ws ≡ later at (words_before 0 (drop at ws))
    → words_before 0 ws ≡ later (at + size) (words_before 0 (drop (at + size) ws))
count_step ws at size lt kind is some inv =
    let e = words_before-step ws at lt kind (λ none. some (is ∙ none)) in
    inv ∙ ap (later at) e ∙ later-later at (size_of (get_or ws at 0)) _
    ∙ ap (λ n. later (at + n) (words_before 0 (drop (at + n) ws))) (sym is)
