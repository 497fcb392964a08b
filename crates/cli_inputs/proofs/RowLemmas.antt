-- The rows of an OTP file, one after another.
use Rattle.std.proofs.Common.{ℕ, ◌≡◌, ◌+◌, ◌*◌, ◌/◌, ◌^◌, ◌<◌, ◌≤◌, List, [], ◌∷◌, ◌++◌, length, take, drop, get_or, Some, None, sym, ap, ◌∙◌, cond, arith}
use Rattle.std.proofs.lemmas.List.{take_more, take_rest, take_all, drop_more, drop_all}
use Rattle.std.proofs.lemmas.Bool.{lt-ltb, le-ltb}
use Rattle.std.specs.List.{slice_range}
use Rattle.byteorder.specs.Endian.{little_number}
use Rattle.block_codec.specs.Words.{word_of, words_of}
use Rattle.block_codec.proofs.WordLemmas.{length-words_of, get_or-words_of}
use Rattle.cli_inputs.specs.Forms.{wide_from}

-- what is read at a row's place is that row
pub row-read : (file : List ℕ) (place x : ℕ) → 4 * place + 4 ≤ length file
    → x ≡ little_number 4 (slice_range file (4 * place) (length file)) → x ≡ get_or (words_of file) place 0
unfolding word_of
row-read file place x room e =
    e ∙ ap (little_number 4) (take_rest file (4 * place)) ∙ sym (get_or-words_of file place room)

-- one row more was read
pub rows-more : (file read more : List ℕ) (place x : ℕ) → place < length file / 4 → x ≡ get_or (words_of file) place 0
    → read ≡ take place (words_of file) → more ≡ read ++ x ∷ [] → more ≡ take (place + 1) (words_of file)
rows-more file read more place x lt last was is =
    let long = length-words_of file in
    is ∙ ap (λ xs. xs ++ x ∷ []) was ∙ ap (λ y. take place (words_of file) ++ y ∷ []) last ∙ sym
    (take_more (words_of file) place 0 (omega arith))

-- all rows were read
pub rows-all : (file read : List ℕ) (place : ℕ) → place ≡ length file / 4 → read ≡ take place (words_of file)
    → read ≡ words_of file
rows-all file read place end was =
    let long = length-words_of file in was ∙ take_all place (words_of file) (omega arith)

-- a row of 24 bits is passed
pub wide-more : (file : List ℕ) (place : ℕ) → place < length file / 4 → get_or (words_of file) place 0 < 2 ^ 24
    → wide_from place (drop place (words_of file)) ≡ wide_from (place + 1) (drop (place + 1) (words_of file))
wide-more file place lt small =
    let long = length-words_of file in
    ap (wide_from place) (drop_more (words_of file) place 0 (omega arith))
    ∙ ap (λ t. cond t (wide_from (place + 1) (drop (place + 1) (words_of file))) (Some place))
    (lt-ltb (get_or (words_of file) place 0) (2 ^ 24) small)

-- a row of more is the least one
pub wide-here : (file : List ℕ) (place : ℕ) → place < length file / 4 → 2 ^ 24 ≤ get_or (words_of file) place 0
    → wide_from place (drop place (words_of file)) ≡ Some place
wide-here file place lt wide =
    let long = length-words_of file in
    ap (wide_from place) (drop_more (words_of file) place 0 (omega arith))
    ∙ ap (λ t. cond t (wide_from (place + 1) (drop (place + 1) (words_of file))) (Some place))
    (le-ltb (get_or (words_of file) place 0) (2 ^ 24) wide)

-- behind the last row there is none of more than 24 bits
pub wide-none : (file : List ℕ) (place : ℕ) → place ≡ length file / 4
    → wide_from place (drop place (words_of file)) ≡ None
wide-none file place end =
    let long = length-words_of file in ap (wide_from place) (drop_all place (words_of file) (omega arith))

pub rows-count : (file read : List ℕ) → read ≡ words_of file → length read ≡ length file / 4
rows-count file read is = ap (λ xs. length xs) is ∙ length-words_of file
