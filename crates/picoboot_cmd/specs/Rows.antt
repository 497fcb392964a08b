-- OTP rows and the words that raise them.
use Rattle.std.specs.Prelude.{ℕ, ◌+◌, ◌^◌, ◌==◌, ◌&&◌, Bool, true, nat_lt, List, [], ◌∷◌, slice_index, bit_and}
use Rattle.std.specs.List.{list_all}
use Rattle.pico_board.specs.declared.Step.{Step}
use Rattle.pico_board.specs.declared.Step.TheVariants.{Raise}

-- each word has the 24 bits of a row alone
abbrev pub are_row_words : List ℕ → Bool
are_row_words words = list_all (λ w. nat_lt w (2 ^ 24)) words

-- each word has all the bits that are raised in its row; the first word is that of the row `row`
abbrev pub keeps_raised : List ℕ → ℕ → List ℕ → Bool
keeps_raised otp row [] = true
keeps_raised otp row (w ∷ words) =
    (bit_and (slice_index otp row) w == slice_index otp row) && keeps_raised otp (row + 1) words

-- the raises of the rows from `row` on by a word each, ascending
abbrev pub word_raises : ℕ → List ℕ → List Step
word_raises row [] = []
word_raises row (w ∷ words) = Raise row w ∷ word_raises (row + 1) words
