-- Words of 32 bits as four bytes each, the lowest byte first (RP2350 Datasheet, chapter 5,
-- Bootrom, "Blocks and block loops").
use Rattle.std.specs.Prelude.{ℕ, ◌/◌, ◌%◌, ◌^◌, ◌<◌, Bool, nat_lt, List, [], ◌∷◌}
use Rattle.std.specs.List.{flat_map, list_all, AllByRecursion}
use Rattle.byteorder.specs.Endian.{little_bytes, little_number}

-- the four bytes of a word, the lowest first
unfoldable pub word_bytes : ℕ → List ℕ
word_bytes w = little_bytes 4 w

-- the bytes of a list of words, one word after the other
abbrev pub bytes_of : List ℕ → List ℕ
bytes_of ws = flat_map word_bytes ws

-- the word in the first four of the bytes; bytes that are missing count as 0
unfoldable pub word_of : List ℕ → ℕ
word_of bytes = little_number 4 bytes

-- the words of a list of bytes, four bytes each; up to three bytes left over are no word
abbrev pub words_of : List ℕ → List ℕ
words_of (a ∷ b ∷ c ∷ d ∷ rest) = word_of (a ∷ b ∷ c ∷ d ∷ []) ∷ words_of rest
words_of _ = []

-- each number is a word of 32 bits
abbrev pub AreWords : List ℕ → Type 0
AreWords ws = AllByRecursion (λ w. w < 2 ^ 32) ws

-- each number is a byte
abbrev pub are_bytes : List ℕ → Bool
are_bytes bytes = list_all (λ b. nat_lt b 256) bytes

-- the low 16 bits of a word
abbrev pub low_half : ℕ → ℕ
low_half w = w % 65536

-- the high 16 bits of a word
abbrev pub high_half : ℕ → ℕ
high_half w = w / 65536
