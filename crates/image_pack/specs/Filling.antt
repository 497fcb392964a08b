-- Bytes that are filled with 0xff, as erased flash reads.
use Rattle.std.specs.Prelude.{ℕ, ◌+◌, ◌-◌, ◌*◌, ◌/◌, List, ◌++◌, length, replicate}

-- the smallest multiple of m that is at least n; m is above 0
abbrev pub round_up : ℕ → ℕ → ℕ
round_up m n = m * ((n + (m - 1)) / m)

-- the bytes, and 0xff after them up to n bytes in all
abbrev pub padded : ℕ → List ℕ → List ℕ
padded n bytes = bytes ++ replicate (n - length bytes) 255

-- the bytes filled with 0xff to whole words of 4 bytes
abbrev pub whole_words : List ℕ → List ℕ
whole_words bytes = padded (round_up 4 (length bytes)) bytes

-- the bytes filled with 0xff to whole sectors of 4096 bytes
abbrev pub whole_sectors : List ℕ → List ℕ
whole_sectors bytes = padded (round_up 4096 (length bytes)) bytes
