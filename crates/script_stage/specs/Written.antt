-- What a window has once an image is written there.
use Rattle.std.specs.Prelude.{ℕ, ◌+◌, ◌-◌, ◌*◌, ◌/◌, List, ◌++◌, length, drop, replicate}
use Rattle.script_plan.specs.Plans.{in_sectors}

-- the number of bytes of as many whole pages as n bytes need
abbrev pub in_pages : ℕ → ℕ
in_pages n = 256 * ((n + 255) / 256)

-- the bytes, and this byte after them up to n bytes in all
abbrev pub filled_to : ℕ → ℕ → List ℕ → List ℕ
filled_to byte n bytes = bytes ++ replicate (n - length bytes) byte

-- an image, 0 to the end of its last page, and 0xff to the end of its last sector
abbrev pub written_sectors : List ℕ → List ℕ
written_sectors image =
    filled_to 255 (in_sectors (length image)) (filled_to 0 (in_pages (length image)) image)

-- the bytes of a window that had the old ones, once an image is written there: the sectors of the
-- image, and behind them what was there
abbrev pub written_window : List ℕ → List ℕ → List ℕ
written_window image old = written_sectors image ++ drop (in_sectors (length image)) old
