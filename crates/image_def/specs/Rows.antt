-- The rollback version and the listed rows of a VERSION item (RP2350 Datasheet, chapter 5,
-- "VERSION item"; the limits on rows are this project's own).
use Rattle.std.specs.Prelude.{ℕ, ◌+◌, Bool, ◌||◌, ◌&&◌, if◌then◌else◌, ◌==◌, nat_lt, List, [], ◌∷◌, Option, Some, None, take, drop, flat_map, slice_index}
use Rattle.std.specs.List.{list_any}
use Rattle.block_codec.specs.declared.items.Item.{Item}
use Rattle.block_codec.specs.Words.{low_half, high_half}
use Rattle.otp_roll.specs.declared.rows.TheConstants.{FIRST_ROW, LAST_ROW}
use Rattle.image_def.specs.declared.fault.DefFault.{DefFault}
use Rattle.image_def.specs.declared.fault.DefFault.TheVariants.{BadRow, RepeatedRow}

-- the halves of words in order, low half first
abbrev pub halves_of : List ℕ → List ℕ
halves_of words = flat_map (λ w. low_half w ∷ high_half w ∷ []) words

-- the halves of a VERSION item after its version word
abbrev pub version_tail : List ℕ → Item → List ℕ
version_tail words item = halves_of (drop (item.first + 2) words)

-- the rollback version, which an item without rows lacks
abbrev pub rollback_in : List ℕ → Item → Option ℕ
rollback_in words item =
    if item.high == 0 then None else Some (slice_index (version_tail words item) 0)

-- the listed rows, whose number is the header's fourth byte
abbrev pub rows_in : List ℕ → Item → List ℕ
rows_in words item = take item.high (drop 1 (version_tail words item))

-- the triples of two rows, each row with the two that follow it, share a row
abbrev pub is_near : ℕ → ℕ → Bool
is_near row other = nat_lt row (other + 3) && nat_lt other (row + 3)

-- the fault of a row after the rows before it
abbrev pub row_fault : List ℕ → ℕ → Option DefFault
row_fault before row =
    if nat_lt row FIRST_ROW || nat_lt LAST_ROW row then Some (BadRow row)
    else if list_any (is_near row) before then Some (RepeatedRow row)
    else None
