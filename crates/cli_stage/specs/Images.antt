-- What `stage` asks of an image in the bytes of a window.
use Rattle.std.specs.Prelude.{ℕ, zero, suc, ◌*◌, ◌/◌, ◌==◌, ◌&&◌, ◌||◌, Bool, true, false, if◌then◌else◌, List, [], ◌∷◌, Option, Some, None, Result, Ok, Err, length, take, codes, bytes_eq, nat_le}
use Rattle.std.specs.List.{list_any}
use Rattle.pico_board.specs.declared.window.Window.{Window}
use Rattle.pico_board.specs.Windows.{is_same_window}
use Rattle.block_codec.specs.Blocks.{BlockView}
use Rattle.block_codec.specs.Reading.{block_at}
use Rattle.block_loop.specs.declared.fault.LoopFault.{LoopFault}
use Rattle.slot_choice.specs.declared.unit.SlotUnit.{SlotUnit}

-- the bytes of the word that a UF2 block begins with, 0x0a324655 (UF2 specification)
abbrev pub uf2_front : List ℕ
uf2_front = 0x55 ∷ 0x46 ∷ 0x32 ∷ 0x0a ∷ []

-- the bytes that an ELF file begins with: 0x7f and `ELF` (ELF specification)
abbrev pub elf_front : List ℕ
elf_front = 0x7f ∷ 0x45 ∷ 0x4c ∷ 0x46 ∷ []

-- the first four bytes are these
abbrev pub has_front : List ℕ → List ℕ → Bool
has_front front image = nat_le 4 (length image) && bytes_eq (take 4 image) front

-- the form of a file that is no image, by its first bytes
abbrev pub file_fault : List ℕ → Option (List ℕ)
file_fault image =
    if has_front uf2_front image then Some (codes "uf2-file")
    else if has_front elf_front image then Some (codes "elf-file")
    else None

-- the page of the first of a loop's blocks, whose offsets these are
abbrev pub first_page : Result (List ℕ) LoopFault → ℕ
first_page (Ok (at ∷ rest)) = at / 256
first_page _ = 0

-- no block stands there, or one at one of the offsets does
abbrev pub is_listed : List ℕ → Option BlockView → Bool
is_listed offsets None = true
is_listed offsets (Some b) = list_any (λ at. at == b.at) offsets

-- at each of the first n multiples of 4 no block stands, or one at one of the offsets does
unfoldable pub are_listed : List ℕ → List ℕ → ℕ → Bool
are_listed bytes offsets zero = true
are_listed bytes offsets (suc n) =
    is_listed offsets (block_at bytes (4 * n)) && are_listed bytes offsets n

-- each block below 4096 is one of the loop's, whose offsets these are
abbrev pub is_lone : List ℕ → Result (List ℕ) LoopFault → Bool
is_lone bytes (Ok offsets) = are_listed bytes offsets 1024
is_lone bytes (Err fault) = false

-- the window is B's, where the unit has one
abbrev pub is_second : Window → Option Window → Bool
is_second w None = false
is_second w (Some b) = is_same_window b w

-- the window is a member of one of the units
abbrev pub is_unit_window : Window → List SlotUnit → Bool
is_unit_window w [] = false
is_unit_window w (u ∷ us) = (is_same_window u.a w || is_second w u.b) || is_unit_window w us
