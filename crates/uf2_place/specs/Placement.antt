-- Where the blocks of a download go: the list of steps that a list of blocks stands for. Source:
-- the RP2350 Datasheet, chapter 5 (Bootrom), section UF2 Targeting Rules: a block's address counts
-- from 0x10000000 at the target's first byte. Gated downloads are this project's own.
use Rattle.std.specs.Prelude.{◌≡◌, ℕ, Bool, false, ◌+◌, ◌-◌, ◌*◌, ◌/◌, ◌%◌, ◌≤◌, ◌==◌, if◌then◌else◌, Option, None, Some, List, [], ◌∷◌, ◌++◌, length, drop, flat_map, map, nat_eq}
use Rattle.std.specs.List.{AllByRecursion, IsDistinct, list_any, range_with_len}
use Rattle.std.specs.Option.{option_or}
use Rattle.pico_board.specs.declared.Window.{Window}
use Rattle.pico_board.specs.declared.Step.{Step}
use Rattle.pico_board.specs.declared.Step.TheVariants.{Erase, Program}
use Rattle.pico_board.specs.Content.{flash_base}
use Rattle.part_table.specs.declared.Target.{Target}
use Rattle.uf2_place.specs.declared.block.Uf2.{Uf2}
use Rattle.uf2_place.specs.Blocks.{IsUf2}

-- the page of a block lies in the window
pub record IsPageInside (w : Window) (b : Uf2) : Type 0 where
  pub above : flash_base ≤ b.address
  pub below : b.address - flash_base + 256 ≤ w.len

-- the flash offset of a block's page in the window
abbrev pub offset_in : Window → Uf2 → ℕ
offset_in w b = w.start + (b.address - flash_base)

-- the number of that page, of 256 bytes, and of its sector, of 4096 bytes
abbrev pub page_in : Window → Uf2 → ℕ
page_in w b = offset_in w b / 256

abbrev pub sector_in : Window → Uf2 → ℕ
sector_in w b = offset_in w b / 4096

-- the first sector of a window of whole sectors
abbrev pub first_in : Window → ℕ
first_in w = w.start / 4096

-- the block's page lies in this sector
abbrev pub lies_in : Window → ℕ → Uf2 → Bool
lies_in w sector b = sector_in w b == sector

-- the erase of a sector, where it is not erased yet
abbrev pub erase_steps : Bool → ℕ → List Step
erase_steps erased sector = if erased then [] else Erase sector ∷ []

-- the erase of a page's sector, where it is not erased yet, and then the program of the page
abbrev pub fresh_steps : Bool → ℕ → ℕ → List ℕ → List Step
fresh_steps erased sector page bytes = erase_steps erased sector ++ Program page bytes ∷ []

-- a block's own steps, after the blocks that came before it: the erase of its page's sector, where
-- none of those blocks lies in that sector, and then the program of its page
abbrev pub own_steps : Window → List Uf2 → Uf2 → List Step
own_steps w before b =
    fresh_steps (list_any (lies_in w (sector_in w b)) before) (sector_in w b) (page_in w b) b.page

-- a block's own steps, after the blocks that came before it, but none for a page of the window's
-- first sector
abbrev pub later_steps : Window → List Uf2 → Uf2 → List Step
later_steps w before b = if lies_in w (first_in w) b then [] else own_steps w before b

-- the steps of blocks in order, each by the blocks before it
abbrev pub in_turn : (List Uf2 → Uf2 → List Step) → List Uf2 → List Uf2 → List Step
in_turn steps before [] = []
in_turn steps before (b ∷ bs) = steps before b ++ in_turn steps (before ++ b ∷ []) bs

-- the bytes of the last block for this page of the flash, where there is one
abbrev pub last_for : Window → ℕ → List Uf2 → Option (List ℕ)
last_for w page [] = None
last_for w page (b ∷ bs) =
    option_or (last_for w page bs) (if page_in w b == page then Some b.page else None)

-- the program of a page, where it has bytes
abbrev pub program_of : ℕ → Option (List ℕ) → List Step
program_of page None = []
program_of page (Some bytes) = Program page bytes ∷ []

-- the programs of the pages of a sector, ascending; each page that has bytes is programmed by them
unfoldable pub programs_in : ℕ → (ℕ → Option (List ℕ)) → List Step
programs_in sector bytes_of =
    flat_map (λ i. program_of (16 * sector + i) (bytes_of i)) (range_with_len 0 16)

-- the programs of the window's first sector, each page with the bytes of the last block for it
abbrev pub final_steps : Window → List Uf2 → List Step
final_steps w blocks = programs_in (first_in w) (λ i. last_for w (16 * first_in w + i) blocks)

-- all numbers are there: the blocks, whose numbers differ, are as many as the first one's count
-- says
abbrev pub is_whole_download : List Uf2 → Bool
is_whole_download [] = false
is_whole_download (b ∷ bs) = length (b ∷ bs) == b.count

-- the steps of the blocks into a gated target: the erase of the first sector, what lies elsewhere
-- as it comes, and the first sector when all numbers are there
abbrev pub gated_steps : Window → List Uf2 → List Step
gated_steps w blocks =
    Erase (first_in w) ∷ (in_turn (later_steps w) [] blocks
    ++ (if is_whole_download blocks then final_steps w blocks else []))

-- the steps of a download of these blocks, in the order in which they came
abbrev pub download_steps : Target → List Uf2 → List Step
download_steps t [] = []
download_steps t (b ∷ bs) =
    if t.gated then gated_steps t.window (b ∷ bs) else in_turn (own_steps t.window) [] (b ∷ bs)

-- the steps by which the list of a download grows
abbrev pub grown : Target → List Uf2 → List Uf2 → List Step
grown t former now = drop (length (download_steps t former)) (download_steps t now)

-- a window has whole sectors, at least one
pub record HasWholeSectors (w : Window) : Type 0 where
  pub start : w.start % 4096 ≡ 0
  pub len : w.len % 4096 ≡ 0
  pub some : 4096 ≤ w.len

-- a block as it is read, of this family and count
pub record IsBlockOf (family count : ℕ) (b : Uf2) : Type 0 where
  pub is : IsUf2 b
  pub same_family : b.family ≡ family
  pub same_count : b.count ≡ count

-- the numbers of the blocks
abbrev pub numbers_of : List Uf2 → List ℕ
numbers_of blocks = map (λ b. b.number) blocks

-- the blocks of a download into a target: as they are read, of one family and one count, and of
-- different numbers
pub record AreBlocks (t : Target) (family count : ℕ) (blocks : List Uf2) : Type 0 where
  pub window : HasWholeSectors t.window
  pub each : AllByRecursion (IsBlockOf family count) blocks
  pub distinct : IsDistinct nat_eq (numbers_of blocks)
