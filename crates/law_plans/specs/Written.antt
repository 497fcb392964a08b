-- What the steps of a plan leave of an image in a window.
use Rattle.std.specs.Prelude.{ℕ, ◌+◌, ◌-◌, ◌*◌, ◌/◌, ◌<◌, ◌≤◌, List, ◌∷◌, ◌++◌, length, take, drop, replicate}
use Rattle.pico_board.specs.declared.Step.{Step}
use Rattle.pico_board.specs.declared.Step.TheVariants.{Erase}
use Rattle.block_codec.specs.Blocks.{BlockAt, BlockView, block_size}
use Rattle.picoboot_cmd.specs.Pages.{programs}
use Rattle.picoboot_cmd.specs.Sectors.{erases}
use Rattle.image_pack.specs.Filling.{round_up, whole_sectors}

-- the bytes filled with 0 to whole pages of 256 bytes
abbrev pub whole_pages : List ℕ → List ℕ
whole_pages bytes = bytes ++ replicate (round_up 256 (length bytes) - length bytes) 0

-- what a plan leaves in a window that had the old bytes: the image; 0 to the end of its last page;
-- 0xff to the end of its last sector; and then what was there
abbrev pub planned : List ℕ → List ℕ → List ℕ
planned image old =
    whole_sectors (whole_pages image) ++ drop (length (whole_sectors (whole_pages image))) old

-- the steps of a plan in a window that begins with sector s: the first sector is erased; the
-- others are erased and programmed; and the first one is programmed last
abbrev pub plan_steps : ℕ → List ℕ → List Step
plan_steps s image =
    Erase s ∷ ((erases (s + 1) ((length (drop 4096 image) + 4095) / 4096)
    ++ programs (16 * (s + 1)) (drop 4096 image)) ++ programs (16 * s) (take 4096 image))

-- no block begins in the first sector of these bytes and ends past n
abbrev pub HasNoLowBlockPast : ℕ → List ℕ → Type 0
HasNoLowBlockPast n bytes =
    (x : ℕ) (b : BlockView) → x < 4096 → BlockAt bytes x b → x + block_size b ≤ n
