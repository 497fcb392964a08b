-- An image whose first sector has no block but those of its loop.
use Rattle.std.specs.Prelude.{ℕ, List}
use Rattle.block_codec.specs.Blocks.{BlockView}
use Rattle.block_loop.specs.Loop.{IsLoop}
use Rattle.image_pack.specs.Filling.{whole_sectors}
use Rattle.boot_sweep.specs.Firms.{HasNoOtherBlock}

-- each block in the first sector of the image is one of its loop; the image is filled with 0xff to
-- whole sectors
abbrev pub HasLoneLoop : List ℕ → Type 0
HasLoneLoop image =
    (loop : List BlockView) → IsLoop (whole_sectors image) loop
    → HasNoOtherBlock (whole_sectors image) loop
