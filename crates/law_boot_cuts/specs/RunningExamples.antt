-- Worked examples of images that run.
use Rattle.std.specs.Prelude.{ℕ}
use Rattle.pico_board.specs.Content.{Content}
use Rattle.worked_flashes.specs.Flashes.{image_region, pair_content}

-- a flash with version 1.0 in A and a trial of version 1.1 in B, and these boot flags
abbrev pub trial_content : ℕ → Content
trial_content flags =
    pair_content flags (image_region 0x1e000 0x10210142 0x10000)
    (image_region 0x1e000 0x90210142 0x10001)
