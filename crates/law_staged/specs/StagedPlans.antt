-- What the session of a script of `stage` does.
use Rattle.std.specs.Prelude.{ℕ, ◌+◌, ◌*◌, ◌/◌, List, ◌∷◌, ◌++◌, length, slice_range}
use Rattle.pico_board.specs.declared.Step.{Step}
use Rattle.pico_board.specs.declared.step.Step.TheVariants.{Erase}
use Rattle.picoboot_cmd.specs.Pages.{programs}
use Rattle.picoboot_cmd.specs.Sectors.{erases}

-- the sectors of the bytes are erased, from this one on, and the bytes are programmed
abbrev pub rest_steps : ℕ → List ℕ → List Step
rest_steps sector bytes =
    erases sector ((length bytes + 4095) / 4096) ++ programs (16 * sector) bytes

-- the steps of a stage in a window that begins with sector s: the first sector is erased; what the
-- image has behind its first 4096 bytes is erased and programmed; then come the pages of the first
-- sector before this page and those behind it, and the page itself last
abbrev pub stage_steps : ℕ → ℕ → List ℕ → List Step
stage_steps s page image =
    Erase s ∷ (rest_steps (s + 1) (slice_range image 4096 (length image))
    ++ (programs (16 * s) (slice_range image 0 (256 * page))
    ++ (programs (16 * s + (page + 1)) (slice_range image (256 * (page + 1)) 4096)
    ++ programs (16 * s + page) (slice_range image (256 * page) (256 * (page + 1))))))
