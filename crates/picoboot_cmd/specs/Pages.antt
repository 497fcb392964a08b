-- The pages that bytes are programmed into.
use Rattle.std.specs.Prelude.{ℕ, zero, suc, ◌+◌, ◌-◌, ◌/◌, List, [], ◌∷◌, ◌++◌, length, take, drop, replicate}
use Rattle.pico_board.specs.declared.Step.{Step}
use Rattle.pico_board.specs.declared.Step.TheVariants.{Program}

-- at most 256 bytes, and bytes 0 up to a whole page
unfoldable pub padded_page : List ℕ → List ℕ
padded_page bytes = bytes ++ replicate (256 - length bytes) 0

-- the programs of n pages from `page` on, ascending, with the bytes one page after the other
abbrev pub programs_of : ℕ → ℕ → List ℕ → List Step
programs_of zero page bytes = []
programs_of (suc n) page bytes =
    Program page (padded_page (take 256 bytes)) ∷ programs_of n (page + 1) (drop 256 bytes)

-- the programs of as many pages as hold the bytes; the last page is filled with 0
abbrev pub programs : ℕ → List ℕ → List Step
programs page bytes = programs_of ((length bytes + 255) / 256) page bytes
