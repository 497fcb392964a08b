-- The sectors of the flash that a range touches, and the rights to them.
use Rattle.std.specs.Prelude.{◌≡◌, ℕ, zero, suc, ◌+◌, ◌-◌, ◌/◌, ◌==◌, ◌&&◌, Bool, true, Option, None, List, [], ◌∷◌, IfSome, if◌then◌else◌}
use Rattle.pico_board.specs.declared.Step.{Step}
use Rattle.pico_board.specs.declared.Step.TheVariants.{Erase}
use Rattle.part_table.specs.declared.table.Right.{Right}
use Rattle.part_table.specs.declared.table.Table.{Table}
use Rattle.part_table.specs.Faults.{permissions_fault, overlap_fault}
use Rattle.part_table.specs.Rights.{allowed_by}

-- a table, where there is one, tells the permissions of each sector in one way
abbrev pub TellsRights : Option Table → Type 0
TellsRights t =
    IfSome t (λ table. (permissions_fault table.parts.items ≡ None)
    × (overlap_fault table.parts.items ≡ None))

-- how many sectors `size` bytes from the flash offset `at` on touch
abbrev pub touched : ℕ → ℕ → ℕ
touched at size = if size == 0 then 0 else (at + size - 1) / 4096 + 1 - at / 4096

-- the n sectors from `first` on all have the right
abbrev pub all_allowed : Option Table → Right → ℕ → ℕ → Bool
all_allowed t right first zero = true
all_allowed t right first (suc n) = allowed_by t first right && all_allowed t right (first + 1) n

-- each sector that the range touches has the right
abbrev pub range_allowed : Option Table → Right → ℕ → ℕ → Bool
range_allowed t right at size = all_allowed t right (at / 4096) (touched at size)

-- the erases of n sectors from `first` on, ascending
abbrev pub erases : ℕ → ℕ → List Step
erases first zero = []
erases first (suc n) = Erase first ∷ erases (first + 1) n
