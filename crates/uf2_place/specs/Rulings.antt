-- What the rules say of a block before any step: whether it is skipped; whether it continues the
-- current download; and which refusal comes first. Source: the UF2 specification
-- (github.com/microsoft/uf2) for the flags, and the RP2350 Datasheet, chapter 5 (Bootrom), for the
-- rights. Which blocks are skipped and the order are this project's own.
use Rattle.std.specs.Prelude.{◌≡◌, ℕ, Bool, false, not, ◌+◌, ◌-◌, ◌==◌, ◌&&◌, ◌||◌, nat_le, if◌then◌else◌, Ok, Err, Option, None, Some, List}
use Rattle.std.specs.Int.{bit_at}
use Rattle.std.specs.Option.{option_map_or}
use Rattle.pico_board.specs.Content.{flash_base}
use Rattle.part_table.specs.declared.Table.{Table}
use Rattle.part_table.specs.declared.Target.{Target}
use Rattle.part_table.specs.declared.Right.TheVariants.{BootWrite}
use Rattle.part_table.specs.Families.{absolute_family}
use Rattle.part_table.specs.Faults.{permissions_fault, overlap_fault}
use Rattle.part_table.specs.Rights.{allowed_by}
use Rattle.uf2_place.specs.declared.block.Uf2.{Uf2}
use Rattle.uf2_place.specs.declared.answer.Accepted.TheVariants.{Skipped, Again}
use Rattle.uf2_place.specs.declared.answer.PlaceFault.TheVariants.{NoTarget, Outside, NotPermitted}
use Rattle.uf2_place.specs.declared.answer.Ruling.{Ruling}
use Rattle.uf2_place.specs.declared.answer.Ruling.TheVariants.{Answered, Begins, Continues}
use Rattle.uf2_place.specs.declared.current.Current.{Current}
use Rattle.uf2_place.specs.Marks.{is_marked}
use Rattle.uf2_place.specs.Placement.{sector_in}

-- each sector has one right, which `part_table` asks of a table before it answers
pub record HasOneRight (t : Table) : Type 0 where
  pub permissions : permissions_fault t.parts.items ≡ None
  pub overlap : overlap_fault t.parts.items ≡ None

-- the 256 bytes at the block's address lie in this many bytes from 0x10000000 on
abbrev pub is_page_within : ℕ → Uf2 → Bool
is_page_within len b = nat_le flash_base b.address && nat_le (b.address - flash_base + 256) len

-- a block is skipped in three cases: it is not for the main flash (flag 0x1); or it names no
-- family (no flag 0x2000); or it is of the absolute family and its page is not wholly in a flash
-- of this length
abbrev pub is_skipped : ℕ → Uf2 → Bool
is_skipped flash_len b =
    bit_at b.flags 0 == 1 || (not (bit_at b.flags 13 == 1)
    || (b.family == absolute_family && not (is_page_within flash_len b)))

-- a block continues a download of its family and its count
abbrev pub is_of : Current → Uf2 → Bool
is_of c b = c.family == b.family && c.count == b.count

abbrev pub continues : Option Current → Uf2 → Bool
continues current b = option_map_or (λ c. is_of c b) current false

-- the family where the block is not skipped and begins a new download
abbrev pub wanted : ℕ → Option Current → Uf2 → Option ℕ
wanted flash_len current b =
    if is_skipped flash_len b || continues current b then None else Some b.family

-- a page goes into a target where it lies in the target's window and its sector has the boot write
-- right
abbrev pub aimed : Option Table → Uf2 → Target → Ruling → Ruling
aimed table b t go =
    if not (is_page_within t.window.len b) then Answered (Err Outside)
    else if not (allowed_by table (sector_in t.window b) BootWrite) then Answered (Err NotPermitted)
    else go

-- a block that continues a download, by the words of the numbers that are taken
abbrev pub continued : Option Table → List ℕ → Uf2 → Target → Ruling
continued table numbers b t =
    if is_marked numbers b.number then Answered (Ok Again) else aimed table b t (Continues t)

-- a block that begins a download, where its family has this target or none
abbrev pub begun : Option Table → Uf2 → Option Target → Ruling
begun table b None = Answered (Err NoTarget)
begun table b (Some t) = aimed table b t (Begins t)

abbrev pub ruled : Option Table → Option Target → List ℕ → Uf2 → Option Current → Ruling
ruled table given numbers b None = begun table b given
ruled table given numbers b (Some c) =
    if is_of c b then continued table numbers b c.target else begun table b given

-- the ruling on a block in a flash of this length, by its table, the target that is given for a
-- new download, and the current download
abbrev pub ruling : ℕ → Option Table → Option Target → List ℕ → Option Current → Uf2 → Ruling
ruling flash_len table given numbers current b =
    if is_skipped flash_len b then Answered (Ok Skipped) else ruled table given numbers b current

-- the target of a block: that of the current download, where the block continues it and the
-- block's number is not taken; the given one, where the block begins a download
abbrev pub target_of_block : Option Target → List ℕ → Uf2 → Option Current → Option Target
target_of_block given numbers b None = given
target_of_block given numbers b (Some c) =
    if is_of c b then (if is_marked numbers b.number then None else Some c.target) else given

-- a block that is not skipped goes to this target, if its page may
pub record GoesTo (n : ℕ) (given : Option Target) (numbers : List ℕ) (current : Option Current)
    (b : Uf2) (t : Target) : Type 0 where
  pub kept : is_skipped n b ≡ false
  pub target : target_of_block given numbers b current ≡ Some t
