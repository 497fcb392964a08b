-- When two caveats are the same: they are of one variant and tell the same. Each has a code, which
-- is that of no other one: the number of its variant, in the order of the variants, and what it
-- tells.
use Rattle.std.specs.Prelude.{ℕ, Bool, ◌==◌, ◌&&◌}
use Rattle.pico_board.specs.declared.window.Window.{Window}
use Rattle.block_loop.specs.declared.fault.LoopFault.{LoopFault}
use Rattle.block_loop.specs.declared.fault.LoopFault.TheVariants as loop_faults
use Rattle.image_def.specs.declared.fault.DefFault.{DefFault}
use Rattle.image_def.specs.declared.fault.DefFault.TheVariants.{Repeated, BadItem, BadRow, RepeatedRow}
use Rattle.load_map.specs.declared.load.MapFault.{MapFault}
use Rattle.load_map.specs.declared.load.MapFault.TheVariants.{Storage, Runtime, CoversBlock}
use Rattle.image_check.specs.declared.why.EntryFault.{EntryFault}
use Rattle.image_check.specs.declared.why.EntryFault.TheVariants.{Table, InBlock, Pc}
use Rattle.image_check.specs.declared.why.Why.{Why}
use Rattle.image_check.specs.declared.why.Why.TheVariants.{NoBlock, Loop, NoDefinition, NotForProcessor, Items, Trial, RollbackRequired, Below, Map, Entry, Digest, Delta}
use Rattle.part_table.specs.declared.table.TableFault.{TableFault}
use Rattle.part_table.specs.declared.table.TableFault.TheVariants as table_faults
use Rattle.slot_caveats.specs.declared.caveat.Caveat.{Caveat}
use Rattle.slot_caveats.specs.declared.same.CaveatCode.{CaveatCode}
use Rattle.slot_caveats.specs.declared.same.Told.{Told}
use Rattle.slot_caveats.specs.declared.caveat.Caveat.TheVariants.{SecureBoot, RawFlags, RawSlotSize, ShortFlash, ShortSlots, TableInImage, OtherProcessor, SlotImage, Tie, UpdateOfSlot, UpdateMovesUnit, RollbackRows, RollbackFull, RollbackGap, FirstBlock, ItemOrder, MayStart, OwnedImage, UnreadTargets, UnreadSide, TableTie, ImageInSlot, SlotEnd, FaultyTable, TableOrder, RawCritical, LongDefinition, AbsoluteMap, BareHash, IgnoreFlags, NoRead, UpdateOfNothing}

abbrev pub numbers : ℕ → ℕ → ℕ → ℕ → Told
numbers one two three four = record { one = one; two = two; three = three; four = four }

-- what the faults of a loop, of a definition's items, of a load map and of an entry tell as the
-- answers of rules: the number of the rule, that of the fault, and what it says
abbrev pub loop_told : LoopFault → Told
loop_told loop_faults.NoBlock = numbers 1 0 0 0
loop_told (loop_faults.Broken at) = numbers 1 1 at 0
loop_told loop_faults.TooMany = numbers 1 2 0 0
loop_told (loop_faults.Overlap one two) = numbers 1 3 one two

abbrev pub def_told : DefFault → Told
def_told (Repeated kind) = numbers 4 0 kind 0
def_told (BadItem kind) = numbers 4 1 kind 0
def_told (BadRow row) = numbers 4 2 row 0
def_told (RepeatedRow row) = numbers 4 3 row 0

abbrev pub map_told : MapFault → Told
map_told (Storage i) = numbers 8 0 i 0
map_told (Runtime i) = numbers 8 1 i 0
map_told (CoversBlock i) = numbers 8 2 i 0

abbrev pub entry_told : EntryFault → Told
entry_told Table = numbers 9 0 0 0
entry_told InBlock = numbers 9 1 0 0
entry_told Pc = numbers 9 2 0 0

abbrev pub why_told : Why → Told
why_told NoBlock = numbers 0 0 0 0
why_told (Loop fault) = loop_told fault
why_told NoDefinition = numbers 2 0 0 0
why_told NotForProcessor = numbers 3 0 0 0
why_told (Items fault) = def_told fault
why_told Trial = numbers 5 0 0 0
why_told RollbackRequired = numbers 6 0 0 0
why_told (Below version count) = numbers 7 version count 0
why_told (Map fault) = map_told fault
why_told (Entry fault) = entry_told fault
why_told Digest = numbers 10 0 0 0
why_told Delta = numbers 11 0 0 0

-- what a fault of a table tells
abbrev pub table_told : TableFault → Told
table_told table_faults.BadItem = numbers 0 0 0 0
table_told (table_faults.Permissions i) = numbers 1 i 0 0
table_told (table_faults.Range i) = numbers 2 i 0 0
table_told (table_faults.Overlap i k) = numbers 3 i k 0
table_told (table_faults.Link i) = numbers 4 i 0 0
table_told table_faults.Hash = numbers 5 0 0 0

-- the code of a caveat that tells two numbers, of one that tells a window and more, and of one that
-- tells a slot and more
abbrev pub of_numbers : ℕ → ℕ → ℕ → CaveatCode
of_numbers variant first second =
    record { variant = variant; first = first; second = second; told = numbers 0 0 0 0 }

abbrev pub of_window : ℕ → Window → Told → CaveatCode
of_window variant w told =
    record { variant = variant; first = w.start; second = w.len; told = told }

abbrev pub of_table : ℕ → ℕ → Told → CaveatCode
of_table variant slot told =
    record { variant = variant; first = slot; second = 0; told = told }

abbrev pub none_told : Told
none_told = numbers 0 0 0 0

abbrev pub caveat_code : Caveat → CaveatCode
caveat_code SecureBoot = of_numbers 0 0 0
caveat_code (RawFlags row bits) = of_numbers 1 row bits
caveat_code (RawSlotSize bits) = of_numbers 2 bits 0
caveat_code (ShortFlash slot part) = of_numbers 3 slot part
caveat_code (ShortSlots size) = of_numbers 4 size 0
caveat_code (TableInImage w at) = of_window 5 w (numbers at 0 0 0)
caveat_code (OtherProcessor w) = of_window 6 w none_told
caveat_code (SlotImage w) = of_window 7 w none_told
caveat_code (Tie w v) = of_window 8 w (numbers v.start v.len 0 0)
caveat_code (UpdateOfSlot slot) = of_numbers 9 slot 0
caveat_code (UpdateMovesUnit part) = of_numbers 10 part 0
caveat_code (RollbackRows w) = of_window 11 w none_told
caveat_code (RollbackFull w) = of_window 12 w none_told
caveat_code (RollbackGap row) = of_numbers 13 row 0
caveat_code (FirstBlock w) = of_window 14 w none_told
caveat_code (ItemOrder w) = of_window 15 w none_told
caveat_code (MayStart w why) = of_window 16 w (why_told why)
caveat_code (OwnedImage part) = of_numbers 17 part 0
caveat_code (UnreadTargets bits) = of_numbers 18 bits 0
caveat_code (UnreadSide part) = of_numbers 19 part 0
caveat_code TableTie = of_numbers 20 0 0
caveat_code (ImageInSlot slot) = of_numbers 21 slot 0
caveat_code (SlotEnd w at) = of_window 22 w (numbers at 0 0 0)
caveat_code (FaultyTable slot fault) = of_table 23 slot (table_told fault)
caveat_code (TableOrder slot) = of_numbers 24 slot 0
caveat_code (RawCritical row bits) = of_numbers 25 row bits
caveat_code (LongDefinition w at) = of_window 26 w (numbers at 0 0 0)
caveat_code (AbsoluteMap w) = of_window 27 w none_told
caveat_code (BareHash w) = of_window 28 w none_told
caveat_code (IgnoreFlags part) = of_numbers 29 part 0
caveat_code (NoRead part) = of_numbers 30 part 0
caveat_code (UpdateOfNothing base) = of_numbers 31 base 0

abbrev pub is_same_told : Told → Told → Bool
is_same_told x y = x.one == y.one && x.two == y.two && x.three == y.three && x.four == y.four

abbrev pub is_same_code : CaveatCode → CaveatCode → Bool
is_same_code x y =
    x.variant == y.variant && x.first == y.first && x.second == y.second
    && is_same_told x.told y.told

-- the caveats have one code
abbrev pub is_same_caveat : Caveat → Caveat → Bool
is_same_caveat x y = is_same_code (caveat_code x) (caveat_code y)
