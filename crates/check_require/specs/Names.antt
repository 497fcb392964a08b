-- The names of caveats, in the order of the caveats' lines; then those that speak of a script.
use Rattle.std.specs.Prelude.{ℕ, Bool, true, false, Option, List, [], ◌∷◌, codes, bytes_eq}
use Rattle.std.specs.List.{find}
use Rattle.check_require.specs.declared.caveats.CaveatName.{CaveatName}
use Rattle.check_require.specs.declared.caveats.CaveatName.TheVariants.{SecureBoot, RawFlags, RawSlotSize, ShortFlash, TableInImage, OtherProcessor, Slot1Image, Tie, UpdateOfSlot, UpdateMovesUnit, RollbackRows, RollbackFull, RollbackGap, FirstBlock, ItemOrder, MayStart, OwnedImage, UnreadBits, TableTie, ImageInSlot, SlotEnd, TableFault, TableOrder, RawCritical, LongDefinition, AbsoluteMap, BareHash, IgnoreFlags, NoRead, UpdateOfNothing, HeldSector, SkippedBlock}

-- the word of a caveat
abbrev pub caveat_name : CaveatName → List ℕ
caveat_name SecureBoot = codes "secure-boot"
caveat_name RawFlags = codes "raw-flags"
caveat_name RawSlotSize = codes "raw-slot-size"
caveat_name ShortFlash = codes "short-flash"
caveat_name TableInImage = codes "table-in-image"
caveat_name OtherProcessor = codes "other-processor"
caveat_name Slot1Image = codes "slot-1-image"
caveat_name Tie = codes "tie"
caveat_name UpdateOfSlot = codes "update-of-slot"
caveat_name UpdateMovesUnit = codes "update-moves-unit"
caveat_name RollbackRows = codes "rollback-rows"
caveat_name RollbackFull = codes "rollback-full"
caveat_name RollbackGap = codes "rollback-gap"
caveat_name FirstBlock = codes "first-block"
caveat_name ItemOrder = codes "item-order"
caveat_name MayStart = codes "may-start"
caveat_name OwnedImage = codes "owned-image"
caveat_name UnreadBits = codes "unread-bits"
caveat_name TableTie = codes "table-tie"
caveat_name ImageInSlot = codes "image-in-slot"
caveat_name SlotEnd = codes "slot-end"
caveat_name TableFault = codes "table-fault"
caveat_name TableOrder = codes "table-order"
caveat_name RawCritical = codes "raw-critical"
caveat_name LongDefinition = codes "long-definition"
caveat_name AbsoluteMap = codes "absolute-map"
caveat_name BareHash = codes "bare-hash"
caveat_name IgnoreFlags = codes "ignore-flags"
caveat_name NoRead = codes "no-read"
caveat_name UpdateOfNothing = codes "update-of-nothing"
caveat_name HeldSector = codes "held-sector"
caveat_name SkippedBlock = codes "skipped-block"

-- all names
abbrev pub caveat_names : List CaveatName
caveat_names =
    SecureBoot ∷ RawFlags ∷ RawSlotSize ∷ ShortFlash ∷ TableInImage ∷ OtherProcessor
    ∷ Slot1Image ∷ Tie ∷ UpdateOfSlot ∷ UpdateMovesUnit ∷ RollbackRows ∷ RollbackFull
    ∷ RollbackGap ∷ FirstBlock ∷ ItemOrder ∷ MayStart ∷ OwnedImage ∷ UnreadBits ∷ TableTie
    ∷ ImageInSlot ∷ SlotEnd ∷ TableFault ∷ TableOrder ∷ RawCritical ∷ LongDefinition
    ∷ AbsoluteMap ∷ BareHash ∷ IgnoreFlags ∷ NoRead ∷ UpdateOfNothing ∷ HeldSector
    ∷ SkippedBlock ∷ []

-- the caveat that a word names
abbrev pub caveat_named : List ℕ → Option CaveatName
caveat_named word = find (λ n. bytes_eq word (caveat_name n)) caveat_names

-- a caveat that says of a file that it is not the board that is judged
abbrev pub is_of_files : CaveatName → Bool
is_of_files SecureBoot = true
is_of_files RawFlags = true
is_of_files RawSlotSize = true
is_of_files RawCritical = true
is_of_files ShortFlash = true
is_of_files _ = false

-- two caveats have one name
abbrev pub is_same_name : CaveatName → CaveatName → Bool
is_same_name n m = bytes_eq (caveat_name n) (caveat_name m)
