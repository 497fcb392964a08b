-- The lines of caveats.
use Rattle.std.specs.Prelude.{ℕ, List, ◌++◌, codes, decimal}
use Rattle.std.specs.List.{flat_map}
use Rattle.text_words.specs.Writing.{hex_digits, hex_row, hex_word, line}
use Rattle.boot_rules.specs.declared.decision.Decision.{Decision}
use Rattle.slot_caveats.specs.declared.caveat.Caveat.{Caveat}
use Rattle.slot_caveats.specs.declared.caveat.Caveat.TheVariants.{SecureBoot, RawFlags, RawSlotSize, ShortFlash, TableInImage, OtherProcessor, SlotImage, Tie, UpdateOfSlot, UpdateMovesUnit, RollbackRows, RollbackFull, RollbackGap, FirstBlock, ItemOrder, MayStart, OwnedImage, UnreadTargets, UnreadSide, TableTie, ShortSlots, ImageInSlot, SlotEnd, FaultyTable, TableOrder, LongDefinition, AbsoluteMap, BareHash, RawCritical, IgnoreFlags, NoRead, UpdateOfNothing}
use Rattle.text_lines.specs.Faults.{why_text}
use Rattle.cli_inputs.specs.JsonTexts.{table_fault_text}
use Rattle.text_lines.specs.Texts.{decision_line, window_text}

-- bits of an OTP row as 0x and six digits
abbrev pub hex_bits : ℕ → List ℕ
hex_bits bits = codes "0x" ++ hex_digits 6 bits

abbrev pub caveat_text : Caveat → List ℕ
caveat_text SecureBoot = codes "caveat secure-boot"
caveat_text (RawFlags row bits) =
    codes "caveat raw-flags row=" ++ (hex_row row ++ (codes " bits=" ++ hex_bits bits))
caveat_text (RawSlotSize bits) = codes "caveat raw-slot-size bits=" ++ hex_bits bits
caveat_text (ShortFlash slot part) =
    codes "caveat short-flash slot=" ++ (decimal slot ++ (codes " partition=" ++ decimal part))
caveat_text (ShortSlots size) = codes "caveat short-flash slot-size=" ++ hex_word size
caveat_text (TableInImage w at) =
    codes "caveat table-in-image " ++ (window_text w ++ (codes " at=" ++ hex_word at))
caveat_text (OtherProcessor w) = codes "caveat other-processor " ++ window_text w
caveat_text (SlotImage w) = codes "caveat slot-1-image " ++ window_text w
caveat_text (Tie w other) =
    codes "caveat tie " ++ (window_text w ++ (codes " " ++ window_text other))
caveat_text (UpdateOfSlot base) = codes "caveat update-of-slot base=" ++ hex_word base
caveat_text (UpdateMovesUnit part) = codes "caveat update-moves-unit partition=" ++ decimal part
caveat_text (RollbackRows w) = codes "caveat rollback-rows " ++ window_text w
caveat_text (RollbackFull w) = codes "caveat rollback-full " ++ window_text w
caveat_text (RollbackGap row) = codes "caveat rollback-gap row=" ++ hex_row row
caveat_text (FirstBlock w) = codes "caveat first-block " ++ window_text w
caveat_text (ItemOrder w) = codes "caveat item-order " ++ window_text w
caveat_text (MayStart w why) =
    codes "caveat may-start " ++ (window_text w ++ (codes " fault=" ++ why_text why))
caveat_text (OwnedImage part) = codes "caveat owned-image partition=" ++ decimal part
caveat_text (UnreadTargets bits) = codes "caveat unread-bits unpartitioned=" ++ hex_word bits
caveat_text (UnreadSide part) = codes "caveat unread-bits partition=" ++ decimal part
caveat_text TableTie = codes "caveat table-tie"
caveat_text (ImageInSlot slot) = codes "caveat image-in-slot " ++ decimal slot
caveat_text (SlotEnd w at) =
    codes "caveat slot-end " ++ (window_text w ++ (codes " at=" ++ hex_word at))
caveat_text (FaultyTable slot fault) =
    codes "caveat table-fault slot="
    ++ (decimal slot ++ (codes " fault=" ++ table_fault_text fault))
caveat_text (TableOrder slot) = codes "caveat table-order slot=" ++ decimal slot
caveat_text (RawCritical row bits) =
    codes "caveat raw-critical row=" ++ (hex_row row ++ (codes " bits=" ++ hex_bits bits))
caveat_text (LongDefinition w at) =
    codes "caveat long-definition " ++ (window_text w ++ (codes " at=" ++ hex_word at))
caveat_text (AbsoluteMap w) = codes "caveat absolute-map " ++ window_text w
caveat_text (BareHash w) = codes "caveat bare-hash " ++ window_text w
caveat_text (IgnoreFlags part) = codes "caveat ignore-flags partition=" ++ decimal part
caveat_text (NoRead part) = codes "caveat no-read partition=" ++ decimal part
caveat_text (UpdateOfNothing base) = codes "caveat update-of-nothing base=" ++ hex_word base

abbrev pub caveat_line : Caveat → List ℕ
caveat_line caveat = line (caveat_text caveat)

-- the decision's line, and then one line for each caveat
abbrev pub caveats_text : Decision → List Caveat → List ℕ
caveats_text d list = decision_line d ++ flat_map caveat_line list
