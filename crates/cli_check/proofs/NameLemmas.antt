-- The name in a caveat's line.
use Rattle.std.proofs.Common.{refl, inl, inr, ℕ, ◌++◌, codes, decimal}
use Rattle.text_words.specs.Writing.{hex_row, hex_word, line}
use Rattle.text_lines.specs.Faults.{why_text}
use Rattle.text_lines.specs.Texts.{window_text}
use Rattle.slot_caveats.specs.declared.caveat.Caveat.{Caveat}
use Rattle.slot_caveats.specs.declared.caveat.Caveat.TheVariants.{SecureBoot, RawFlags, RawSlotSize, ShortFlash, TableInImage, OtherProcessor, SlotImage, Tie, UpdateOfSlot, UpdateMovesUnit, RollbackRows, RollbackFull, RollbackGap, FirstBlock, ItemOrder, MayStart, OwnedImage, UnreadTargets, UnreadSide, TableTie, ShortSlots, ImageInSlot, SlotEnd, FaultyTable, TableOrder, LongDefinition, AbsoluteMap, BareHash, RawCritical, IgnoreFlags, NoRead, UpdateOfNothing}
use Rattle.cli_inputs.specs.JsonTexts.{table_fault_text}
use Rattle.cli_caveats.specs.Texts.{caveat_text, hex_bits}
use Rattle.check_lines.specs.Counting.{held_line, skipped_line}
use Rattle.check_require.specs.Names.{caveat_name}
use Rattle.check_require.specs.declared.caveats.CaveatName.TheVariants as names
use Rattle.cli_check.specs.Names.{HasName}
use Rattle.cli_check.specs.Reporting.{name_of}

pub named : (x : Caveat) → HasName (caveat_text x) (caveat_name (name_of x))
named SecureBoot = inl refl
named (RawFlags row bits) = inr (codes "row=" ++ (hex_row row ++ (codes " bits=" ++ hex_bits bits)), refl)
named (RawSlotSize bits) = inr (codes "bits=" ++ hex_bits bits, refl)
named (ShortFlash slot part) = inr (codes "slot=" ++ (decimal slot ++ (codes " partition=" ++ decimal part)), refl)
named (ShortSlots size) = inr (codes "slot-size=" ++ hex_word size, refl)
named (TableInImage w at) = inr ((window_text w ++ (codes " at=" ++ hex_word at)), refl)
named (OtherProcessor w) = inr (window_text w, refl)
named (SlotImage w) = inr (window_text w, refl)
named (Tie w other) = inr ((window_text w ++ (codes " " ++ window_text other)), refl)
named (UpdateOfSlot base) = inr (codes "base=" ++ hex_word base, refl)
named (UpdateMovesUnit part) = inr (codes "partition=" ++ decimal part, refl)
named (RollbackRows w) = inr (window_text w, refl)
named (RollbackFull w) = inr (window_text w, refl)
named (RollbackGap row) = inr (codes "row=" ++ hex_row row, refl)
named (FirstBlock w) = inr (window_text w, refl)
named (ItemOrder w) = inr (window_text w, refl)
named (MayStart w why) = inr ((window_text w ++ (codes " fault=" ++ why_text why)), refl)
named (OwnedImage part) = inr (codes "partition=" ++ decimal part, refl)
named (UnreadTargets bits) = inr (codes "unpartitioned=" ++ hex_word bits, refl)
named (UnreadSide part) = inr (codes "partition=" ++ decimal part, refl)
named TableTie = inl refl
named (ImageInSlot slot) = inr (decimal slot, refl)
named (SlotEnd w at) = inr ((window_text w ++ (codes " at=" ++ hex_word at)), refl)
named (FaultyTable slot fault) =
    inr (codes "slot=" ++ (decimal slot ++ (codes " fault=" ++ table_fault_text fault)), refl)
named (TableOrder slot) = inr (codes "slot=" ++ decimal slot, refl)
named (RawCritical row bits) = inr (codes "row=" ++ (hex_row row ++ (codes " bits=" ++ hex_bits bits)), refl)
named (LongDefinition w at) = inr ((window_text w ++ (codes " at=" ++ hex_word at)), refl)
named (AbsoluteMap w) = inr (window_text w, refl)
named (BareHash w) = inr (window_text w, refl)
named (IgnoreFlags part) = inr (codes "partition=" ++ decimal part, refl)
named (NoRead part) = inr (codes "partition=" ++ decimal part, refl)
named (UpdateOfNothing base) = inr (codes "base=" ++ hex_word base, refl)

pub held-named : (event : ℕ) → HasName (held_line event) (caveat_name names.HeldSector)
unfolding held_line
held-named event = inr (codes "event=" ++ line (decimal event), refl)

pub skipped-named : (event : ℕ) → HasName (skipped_line event) (caveat_name names.SkippedBlock)
unfolding skipped_line
skipped-named event = inr (codes "event=" ++ line (decimal event), refl)
