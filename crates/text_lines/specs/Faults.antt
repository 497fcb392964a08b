-- Why an image is not valid, as texts.
use Rattle.std.specs.Prelude.{ℕ, List, ◌++◌, codes, decimal}
use Rattle.text_words.specs.Writing.{hex_byte, hex_row, hex_word}
use Rattle.block_loop.specs.declared.fault.LoopFault.{LoopFault}
use Rattle.block_loop.specs.declared.fault.LoopFault.TheVariants.{NoBlock as NoFirst, Broken, TooMany, Overlap}
use Rattle.image_def.specs.declared.fault.DefFault.{DefFault}
use Rattle.image_def.specs.declared.fault.DefFault.TheVariants.{Repeated, BadItem, BadRow, RepeatedRow}
use Rattle.load_map.specs.declared.load.MapFault.{MapFault}
use Rattle.load_map.specs.declared.load.MapFault.TheVariants.{Storage, Runtime, CoversBlock}
use Rattle.image_check.specs.declared.why.Why.{Why}
use Rattle.image_check.specs.declared.why.Why.TheVariants.{NoBlock, Loop, NoDefinition, NotForProcessor, Items, Trial, RollbackRequired, Below, Map, Entry, Digest, Delta}
use Rattle.image_check.specs.declared.why.EntryFault.{EntryFault}
use Rattle.image_check.specs.declared.why.EntryFault.TheVariants.{Table as NoTable, InBlock, Pc}

-- the fault of a loop; the first is never one of an image's loop
abbrev pub loop_text : LoopFault → List ℕ
loop_text NoFirst = codes "loop no-block"
loop_text (Broken at) = codes "loop broken at=" ++ hex_word at
loop_text TooMany = codes "loop too-many"
loop_text (Overlap i j) = codes "loop overlap " ++ (decimal i ++ (codes " " ++ decimal j))

-- the fault of an image definition's items
abbrev pub items_text : DefFault → List ℕ
items_text (Repeated kind) = codes "item repeated " ++ hex_byte kind
items_text (BadItem kind) = codes "item bad " ++ hex_byte kind
items_text (BadRow row) = codes "row bad " ++ hex_row row
items_text (RepeatedRow row) = codes "row repeated " ++ hex_row row

-- the fault of a load map
abbrev pub map_text : MapFault → List ℕ
map_text (Storage i) = codes "map storage " ++ decimal i
map_text (Runtime i) = codes "map runtime " ++ decimal i
map_text (CoversBlock i) = codes "map covers-block " ++ decimal i

-- the fault of an image's entry
abbrev pub entry_fault_text : EntryFault → List ℕ
entry_fault_text NoTable = codes "entry table"
entry_fault_text InBlock = codes "entry in-block"
entry_fault_text Pc = codes "entry pc"

-- a rollback version that is below the count of its rows
abbrev pub below_text : ℕ → ℕ → List ℕ
below_text version count =
    codes "rollback " ++ (decimal version ++ (codes " below " ++ decimal count))

-- why an image is not valid
abbrev pub why_text : Why → List ℕ
why_text NoBlock = codes "no-block"
why_text (Loop fault) = loop_text fault
why_text NoDefinition = codes "no-definition"
why_text NotForProcessor = codes "not-for-processor"
why_text (Items fault) = items_text fault
why_text Trial = codes "trial"
why_text RollbackRequired = codes "rollback-required"
why_text (Below version count) = below_text version count
why_text (Map fault) = map_text fault
why_text (Entry fault) = entry_fault_text fault
why_text Digest = codes "digest"
why_text Delta = codes "delta"
