-- The rules of a valid image, each by what it answers (RP2350 Datasheet, chapter 5, Bootrom; this
-- project's own where the datasheet is open, and the rollback rule as a whole).
use Rattle.std.specs.Prelude.{ℕ, zero, pos, ℤ, Bool, true, not, ◌&&◌, if◌then◌else◌, nat_lt, bytes_eq, List, [], slice_get, Option, Some, None, option_and_then, Result, Ok, Err}
use Rattle.std.specs.List.{list_any}
use Rattle.std.specs.Option.{option_or}
use Rattle.pico_board.specs.declared.boot.Cpu.{Cpu}
use Rattle.block_codec.specs.declared.definition.Def.{Def}
use Rattle.block_codec.specs.declared.definition.EntryPoint.{EntryPoint}
use Rattle.block_codec.specs.declared.items.Item.{Item}
use Rattle.block_codec.specs.Items.{items_of}
use Rattle.block_codec.specs.Blocks.{BlockView}
use Rattle.block_loop.specs.declared.fault.LoopFault.{LoopFault}
use Rattle.block_loop.specs.declared.fault.LoopFault.TheVariants.{NoBlock as NoFirst}
use Rattle.image_def.specs.Flags.{is_trial}
use Rattle.image_def.specs.Suits.{has_image_type, last_suiting}
use Rattle.image_def.specs.Definition.{def_of}
use Rattle.load_map.specs.declared.load.Load.{Load}
use Rattle.load_map.specs.declared.load.MapFault.{MapFault}
use Rattle.load_map.specs.Reading.{loads_of}
use Rattle.load_map.specs.Covered.{covered_digest}
use Rattle.otp_roll.specs.Rows.{count}
use Rattle.otp_roll.specs.Flags.{rollback_required}
use Rattle.image_check.specs.declared.addressing.Addressing.{Addressing}
use Rattle.image_check.specs.declared.why.Why.{Why}
use Rattle.image_check.specs.declared.why.Why.TheVariants.{NoBlock, Loop, NoDefinition, NotForProcessor, Items, Trial, RollbackRequired, Below, Map, Entry, Digest, Delta}
use Rattle.image_check.specs.Answers.{or_fault, fault_as}
use Rattle.image_check.specs.Entry.{entry_of}

-- first block and loop: the window has a first block, and its loop closes
abbrev pub loop_answer : Result (List BlockView) LoopFault → Result (List BlockView) Why
loop_answer (Ok loop) = Ok loop
loop_answer (Err NoFirst) = Err NoBlock
loop_answer (Err fault) = Err (Loop fault)

-- definition and processor: some block of the loop has an IMAGE_TYPE item, and some block suits
abbrev pub definition_answer : Cpu → List BlockView → Result BlockView Why
definition_answer cpu loop =
    if list_any has_image_type loop then or_fault (last_suiting cpu loop) NotForProcessor
    else Err NoDefinition

-- items: the definition's items are read
abbrev pub items_answer : BlockView → Result Def Why
items_answer b = fault_as Items (def_of b)

-- trial: the trial bit is clear, or the boot allows a trial image here
abbrev pub trial_fault : Bool → Def → Option Why
trial_fault allowed def = if is_trial def.flags && not allowed then Some Trial else None

-- rollback: where the OTP requires it the image lists rows
abbrev pub required_fault : Bool → List ℕ → Option Why
required_fault true [] = Some RollbackRequired
required_fault required rows = None

-- rollback: the image's rollback version, where it has one, is not below the count of its rows
abbrev pub below_fault : Option ℕ → ℕ → Option Why
below_fault None raised = None
below_fault (Some version) raised =
    if nat_lt version raised then Some (Below version raised) else None

abbrev pub rollback_fault : List ℕ → Def → Option Why
rollback_fault otp def =
    option_or (required_fault (rollback_required otp) def.rows.items)
    (below_fault def.rollback (count otp def.rows.items))

-- the loads of an image's LOAD_MAP item in a window of n bytes, or their first fault; an image
-- without one loads nothing
abbrev pub item_loads : Addressing → ℕ → BlockView → Option Item → Result (List Load) MapFault
item_loads a n b None = Ok []
item_loads a n b (Some item) = loads_of a.base a.in_place n b item

abbrev pub map_loads : Addressing → ℕ → BlockView → Def → Result (List Load) MapFault
map_loads a n b def = item_loads a n b (option_and_then (slice_get (items_of b.items)) def.map_item)

-- map: the entries of the load map are in range
abbrev pub map_answer : Addressing → ℕ → BlockView → Def → Result (List Load) Why
map_answer a n b def = fault_as Map (map_loads a n b def)

-- entry: it is found and is right
abbrev pub entry_answer : ℕ → List ℕ → Cpu → BlockView → Def → List Load → Result EntryPoint Why
entry_answer base bytes cpu b def loads = fault_as Entry (entry_of base bytes cpu b def loads)

-- digest: where there is a HASH_VALUE, it is the SHA-256 of the covered bytes
abbrev pub digest_fault : List ℕ → BlockView → Def → List Load → Option (List ℕ) → Option Why
digest_fault bytes b def loads None = None
digest_fault bytes b def loads (Some value) =
    if bytes_eq value (covered_digest bytes b def loads) then None else Some Digest

-- delta: no window delta, or one of 0
abbrev pub delta_fault : ℤ → Option Why
delta_fault (pos zero) = None
delta_fault delta = Some Delta
