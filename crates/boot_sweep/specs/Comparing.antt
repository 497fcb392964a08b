-- The result of a cut as a function, by comparing decisions and images.
use Rattle.std.specs.Prelude.{ℕ, zero, suc, ◌+◌, ◌==◌, ◌&&◌, Bool, true, false, not, if◌then◌else◌, bytes_eq, List, length, slice_index, Option, Some, None, Result, Ok, Err}
use Rattle.std.specs.List.{list_all}
use Rattle.block_codec.specs.Blocks.{BlockView, block_size}
use Rattle.block_codec.specs.declared.versions.Version.{Version}
use Rattle.block_loop.specs.declared.fault.LoopFault.{LoopFault}
use Rattle.block_loop.specs.Loop.{loop_of}
use Rattle.load_map.specs.declared.load.Load.{Load}
use Rattle.load_map.specs.declared.load.MapFault.{MapFault}
use Rattle.pico_board.specs.declared.boot.Cpu.{Cpu}
use Rattle.pico_board.specs.declared.boot.BootKind.TheVariants.{Normal}
use Rattle.pico_board.specs.declared.window.Window.{Window}
use Rattle.pico_board.specs.Windows.{is_same_window}
use Rattle.pico_board.specs.Content.{Content, window_bytes}
use Rattle.image_def.specs.declared.started.Started.{Started}
use Rattle.image_check.specs.declared.examining.Defined.{Defined}
use Rattle.image_check.specs.declared.why.Why.{Why}
use Rattle.image_check.specs.Addressing.{in_flash}
use Rattle.image_check.specs.Image.{defined_in}
use Rattle.image_check.specs.Rules.{map_loads}
use Rattle.slot_choice.specs.declared.unit.Member.{Member}
use Rattle.slot_choice.specs.declared.unit.Member.TheVariants.{A, B}
use Rattle.slot_choice.specs.declared.choice.Choice.{Choice}
use Rattle.boot_rules.specs.declared.decision.Fall.{Fall}
use Rattle.boot_rules.specs.declared.decision.Fall.TheVariants.{Requested, FlashOff, NoImage}
use Rattle.boot_rules.specs.declared.decision.Decision.{Decision}
use Rattle.boot_rules.specs.declared.decision.Decision.TheVariants.{Start, Bootsel}
use Rattle.boot_rules.specs.Choosing.{decision_in}
use Rattle.boot_sweep.specs.declared.results.CutResult.{CutResult}
use Rattle.boot_sweep.specs.declared.results.CutResult.TheVariants.{Former, Finished, Chance}

-- n bytes from a place on are the same in both
unfoldable pub agree_on : List ℕ → List ℕ → ℕ → ℕ → Bool
agree_on one two from zero = true
agree_on one two from (suc n) =
    slice_index two from == slice_index one from && agree_on one two (from + 1) n

-- the bytes of each of the blocks are the same in both
abbrev pub agree_on_blocks : List ℕ → List ℕ → List BlockView → Bool
agree_on_blocks one two blocks =
    list_all (λ (b : BlockView). agree_on one two b.at (block_size b)) blocks

-- the bytes of a storage of this size are the same in both; a clear entry has none
abbrev pub agree_on_load : List ℕ → List ℕ → Option ℕ → ℕ → Bool
agree_on_load one two None size = true
agree_on_load one two (Some start) size = agree_on one two start size

-- the bytes of the storage of each of the loads are the same in both
abbrev pub agree_on_loads : List ℕ → List ℕ → Result (List Load) MapFault → Bool
agree_on_loads one two (Ok loads) =
    list_all (λ (load : Load). agree_on_load one two load.storage load.size) loads
agree_on_loads one two (Err fault) = false

-- what an image of the first one loads is the same in both, or all is where it has no load map
abbrev pub agree_on_map : List ℕ → List ℕ → Option ℕ → Result (List Load) MapFault → Bool
agree_on_map one two None loads = agree_on one two 0 (length one)
agree_on_map one two (Some item) loads = agree_on_loads one two loads

abbrev pub agree_on_storage : List ℕ → List ℕ → Result Defined Why → Bool
agree_on_storage one two (Ok image) =
    agree_on_map one two image.def.map_item (map_loads in_flash (length one) image.block image.def)
agree_on_storage one two (Err why) = false

abbrev pub agree_on_loop : List ℕ → List ℕ → Result (List BlockView) LoopFault → Bool
agree_on_loop one two (Ok loop) = agree_on_blocks one two loop
agree_on_loop one two (Err fault) = false

-- the second of two windows, of which the first holds an image, is as long and has the same bytes
-- in all places of it
abbrev pub is_same_image : Cpu → List ℕ → List ℕ → Bool
is_same_image cpu one two =
    length two == length one && (agree_on_loop one two (loop_of one)
    && agree_on_storage one two (defined_in cpu one))

-- the versions are equal
abbrev pub is_same_version : Version → Version → Bool
is_same_version v w = v.major == w.major && v.minor == w.minor

-- the images start at the same place
abbrev pub is_same_entry : Started → Started → Bool
is_same_entry s t = s.pc == t.pc && (s.sp == t.sp && s.limit == t.limit)

abbrev pub is_same_number : Option ℕ → Option ℕ → Bool
is_same_number None None = true
is_same_number None (Some n) = false
is_same_number (Some n) None = false
is_same_number (Some n) (Some m) = n == m

abbrev pub is_same_rollback : Started → Started → Bool
is_same_rollback s t = is_same_number s.rollback t.rollback && bytes_eq s.rows.items t.rows.items

abbrev pub is_same_truth : Bool → Bool → Bool
is_same_truth true b = b
is_same_truth false b = not b

abbrev pub is_same_place : Started → Started → Bool
is_same_place s t =
    is_same_window s.window t.window && (s.block == t.block && s.image_at == t.image_at)

abbrev pub is_same_status : Started → Started → Bool
is_same_status s t =
    is_same_version s.version t.version && (is_same_rollback s t && is_same_truth s.trial t.trial)

abbrev pub is_same_started : Started → Started → Bool
is_same_started s t = is_same_place s t && (is_same_entry s t && is_same_status s t)

abbrev pub is_same_member : Member → Member → Bool
is_same_member A A = true
is_same_member A B = false
is_same_member B A = false
is_same_member B B = true

abbrev pub is_same_other : Option Window → Option Window → Bool
is_same_other None None = true
is_same_other None (Some w) = false
is_same_other (Some v) None = false
is_same_other (Some v) (Some w) = is_same_window v w

abbrev pub is_same_choice : Choice → Choice → Bool
is_same_choice a b =
    is_same_started a.image b.image && (is_same_member a.member b.member
    && (is_same_other a.other b.other && is_same_truth a.updated b.updated))

abbrev pub is_same_fall : Fall → Fall → Bool
is_same_fall Requested Requested = true
is_same_fall FlashOff FlashOff = true
is_same_fall NoImage NoImage = true
is_same_fall Requested FlashOff = false
is_same_fall Requested NoImage = false
is_same_fall FlashOff Requested = false
is_same_fall FlashOff NoImage = false
is_same_fall NoImage Requested = false
is_same_fall NoImage FlashOff = false

-- the decisions are equal records
abbrev pub is_same_decision : Decision → Decision → Bool
is_same_decision (Start a) (Start b) = is_same_choice a b
is_same_decision (Start a) (Bootsel f) = false
is_same_decision (Bootsel e) (Start b) = false
is_same_decision (Bootsel e) (Bootsel f) = is_same_fall e f

-- the decision on d is a start of an image that has the same bytes in z
abbrev pub is_whole : Cpu → Content → Content → Decision → Bool
is_whole cpu d z (Start choice) =
    is_same_image cpu (window_bytes d choice.image.window) (window_bytes z choice.image.window)
is_whole cpu d z (Bootsel fall) = false

-- the result of a cut that leaves d, where a normal boot decides so before the session and after
-- it, which leaves z
abbrev pub result_by : Decision → Decision → Cpu → Content → Content → CutResult
result_by former finished cpu d z =
    let e = decision_in d cpu Normal in
    if is_same_decision e former then Former
    else if is_same_decision e finished && is_whole cpu d z e then Finished
    else Chance

-- CutResult as a function: of a session that leads from c to z, and a cut that leaves d
abbrev pub result_of : Content → Content → Content → Cpu → CutResult
result_of c z d cpu = result_by (decision_in c cpu Normal) (decision_in z cpu Normal) cpu d z
