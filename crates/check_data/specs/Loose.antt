-- The loose bytes of the image that starts on the content z: those that the trace programs and that
-- nothing of the image covers.
use Rattle.std.specs.Prelude.{◌≡◌, ◌≢◌, ℕ, zero, suc, ◌+◌, ◌-◌, ◌/◌, ◌<◌, ◌≤◌, ◌==◌, ◌&&◌, ◌||◌, Bool, false, not, nat_le, nat_lt, if◌then◌else◌, List, [], ◌∷◌, length, slice_index, map, Contains, Option, Some, None, Result, Ok, Err}
use Rattle.std.specs.List.{list_any}
use Rattle.pico_board.specs.declared.Step.{Step}
use Rattle.pico_board.specs.declared.step.Step.TheVariants.{Erase, Program, Raise}
use Rattle.pico_board.specs.declared.boot.Cpu.{Cpu}
use Rattle.pico_board.specs.declared.boot.BootKind.TheVariants.{Normal}
use Rattle.pico_board.specs.declared.window.Window.{Window}
use Rattle.pico_board.specs.Content.{Content, window_bytes}
use Rattle.block_codec.specs.Blocks.{BlockView, block_size}
use Rattle.block_loop.specs.declared.fault.LoopFault.{LoopFault}
use Rattle.block_loop.specs.Loop.{loop_of}
use Rattle.load_map.specs.declared.load.Load.{Load}
use Rattle.load_map.specs.declared.load.MapFault.{MapFault}
use Rattle.load_map.specs.Agree.{IsStoredAt}
use Rattle.image_check.specs.declared.examining.Defined.{Defined}
use Rattle.image_check.specs.declared.why.Why.{Why}
use Rattle.image_check.specs.Addressing.{in_flash}
use Rattle.image_check.specs.Image.{defined_in}
use Rattle.image_check.specs.Rules.{map_loads}
use Rattle.image_check.specs.SameImage.{HoldsImage}
use Rattle.slot_choice.specs.declared.choice.Choice.{Choice}
use Rattle.boot_rules.specs.declared.decision.Decision.{Decision}
use Rattle.boot_rules.specs.declared.decision.Decision.TheVariants.{Start, Bootsel}
use Rattle.boot_rules.specs.Chosen.{Chosen}
use Rattle.boot_rules.specs.Choosing.{decision_in}
use Rattle.boot_sweep.specs.Moving.{MoveView, Done, Torn}
use Rattle.boot_cuts.specs.Tears.{done_steps}
use Rattle.check_data.specs.declared.loose.Covering.{Covering}

-- the trace programs the page
pub record IsProgrammed (moves : List MoveView) (page : ℕ) : Type 0 where
  pub bytes : List ℕ
  pub done : Contains (done_steps moves) (Program page bytes)

-- the byte at this offset of a window is one of the block
abbrev pub IsInBlock : ℕ → BlockView → Type 0
IsInBlock i b = (b.at ≤ i) × (i < b.at + block_size b)

-- The byte at this offset of the flash is loose. A normal boot on z starts an image that has a load
-- map, and the byte lies in its window and is neither 0 nor 0xff. The trace programs its page. It
-- lies in no block of the image's loop, and in no storage of its load map.
pub record IsLoose (z : Content) (cpu : Cpu) (moves : List MoveView) (x : ℕ) : Type 0 where
  pub choice : Choice
  pub chosen : Chosen z cpu Normal (Start choice)
  pub held : HoldsImage cpu (window_bytes z choice.image.window) choice.image
  pub item : ℕ
  pub mapped : held.image.def.map_item ≡ Some item
  pub from : choice.image.window.start ≤ x
  pub to : x < choice.image.window.start + choice.image.window.len
  pub not_clear : slice_index z.flash x ≢ 0
  pub not_erased : slice_index z.flash x ≢ 255
  pub programmed : IsProgrammed moves (x / 256)
  pub blocks : (b : BlockView) → Contains held.sound.loop b
      → IsInBlock (x - choice.image.window.start) b → ⊥
  pub storage : (load : Load) → Contains held.sound.loads load
      → IsStoredAt load (x - choice.image.window.start) → ⊥

-- the step programs the page
abbrev pub is_program_of : ℕ → Step → Bool
is_program_of page (Program p bytes) = p == page
is_program_of page (Erase s) = false
is_program_of page (Raise r b) = false

-- one of the n bytes from `at` on
abbrev pub is_within : ℕ → ℕ → ℕ → Bool
is_within at n i = nat_le at i && nat_lt i (at + n)

abbrev pub is_in_block : ℕ → BlockView → Bool
is_in_block i b = is_within b.at (block_size b) i

-- a clear entry stores nothing
abbrev pub is_in_storage : ℕ → Option ℕ → ℕ → Bool
is_in_storage i None size = false
is_in_storage i (Some at) size = is_within at size i

abbrev pub is_in_load : ℕ → Load → Bool
is_in_load i load = is_in_storage i load.storage load.size

-- a block or a storage has the byte at this offset of the window
abbrev pub is_covered : List BlockView → List Load → ℕ → Bool
is_covered loop loads i = list_any (is_in_block i) loop || list_any (is_in_load i) loads

-- a byte that is neither 0 nor 0xff
abbrev pub is_written_byte : ℕ → Bool
is_written_byte b = not (b == 0) && not (b == 255)

-- the byte at an offset of the flash is loose, where the image's window begins at `start`
abbrev pub is_loose : List ℕ → List Step → ℕ → List BlockView → List Load → ℕ → Bool
is_loose flash done start loop loads x =
    list_any (is_program_of (x / 256)) done
    && (is_written_byte (slice_index flash x) && not (is_covered loop loads (x - start)))

-- those of the n offsets from `at` on that pass a test, in ascending order
unfoldable pub offsets_where : (ℕ → Bool) → ℕ → ℕ → List ℕ
offsets_where passes at zero = []
offsets_where passes at (suc n) =
    if passes at then at ∷ offsets_where passes (at + 1) n else offsets_where passes (at + 1) n

-- the loose bytes of a window, by its loop and its loads; without a load map there are none
abbrev pub loose_by : List ℕ → List Step → Window → Option ℕ → Result (List BlockView) LoopFault
    → Result (List Load) MapFault → List ℕ
loose_by flash done w None loop loads = []
loose_by flash done w (Some item) (Err fault) loads = []
loose_by flash done w (Some item) (Ok loop) (Err fault) = []
loose_by flash done w (Some item) (Ok loop) (Ok loads) =
    offsets_where (is_loose flash done w.start loop loads) w.start w.len

-- those of a window with this definition
abbrev pub loose_of : List ℕ → List Step → Window → List ℕ → Result Defined Why → List ℕ
loose_of flash done w bytes (Err why) = []
loose_of flash done w bytes (Ok image) =
    loose_by flash done w image.def.map_item (loop_of bytes)
    (map_loads in_flash (length bytes) image.block image.def)

-- the loose bytes on z, where a normal boot on it decides so
abbrev pub loose_in : Content → Cpu → List MoveView → Decision → List ℕ
loose_in z cpu moves (Bootsel fall) = []
loose_in z cpu moves (Start choice) =
    loose_of z.flash (done_steps moves) choice.image.window (window_bytes z choice.image.window)
    (defined_in cpu (window_bytes z choice.image.window))

-- the offsets of the loose bytes, in ascending order
abbrev pub loose_bytes : Content → Cpu → List MoveView → List ℕ
loose_bytes z cpu moves = loose_in z cpu moves (decision_in z cpu Normal)

-- where a block stands
abbrev pub block_span : BlockView → Window
block_span b = record { start = b.at; len = block_size b }

-- what an image covers is told by this loop
abbrev pub IsCovering : Covering → List BlockView → Type 0
IsCovering covering loop = covering.blocks.items ≡ map block_span loop

-- the byte at this offset of the window stands there
abbrev pub is_in_span : ℕ → Window → Bool
is_in_span i w = is_within w.start w.len i

-- the page that a step programs, where it completes
abbrev pub programmed_page : MoveView → Option ℕ
programmed_page (Done (Program p bytes)) = Some p
programmed_page (Done (Erase s)) = None
programmed_page (Done (Raise r b)) = None
programmed_page (Torn step within pattern) = None

abbrev pub is_page : ℕ → Option ℕ → Bool
is_page page None = false
is_page page (Some p) = p == page
