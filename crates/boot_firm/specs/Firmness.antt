-- Whether an image is firm, as a function.
use Rattle.std.specs.Prelude.{ℕ, zero, suc, ◌*◌, ◌==◌, ◌&&◌, nat_le, Bool, true, false, is_some, List, [], ◌∷◌, length, Option, Some, None, Result, Ok, Err}
use Rattle.std.specs.List.{list_any}
use Rattle.block_codec.specs.Blocks.{BlockView}
use Rattle.block_codec.specs.Reading.{block_at}
use Rattle.block_loop.specs.declared.fault.LoopFault.{LoopFault}
use Rattle.block_loop.specs.Loop.{loop_of}
use Rattle.load_map.specs.declared.load.Load.{Load}
use Rattle.pico_board.specs.declared.boot.Cpu.{Cpu}
use Rattle.image_def.specs.declared.started.Started.{Started}
use Rattle.image_check.specs.declared.examining.Defined.{Defined}
use Rattle.image_check.specs.declared.why.Why.{Why}
use Rattle.image_check.specs.Addressing.{in_flash}
use Rattle.image_check.specs.Image.{defined_in}
use Rattle.image_check.specs.Rules.{map_answer}

abbrev pub is_at_start : Option ℕ → Bool
is_at_start None = false
is_at_start (Some start) = start == 0

-- the first of the loads is stored from the window's start to the offset
abbrev pub loads_front : ℕ → List Load → Bool
loads_front e [] = false
loads_front e (load ∷ loads) = is_at_start load.storage && load.size == e

-- no block stands there, or one of the loop does
abbrev pub is_of_loop : List BlockView → Option BlockView → Bool
is_of_loop loop None = true
is_of_loop loop (Some b) = list_any (λ (c : BlockView). c.at == b.at) loop

-- at each of the first n multiples of 4 no block stands, or one of the loop does
unfoldable pub has_no_other : List ℕ → List BlockView → ℕ → Bool
has_no_other bytes loop zero = true
has_no_other bytes loop (suc n) =
    is_of_loop loop (block_at bytes (4 * n)) && has_no_other bytes loop n

-- the first entry of the load map has all bytes before the definition
abbrev pub has_front : ℕ → Result (List Load) Why → Bool
has_front e (Ok loads) = loads_front e loads
has_front e (Err why) = false

-- the blocks of the first sector are those of the loop
abbrev pub is_alone : List ℕ → Result (List BlockView) LoopFault → Bool
is_alone bytes (Ok loop) = has_no_other bytes loop 1024
is_alone bytes (Err fault) = false

-- the definition has a digest, and its load map begins with all bytes before it
abbrev pub is_covered : List ℕ → ℕ → Result Defined Why → Bool
is_covered bytes e (Ok image) =
    is_some image.def.digest
    && has_front e (map_answer in_flash (length bytes) image.block image.def)
is_covered bytes e (Err why) = false

-- an image that a window with these bytes holds is firm
abbrev pub is_firm : Cpu → List ℕ → Started → Bool
is_firm cpu bytes s =
    nat_le 4096 s.block
    && (is_covered bytes s.block (defined_in cpu bytes) && is_alone bytes (loop_of bytes))
