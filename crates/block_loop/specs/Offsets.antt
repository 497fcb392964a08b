-- A loop as the list of its blocks' offsets, in loop order.
use Rattle.std.specs.Prelude.{◌≡◌, ℕ, List, map, Result, Ok, Err}
use Rattle.block_codec.specs.Blocks.{BlockView}
use Rattle.block_loop.specs.declared.fault.LoopFault.{LoopFault}
use Rattle.block_loop.specs.Loop.{IsLoop}

-- the offsets of the blocks
abbrev pub offsets_of : List BlockView → List ℕ
offsets_of bs = map (λ (b : BlockView). b.at) bs

-- the offsets of a loop's blocks, or its fault
abbrev pub loop_offsets : Result (List BlockView) LoopFault → Result (List ℕ) LoopFault
loop_offsets (Ok bs) = Ok (offsets_of bs)
loop_offsets (Err f) = Err f

-- the offsets are those of the blocks of the window's loop
pub record AreLoop (w : List ℕ) (offsets : List ℕ) : Type 0 where
  pub blocks : (bs : List BlockView) × IsLoop w bs × (offsets_of bs ≡ offsets)
