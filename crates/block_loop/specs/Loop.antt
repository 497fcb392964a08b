-- Block loops, by the rules of the RP2350 Datasheet (chapter 5, Bootrom, "Blocks and block
-- loops"): as relations over whole chains of blocks, and as the function that goes from link to
-- link. Two limits are this project's own: the first block may end past offset 4096, and a loop
-- has at most 32 blocks.
use Rattle.std.specs.Prelude.{◌≡◌, ◌≢◌, ℕ, zero, suc, ◌+◌, ◌-◌, ◌<◌, ◌≤◌, ◌==◌, ◌&&◌, nat_lt, Bool, true, false, ℤ, pos, negsuc, ◌+ℤ◌, List, [], ◌∷◌, ◌++◌, length, drop, slice_get, Option, Some, None, Result, Ok, Err}
use Rattle.std.specs.List.{position_from}
use Rattle.block_codec.specs.Blocks.{BlockView, BlockAt, block_size}
use Rattle.block_codec.specs.Reading.{block_at, front_block}
use Rattle.block_loop.specs.declared.fault.LoopFault.{LoopFault}
use Rattle.block_loop.specs.declared.fault.LoopFault.TheVariants.{NoBlock, Broken, TooMany, Overlap}

-- the offset that a block's link leads to
abbrev pub target : BlockView → ℤ
target b = pos b.at +ℤ b.link

-- the two blocks share a byte
abbrev pub shares : BlockView → BlockView → Bool
shares a b = nat_lt a.at (b.at + block_size b) && nat_lt b.at (a.at + block_size a)

-- the block stands at the lowest offset below 4096 at which a block stands in w
pub record IsFirstBlock (w : List ℕ) (b : BlockView) : Type 0 where
  pub stands : BlockAt w b.at b
  pub low : b.at < 4096
  pub least : (x : ℕ) (c : BlockView) → x < b.at → BlockAt w x c → ⊥

-- 1 to 32 blocks, of which the first is the first block of w: each stands in w, each one's link
-- leads to the next, and no two of them share a byte
pub record IsChain (w : List ℕ) (bs : List BlockView) : Type 0 where
  pub some : 1 ≤ length bs
  pub few : length bs ≤ 32
  pub first : (b : BlockView) → slice_get bs 0 ≡ Some b → IsFirstBlock w b
  pub stand : (i : ℕ) (b : BlockView) → slice_get bs i ≡ Some b → BlockAt w b.at b
  pub linked : (i : ℕ) (b c : BlockView) → slice_get bs i ≡ Some b → slice_get bs (i + 1) ≡ Some c
      → target b ≡ pos c.at
  pub apart : (i j : ℕ) (b c : BlockView) → i < j → slice_get bs i ≡ Some b
      → slice_get bs j ≡ Some c → shares b c ≡ false

-- the last block of a chain
abbrev pub IsLastBlock : List BlockView → BlockView → Type 0
IsLastBlock bs b = slice_get bs (length bs - 1) ≡ Some b

-- the blocks of a window's loop, in loop order: a chain whose last link leads to the first block
pub record IsLoop (w : List ℕ) (bs : List BlockView) : Type 0 where
  pub chain : IsChain w bs
  pub closed : (a z : BlockView) → slice_get bs 0 ≡ Some a → IsLastBlock bs z → target z ≡ pos a.at

-- a chain whose last link leads elsewhere
pub record IsOpenChain (w : List ℕ) (bs : List BlockView) : Type 0 where
  pub chain : IsChain w bs
  pub leads_on : (a z : BlockView) → slice_get bs 0 ≡ Some a → IsLastBlock bs z
      → target z ≢ pos a.at

-- the block stands in w where the link of the last block of the chain leads
pub record IsNextBlock (w : List ℕ) (bs : List BlockView) (c : BlockView) : Type 0 where
  pub stands : BlockAt w c.at c
  pub leads : (z : BlockView) → IsLastBlock bs z → target z ≡ pos c.at

-- block i of the chain is the first that shares a byte with the block
pub record IsFirstShared (bs : List BlockView) (c : BlockView) (i : ℕ) : Type 0 where
  pub here : (b : BlockView) × (slice_get bs i ≡ Some b) × (shares b c ≡ true)
  pub before : (k : ℕ) (b : BlockView) → k < i → slice_get bs k ≡ Some b → shares b c ≡ false

-- the fault of a window without a loop
abbrev pub IsLoopFault : List ℕ → LoopFault → Type 0
IsLoopFault w NoBlock = (x : ℕ) (b : BlockView) → x < 4096 → BlockAt w x b → ⊥
IsLoopFault w (Broken x) =
    (bs : List BlockView) × IsOpenChain w bs × (length bs < 32)
    × ((z : BlockView) → IsLastBlock bs z → z.at ≡ x) × ((c : BlockView) → IsNextBlock w bs c → ⊥)
IsLoopFault w TooMany = (bs : List BlockView) × IsOpenChain w bs × (length bs ≡ 32)
IsLoopFault w (Overlap i j) =
    (bs : List BlockView) × IsOpenChain w bs × (length bs ≡ j) × (j < 32)
    × ((c : BlockView) × IsNextBlock w bs c × IsFirstShared bs c i)

-- the first block at one of the next n multiples of 4 from offset x on; the list has the bytes
-- from x on
unfoldable pub block_from : ℕ → ℕ → List ℕ → Option BlockView
block_from zero x bytes = None
block_from (suc n) x bytes =
    elim (front_block x bytes) [ Some b ↦ Some b | None ↦ block_from n (x + 4) (drop 4 bytes) ]

-- the first block of a window: the one at the lowest multiple of 4 below 4096
abbrev pub first_block : List ℕ → Option BlockView
first_block w = block_from 1024 0 w

-- the block at a signed offset
abbrev pub block_at_offset : List ℕ → ℤ → Option BlockView
block_at_offset w (pos x) = block_at w x
block_at_offset w (negsuc n) = None

-- the signed offset is this one
abbrev pub is_offset : ℤ → ℕ → Bool
is_offset (pos x) y = x == y
is_offset (negsuc n) y = false

-- the place of the first of the blocks that shares a byte with block c
abbrev pub first_shared : List BlockView → BlockView → Option ℕ
first_shared bs c = position_from (λ (b : BlockView). shares b c) 0 bs

-- the loop or its fault, where the blocks bs were found already and at most n more may come; the
-- first of bs stands at offset x, and z is the last
unfoldable pub follow : ℕ → List ℕ → ℕ → List BlockView → BlockView
    → Result (List BlockView) LoopFault
follow zero w x bs z = elim (is_offset (target z) x) [ true ↦ Ok bs | false ↦ Err TooMany ]
follow (suc n) w x bs z =
    elim (is_offset (target z) x) [
      | true ↦ Ok bs
      | false ↦ elim (block_at_offset w (target z)) [
        | None ↦ Err (Broken z.at)
        | Some c ↦ elim (first_shared bs c) [
          | Some i ↦ Err (Overlap i (length bs))
          | None ↦ follow n w x (bs ++ c ∷ []) c
        ]
      ]
    ]

-- the blocks of a window's loop in loop order, or the fault
unfoldable pub loop_of : List ℕ → Result (List BlockView) LoopFault
loop_of w = elim (first_block w) [ None ↦ Err NoBlock | Some b ↦ follow 31 w b.at (b ∷ []) b ]
