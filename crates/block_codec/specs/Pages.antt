-- Flash that was erased and then programmed in part, in whole pages of 256 bytes (RP2350
-- Datasheet, chapter 5, Bootrom: a flash page is the unit of a program).
use Rattle.std.specs.Prelude.{◌≡◌, ℕ, ◌+◌, ◌*◌, ◌<◌, ◌⊎◌, List, length, slice_index}
use Rattle.block_codec.specs.Items.{headers_of}
use Rattle.block_codec.specs.Blocks.{BlockView}

-- page q is erased
abbrev pub IsBlankWindowPage : ℕ → List ℕ → Type 0
IsBlankWindowPage q v = (i : ℕ) → i < 256 → slice_index v (256 * q + i) ≡ 255

-- page q is the same in both
abbrev pub IsSameWindowPage : ℕ → List ℕ → List ℕ → Type 0
IsSameWindowPage q w v = (i : ℕ) → i < 256
    → slice_index v (256 * q + i) ≡ slice_index w (256 * q + i)

-- v is w but for pages that are erased
pub record IsPartlyWritten (w v : List ℕ) : Type 0 where
  pub long : length v ≡ length w
  pub pages : (q : ℕ) → IsBlankWindowPage q v ⊎ IsSameWindowPage q w v

-- block c has the place, the size, the headers and the link of block b
pub record HasHeadersOf (b c : BlockView) : Type 0 where
  pub place : c.at ≡ b.at
  pub count : length c.items ≡ length b.items
  pub headers : headers_of c.items ≡ headers_of b.items
  pub link : c.link ≡ b.link
