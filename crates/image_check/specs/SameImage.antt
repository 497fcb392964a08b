-- When two windows hold the same image: SameImage.
use Rattle.std.specs.Prelude.{◌≡◌, ⊤, ℕ, ◌+◌, ◌≤◌, ◌<◌, List, length, slice_index, Option, Some, None}
use Rattle.std.specs.List.{AllByRecursion}
use Rattle.pico_board.specs.declared.boot.Cpu.{Cpu}
use Rattle.pico_board.specs.Content.{Content, window_bytes}
use Rattle.block_codec.specs.declared.definition.EntryPoint.{EntryPoint}
use Rattle.block_codec.specs.Blocks.{BlockView, block_size}
use Rattle.image_def.specs.declared.started.Started.{Started}
use Rattle.load_map.specs.declared.load.Load.{Load}
use Rattle.image_check.specs.Addressing.{in_flash}
use Rattle.image_check.specs.declared.examining.Defined.{Defined}
use Rattle.image_check.specs.Image.{started_of}
use Rattle.image_check.specs.Valid.{IsSound}

-- the bytes from a place up to another one are the same in both
abbrev pub AgreeFrom : List ℕ → List ℕ → ℕ → ℕ → Type 0
AgreeFrom one two from end = (i : ℕ) → from ≤ i → i < end → slice_index two i ≡ slice_index one i

-- the bytes of each of the blocks are the same in both
abbrev pub AgreeOnBlocks : List ℕ → List ℕ → List BlockView → Type 0
AgreeOnBlocks one two blocks =
    AllByRecursion (λ (b : BlockView). AgreeFrom one two b.at (b.at + block_size b)) blocks

-- the bytes of a storage of this size are the same in both; a clear entry has none
abbrev pub AgreeOnLoad : List ℕ → List ℕ → Option ℕ → ℕ → Type 0
AgreeOnLoad one two None size = ⊤
AgreeOnLoad one two (Some start) size = AgreeFrom one two start (start + size)

-- the bytes of the storage of each of the loads are the same in both
abbrev pub AgreeOnLoads : List ℕ → List ℕ → List Load → Type 0
AgreeOnLoads one two loads =
    AllByRecursion (λ (load : Load). AgreeOnLoad one two load.storage load.size) loads

-- what an image loads is the same in both: the storage of its load map, or the whole window where
-- it has no map
abbrev pub AgreeOnStorage : List ℕ → List ℕ → Option ℕ → List Load → Type 0
AgreeOnStorage one two None loads = AgreeFrom one two 0 (length one)
AgreeOnStorage one two (Some item) loads = AgreeOnLoads one two loads

-- a window with these bytes holds the image s, but for the trial and the rollback rule
pub record HoldsImage (cpu : Cpu) (bytes : List ℕ) (s : Started) : Type 0 where
  pub image : Defined
  pub entry : EntryPoint
  pub sound : IsSound in_flash cpu bytes image entry
  pub started : s ≡ started_of s.window image entry

-- the first of two windows with these bytes holds the image s. The second one has the same bytes in
-- each block of the image's loop, and in the storage of its load map, or everywhere where it has no
-- map
pub record HoldSameImage (cpu : Cpu) (one two : List ℕ) (s : Started) : Type 0 where
  pub held : HoldsImage cpu one s
  pub long : length two ≡ length one
  pub blocks : AgreeOnBlocks one two held.sound.loop
  pub storage : AgreeOnStorage one two held.image.def.map_item held.sound.loads

-- SameImage: content c holds the image s in its window, and d agrees with c on all places of it
abbrev pub SameImage : Content → Content → Started → Cpu → Type 0
SameImage c d s cpu = HoldSameImage cpu (window_bytes c s.window) (window_bytes d s.window) s
