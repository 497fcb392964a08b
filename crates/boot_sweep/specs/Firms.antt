-- Images of which a sector that is programmed in part makes no other image: Firm, and Stray.
use Rattle.std.specs.Prelude.{◌≡◌, ◌≢◌, ℕ, ◌<◌, ◌≤◌, IsSome, List, [], ◌∷◌, Contains, Some, true}
use Rattle.pico_board.specs.declared.boot.Cpu.{Cpu}
use Rattle.pico_board.specs.declared.window.Window.{Window}
use Rattle.pico_board.specs.Content.{Content, window_bytes}
use Rattle.block_codec.specs.Blocks.{BlockAt, BlockView}
use Rattle.block_codec.specs.Pages.{HasHeadersOf}
use Rattle.load_map.specs.declared.load.Load.{Load}
use Rattle.load_map.specs.Covered.{covered}
use Rattle.sha2.specs.Sha256.{sha256}
use Rattle.image_check.specs.declared.examining.Defined.{Defined}
use Rattle.image_def.specs.declared.started.Started.{Started}
use Rattle.image_check.specs.SameImage.{HoldsImage}
use Rattle.image_check.specs.Valid.{Valid}

-- the first of the loads is stored from the window's start to the offset e
abbrev pub LoadsFront : ℕ → List Load → Type 0
LoadsFront e [] = ⊥
LoadsFront e (load ∷ loads) = (load.storage ≡ Some 0) × (load.size ≡ e)

-- each block that stands below offset 4096 is one of the loop's
abbrev pub HasNoOtherBlock : List ℕ → List BlockView → Type 0
HasNoOtherBlock bytes loop =
    (x : ℕ) (b : BlockView) → x < 4096 → BlockAt bytes x b → Contains loop b

-- The image s that a window with these bytes holds is firm. Its definition stands at an offset of
-- at least 4096, and has a digest. The first entry of its load map has all bytes before that, and
-- each block in the window's first sector is one of its loop.
pub record IsFirm (cpu : Cpu) (bytes : List ℕ) (s : Started) : Type 0 where
  pub held : HoldsImage cpu bytes s
  pub late : 4096 ≤ s.block
  pub hashed : IsSome held.image.def.digest
  pub front : LoadsFront s.block held.sound.loads
  pub alone : HasNoOtherBlock bytes held.sound.loop

-- Firm: the image s is valid in the window, with a trial image allowed, and it is firm
pub record Firm (c : Content) (w : Window) (cpu : Cpu) (s : Started) : Type 0 where
  pub valid : Valid c w cpu true s
  pub firm : IsFirm cpu (window_bytes c w) s

-- a block stands in the window in d at an offset below 4096. At that offset z has no block there
-- with the same item headers and the same link.
pub record IsStray (z d : Content) (w : Window) (b : BlockView) : Type 0 where
  pub low : b.at < 4096
  pub stands : BlockAt (window_bytes d w) b.at b
  pub new : (a : BlockView) → BlockAt (window_bytes z w) b.at a → HasHeadersOf b a → ⊥

-- Stray
abbrev pub Stray : Content → Content → Window → Type 0
Stray z d w = (b : BlockView) × IsStray z d w b

-- the bytes that an image covers in a window with these bytes
abbrev pub covered_by : List ℕ → Defined → List Load → List ℕ
covered_by bytes image loads =
    covered bytes loads image.block image.def.hash_words image.def.image_word

-- what the definition of the image s covers has different SHA-256 in z and in d, where it differs
abbrev pub HasOwnDigests : Content → Content → Window → Cpu → Started → Type 0
HasOwnDigests z d w cpu s =
    (held : HoldsImage cpu (window_bytes z w) s)
    → covered_by (window_bytes d w) held.image held.sound.loads
    ≢ covered_by (window_bytes z w) held.image held.sound.loads
    → sha256 (covered_by (window_bytes d w) held.image held.sound.loads)
    ≢ sha256 (covered_by (window_bytes z w) held.image held.sound.loads)
