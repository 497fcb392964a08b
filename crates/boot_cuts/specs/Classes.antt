-- The class of a cut, in the words of its rule. A script leads from the content c to the content
-- z, with these moves, and a cut leaves d. The class says what a normal boot makes of d.
use Rattle.std.specs.Prelude.{◌≡◌, ◌⊎◌, ⊤, ℕ, ◌+◌, ◌<◌, false, List, [], ◌∷◌, length, max, None}
use Rattle.pico_board.specs.declared.boot.Cpu.{Cpu}
use Rattle.pico_board.specs.declared.boot.BootKind.TheVariants.{Normal}
use Rattle.pico_board.specs.Content.{Content, window_bytes}
use Rattle.block_codec.specs.Blocks.{BlockView, block_size}
use Rattle.image_def.specs.declared.started.Started.{Started}
use Rattle.image_check.specs.SameImage.{AgreeFrom, SameImage}
use Rattle.image_check.specs.Valid.{Valid}
use Rattle.slot_choice.specs.declared.choice.Choice.{Choice}
use Rattle.boot_rules.specs.declared.decision.Decision.{Decision}
use Rattle.boot_rules.specs.declared.decision.Decision.TheVariants as decisions
use Rattle.boot_rules.specs.declared.decision.Fall.{Fall}
use Rattle.boot_rules.specs.Chosen.{Chosen}
use Rattle.boot_sweep.specs.Moving.{MoveView}
use Rattle.cut_class.specs.declared.class.Class.{Class}
use Rattle.cut_class.specs.declared.class.Class.TheVariants.{Former, Finished, Whole, Tail, Mixed, Bootsel}
use Rattle.boot_cuts.specs.Tears.{IsLeftTorn}

-- where the decision is a start of an image, d has that image's bytes as b has them
abbrev pub HasImageOf : Content → Content → Decision → Cpu → Type 0
HasImageOf b d (decisions.Start choice) cpu = SameImage b d choice.image cpu
HasImageOf b d (decisions.Bootsel fall) cpu = ⊤

-- a normal boot on d decides as one on c. Where that is a start of an image, d has its bytes as c
-- has them.
pub record IsFormer (c d : Content) (cpu : Cpu) : Type 0 where
  pub decision : Decision
  pub first : Chosen c cpu Normal decision
  pub here : Chosen d cpu Normal decision
  pub image : HasImageOf c d decision cpu

-- a normal boot on d decides as one on z, which starts an image in a window that is not left torn,
-- and d has its bytes as z has them
pub record IsFinished (z : Content) (moves : List MoveView) (d : Content) (cpu : Cpu)
    : Type 0 where
  pub choice : Choice
  pub last : Chosen z cpu Normal (decisions.Start choice)
  pub here : Chosen d cpu Normal (decisions.Start choice)
  pub mended : IsLeftTorn moves choice.image.window → ⊥
  pub image : SameImage z d choice.image cpu

-- the image stands in x, where it is valid and no trial image is allowed, and d has its bytes
pub record StoodIn (x d : Content) (cpu : Cpu) (s : Started) : Type 0 where
  pub valid : Valid x s.window cpu false s
  pub image : SameImage x d s cpu

-- a normal boot on d starts an image that stands whole in c, or, in a window that is not left torn,
-- in z
pub record IsWhole (c z : Content) (moves : List MoveView) (d : Content) (cpu : Cpu)
    : Type 0 where
  pub choice : Choice
  pub here : Chosen d cpu Normal (decisions.Start choice)
  pub stood : StoodIn c d cpu choice.image
      ⊎ ((IsLeftTorn moves choice.image.window → ⊥) × StoodIn z d cpu choice.image)

-- the end of the furthest of the blocks, or this one where that lies further
abbrev pub furthest : ℕ → List BlockView → ℕ
furthest end [] = end
furthest end (b ∷ blocks) = furthest (max end (b.at + block_size b)) blocks

-- a normal boot on d starts an image without a load map, in a window that is not left torn. It is
-- valid in z, its loop has more than one block, and d and z agree up to the end of the furthest of
-- its blocks. Only what stands behind that is missing.
pub record IsTail (z : Content) (moves : List MoveView) (d : Content) (cpu : Cpu) : Type 0 where
  pub choice : Choice
  pub here : Chosen d cpu Normal (decisions.Start choice)
  pub mended : IsLeftTorn moves choice.image.window → ⊥
  pub valid : Valid z choice.image.window cpu false choice.image
  pub unmapped : valid.image.def.map_item ≡ None
  pub blocks : 1 < length valid.sound.loop
  pub agree : AgreeFrom (window_bytes z choice.image.window) (window_bytes d choice.image.window)
      0 (furthest 0 valid.sound.loop)

-- a normal boot on d starts an image
pub record Starts (d : Content) (cpu : Cpu) : Type 0 where
  pub choice : Choice
  pub here : Chosen d cpu Normal (decisions.Start choice)

-- a normal boot on d falls to BOOTSEL
pub record Falls (d : Content) (cpu : Cpu) : Type 0 where
  pub fall : Fall
  pub here : Chosen d cpu Normal (decisions.Bootsel fall)

-- the class is the first of these that holds
abbrev pub IsClass : Content → Content → List MoveView → Content → Cpu → Class → Type 0
IsClass c z moves d cpu Former = IsFormer c d cpu
IsClass c z moves d cpu Finished = (IsFormer c d cpu → ⊥) × IsFinished z moves d cpu
IsClass c z moves d cpu Whole =
    (IsFormer c d cpu → ⊥) × (IsFinished z moves d cpu → ⊥) × IsWhole c z moves d cpu
IsClass c z moves d cpu Tail =
    (IsFormer c d cpu → ⊥) × (IsFinished z moves d cpu → ⊥) × (IsWhole c z moves d cpu → ⊥)
    × IsTail z moves d cpu
IsClass c z moves d cpu Mixed =
    (IsFormer c d cpu → ⊥) × (IsFinished z moves d cpu → ⊥) × (IsWhole c z moves d cpu → ⊥)
    × (IsTail z moves d cpu → ⊥) × Starts d cpu
IsClass c z moves d cpu Bootsel = (IsFormer c d cpu → ⊥) × Falls d cpu
