-- The choice in a unit in a normal boot, as rules and by windows. Source: RP2350 Datasheet,
-- chapter 5, Bootrom. The order of versions is this project's own.
use Rattle.std.specs.Prelude.{◌≡◌, ◌⊎◌, ◌<◌, false, Option, Some}
use Rattle.block_codec.specs.declared.versions.Version.{Version}
use Rattle.pico_board.specs.declared.boot.Cpu.{Cpu}
use Rattle.pico_board.specs.declared.window.Window.{Window}
use Rattle.pico_board.specs.Content.{Content}
use Rattle.image_def.specs.declared.started.Started.{Started}
use Rattle.image_check.specs.Valid.{Valid}

-- a version is lower than another one: by major, then minor
abbrev pub IsLower : Version → Version → Type 0
IsLower v w = (v.major < w.major) ⊎ ((v.major ≡ w.major) × (v.minor < w.minor))

-- the window holds no image that is valid in a normal boot
abbrev pub HasNoneIn : Content → Cpu → Window → Type 0
HasNoneIn c cpu w = (s : Started) → Valid c w cpu false s → ⊥

-- A would be taken: it has an image that is valid in a normal boot; where the unit has a B, B has
-- no such image of a greater version
pub record TakesFirst (c : Content) (cpu : Cpu) (one : Window) (two : Option Window) : Type 0 where
  pub image : Started
  pub valid : Valid c one cpu false image
  pub best : (w : Window) (other : Started) → two ≡ Some w → Valid c w cpu false other
      → ¬ (IsLower image.version other.version)

-- B would be taken: it has an image that is valid in a normal boot; A has no such image, or one of
-- a lower version
pub record TakesSecond (c : Content) (cpu : Cpu) (one two : Window) : Type 0 where
  pub image : Started
  pub valid : Valid c two cpu false image
  pub best : (other : Started) → Valid c one cpu false other
      → IsLower other.version image.version

-- neither would be taken: no member has an image that is valid in a normal boot
pub record TakesNeither (c : Content) (cpu : Cpu) (one two : Window) : Type 0 where
  pub first : HasNoneIn c cpu one
  pub second : HasNoneIn c cpu two
