-- When a loss of power in a window left no accidental image there: HasNoAccidentalImage.
use Rattle.std.specs.Prelude.{◌≡◌, ◌⊎◌, false}
use Rattle.pico_board.specs.declared.boot.Cpu.{Cpu}
use Rattle.pico_board.specs.declared.window.Window.{Window}
use Rattle.pico_board.specs.Content.{Content}
use Rattle.image_def.specs.declared.started.Started.{Started}
use Rattle.image_check.specs.SameImage.{SameImage}
use Rattle.image_check.specs.Valid.{Valid}
use Rattle.boot_rules.specs.Tables.{table_in}

-- the window has no image that is valid in a normal boot
abbrev pub HasNoImage : Content → Window → Cpu → Type 0
HasNoImage d w cpu = (s : Started) → Valid d w cpu false s → ⊥

-- the image s of the window is there in the other content too, valid in a normal boot, and has the
-- same bytes in both
pub record IsSameImageIn (other d : Content) (w : Window) (cpu : Cpu) (s : Started) : Type 0 where
  pub valid : Valid other w cpu false s
  pub same : SameImage d other s cpu

-- the window has in d the image s, valid in a normal boot, and it is that of c or that of z
pub record IsKnownImage (c z d : Content) (w : Window) (cpu : Cpu) (s : Started) : Type 0 where
  pub valid : Valid d w cpu false s
  pub known : IsSameImageIn c d w cpu s ⊎ IsSameImageIn z d w cpu s

-- HasNoAccidentalImage: c is the content before some steps, z the one after them, and d one where
-- power was lost in them. The table is in d as in c. The window has no image in d that is valid in
-- a normal boot, or one that it had in c or has in z
pub record HasNoAccidentalImage (c z d : Content) (w : Window) (cpu : Cpu) : Type 0 where
  pub table : table_in d ≡ table_in c
  pub image : HasNoImage d w cpu ⊎ ((s : Started) × IsKnownImage c z d w cpu s)
