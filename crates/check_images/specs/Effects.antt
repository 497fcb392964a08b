-- What becomes of the image that starts, where an update leads from the content c to z.
use Rattle.std.specs.Prelude.{◌≡◌, ◌⊎◌, true, if◌then◌else◌}
use Rattle.pico_board.specs.declared.boot.Cpu.{Cpu}
use Rattle.pico_board.specs.declared.boot.BootKind.TheVariants.{Normal}
use Rattle.pico_board.specs.Content.{Content}
use Rattle.block_codec.specs.declared.versions.Version.{Version}
use Rattle.slot_choice.specs.declared.choice.Choice.{Choice}
use Rattle.slot_choice.specs.Versions.{is_below}
use Rattle.boot_rules.specs.declared.decision.Decision.{Decision}
use Rattle.boot_rules.specs.declared.decision.Decision.TheVariants as decisions
use Rattle.boot_rules.specs.Chosen.{Chosen}
use Rattle.cut_class.specs.declared.class.Class.{Class}
use Rattle.cut_class.specs.declared.class.Class.TheVariants.{Former}
use Rattle.boot_cuts.specs.Classes.{Falls, IsFormer}
use Rattle.cut_class.specs.Classes.{is_same_class}
use Rattle.check_require.specs.declared.report.ImageEffect.{ImageEffect}
use Rattle.check_require.specs.declared.report.ImageEffect.TheVariants.{Unchanged, New, Up, Same, Down}

-- a normal boot on z falls, or z is as c
abbrev pub IsUnchanged : Content → Content → Cpu → Type 0
IsUnchanged c z cpu = Falls z cpu ⊎ IsFormer c z cpu

-- normal boots on c and on z start images, and z is not as c. The versions, that on c first, are so.
pub record Turns (c z : Content) (cpu : Cpu) (AreSo : Version → Version → Type 0) : Type 0 where
  pub former : Choice
  pub last : Choice
  pub first : Chosen c cpu Normal (decisions.Start former)
  pub here : Chosen z cpu Normal (decisions.Start last)
  pub changed : IsFormer c z cpu → ⊥
  pub versions : AreSo former.image.version last.image.version

-- the effect: none where the boot on z falls or z is as c; otherwise new where the boot on c falls;
-- otherwise by the versions
abbrev pub IsEffect : Content → Content → Cpu → ImageEffect → Type 0
IsEffect c z cpu Unchanged = IsUnchanged c z cpu
IsEffect c z cpu New = (IsUnchanged c z cpu → ⊥) × Falls c cpu
IsEffect c z cpu Up = Turns c z cpu (λ v w. is_below v w ≡ true)
IsEffect c z cpu Same = Turns c z cpu (λ v w. w ≡ v)
IsEffect c z cpu Down = Turns c z cpu (λ v w. is_below w v ≡ true)

abbrev pub version_effect : Version → Version → ImageEffect
version_effect v w = if is_below v w then Up else if is_below w v then Down else Same

abbrev pub changed_effect : Decision → Version → ImageEffect
changed_effect (decisions.Bootsel fall) w = New
changed_effect (decisions.Start former) w = version_effect former.image.version w

-- the effect as a function of the decisions on c and on z, and of the class of z
abbrev pub effect_of : Decision → Decision → Class → ImageEffect
effect_of former (decisions.Bootsel fall) class = Unchanged
effect_of former (decisions.Start last) class =
    if is_same_class Former class then Unchanged else changed_effect former last.image.version
