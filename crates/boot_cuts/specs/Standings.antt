-- What is known of the images that stand in windows of a content.
use Rattle.std.specs.Prelude.{◌≡◌, false, All, List}
use Rattle.pico_board.specs.declared.boot.Cpu.{Cpu}
use Rattle.pico_board.specs.Content.{Content}
use Rattle.boot_rules.specs.Choosing.{images_in}
use Rattle.boot_cuts.specs.declared.standing.Standing.{Standing}

-- the image is that of the window, with no trial image allowed
abbrev pub IsStanding : Content → Cpu → Standing → Type 0
IsStanding c cpu standing = standing.image ≡ images_in c cpu standing.window false

abbrev pub AreStanding : Content → Cpu → List Standing → Type 0
AreStanding c cpu known = All (IsStanding c cpu) known
