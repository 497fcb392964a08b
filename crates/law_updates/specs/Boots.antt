-- The content after normal boots.
use Rattle.std.specs.Prelude.{ℕ, zero, suc}
use Rattle.pico_board.specs.declared.boot.Cpu.{Cpu}
use Rattle.pico_board.specs.Content.{Content}
use Rattle.check_images.specs.Boots.{after_boot}

-- the content after n normal boots, one after another
abbrev pub after_boots : ℕ → Content → Cpu → Content
after_boots zero z cpu = z
after_boots (suc n) z cpu = after_boot (after_boots n z cpu) cpu
