-- What a normal boot makes of a session in which power is lost.
use Rattle.pico_board.specs.declared.boot.Cpu.{Cpu}
use Rattle.pico_board.specs.declared.boot.BootKind.TheVariants.{Normal}
use Rattle.pico_board.specs.Content.{Content}
use Rattle.boot_rules.specs.declared.decision.Decision.{Decision}
use Rattle.boot_rules.specs.Chosen.{Chosen}
use Rattle.boot_session.specs.CutSessions.{StartsFinished}
use Rattle.boot_sweep.specs.declared.results.CutResult.{CutResult}
use Rattle.boot_sweep.specs.declared.results.CutResult.TheVariants.{Former, Finished, Chance}

-- a normal boot on d decides as one on c
abbrev pub DecidesAsBefore : Content → Content → Cpu → Type 0
DecidesAsBefore c d cpu = (e : Decision) × Chosen c cpu Normal e × Chosen d cpu Normal e

-- CutResult: what a normal boot on d makes of a session that leads from c to z. It decides as
-- before. Otherwise it makes the start that it makes after the whole session, of an image with the
-- same bytes; or neither.
abbrev pub IsCutResult : Content → Content → Content → Cpu → CutResult → Type 0
IsCutResult c z d cpu Former = DecidesAsBefore c d cpu
IsCutResult c z d cpu Finished = (DecidesAsBefore c d cpu → ⊥) × StartsFinished z d cpu
IsCutResult c z d cpu Chance = (DecidesAsBefore c d cpu → ⊥) × (StartsFinished z d cpu → ⊥)
