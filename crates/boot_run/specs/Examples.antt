-- Worked values of arguments, sinks and decisions.
use Rattle.std.specs.Prelude.{ℕ, true, List, Some, codes}
use Rattle.pico_board.specs.Puts.{SinkState}
use Rattle.cli_words.specs.Values.{ValuesView, no_values}
use Rattle.boot_rules.specs.declared.decision.Decision.{Decision}
use Rattle.boot_rules.specs.declared.decision.Decision.TheVariants.{Bootsel}
use Rattle.boot_rules.specs.declared.decision.Fall.TheVariants.{NoImage}

-- the flash file f, the OTP file o, the file i and the spec s, for Arm
abbrev pub named : ValuesView
named = record no_values { flash = codes "f"; otp = codes "o"; file = codes "i"; spec = codes "s" }

-- a steady sink that has these bytes
abbrev pub sink_of : List ℕ → SinkState
sink_of bytes = record { bytes = Some bytes; faults = 0; steady = true }

-- the fall where no image can start
abbrev pub no_start : Decision
no_start = Bootsel NoImage
