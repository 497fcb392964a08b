-- What is to be looked up of a definition, by the kind of the doubt.
use Rattle.std.specs.Prelude.{Option}
use Rattle.pico_board.specs.declared.boot.Cpu.{Cpu}
use Rattle.pico_board.specs.declared.window.Window.{Window}
use Rattle.pico_board.specs.Content.{Content}
use Rattle.slot_caveats.specs.declared.caveat.Caveat.{Caveat}
use Rattle.boot_caveats.specs.declared.members.Doubt.{Doubt}
use Rattle.boot_caveats.specs.declared.members.Doubt.TheVariants.{LongDefinition, AbsoluteMap, BareHash}
use Rattle.boot_caveats.specs.MemberCaveats.{absolute_map, bare_hash, long_definition}

-- what is to be looked up of the definition of a window
abbrev pub member_doubt : Content → Cpu → Doubt → Window → Option Caveat
member_doubt c cpu LongDefinition = long_definition c cpu
member_doubt c cpu AbsoluteMap = absolute_map c cpu
member_doubt c cpu BareHash = bare_hash c cpu
