-- The status of an info command as a whole.
use Rattle.std.specs.Prelude.{ℕ, Option, Some, None, List, [], ◌++◌}
use Rattle.part_table.specs.declared.table.Table.{Table}
use Rattle.part_table.specs.declared.target.Target.{Target}
use Rattle.picoboot_cmd.specs.declared.Cmd.{Cmd}
use Rattle.picoboot_cmd.specs.Checks.{Check}
use Rattle.info_reply.specs.declared.ask.Ask.{Ask}
use Rattle.info_reply.specs.declared.ask.Device.{Device}
use Rattle.info_reply.specs.Asks.{ask_in, ask_checks, reply_checks}
use Rattle.info_reply.specs.Infos.{info_of}

-- the checks of the reply, where it is known what is asked for
abbrev pub checks_of_reply : Device → ℕ → Option Table → Option Target → Option Ask → Cmd
    → List Check
checks_of_reply device slot t target None cmd = []
checks_of_reply device slot t target (Some ask) cmd =
    reply_checks t ask (info_of device slot t target ask) cmd

-- all the checks of an info command, in their order
abbrev pub info_checks : Device → ℕ → Option Table → Option Target → Cmd → List ℕ → List Check
info_checks device slot t target cmd payload =
    ask_checks cmd payload ++ checks_of_reply device slot t target (ask_in cmd) cmd
