-- What the worked examples name.
use Rattle.std.specs.Prelude.{ℕ, [], ◌∷◌, ◌++◌, replicate}
use Rattle.byteorder.specs.Endian.{little_bytes}
use Rattle.boot_script.specs.Events.{EventView, Command}

-- the command `exit-xip` with this token: the magic word, the token, the id, and bytes 0
abbrev pub exit_xip : ℕ → EventView
exit_xip token =
    Command (little_bytes 4 0x431fd10b ++ (little_bytes 4 token ++ (6 ∷ replicate 23 0))) []
