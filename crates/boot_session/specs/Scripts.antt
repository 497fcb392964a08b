-- The session of a script, on the content of a flash and rows.
use Rattle.std.specs.Prelude.{ℕ, List}
use Rattle.pico_board.specs.declared.Step.{Step}
use Rattle.pico_board.specs.declared.boot.Cpu.{Cpu}
use Rattle.pico_board.specs.Content.{Content}
use Rattle.boot_session.specs.Sessions.{session}
use Rattle.boot_script.specs.Scripts.{script_events}

-- the content of a flash and rows
abbrev pub content_of : List ℕ → List ℕ → Content
content_of flash otp = record { flash = flash; otp = otp }

-- the session of a script's bytes
unfoldable pub script_session : Content → Cpu → List ℕ → List Step
script_session c cpu script = session c cpu (script_events script)
