-- The line of a command in words.
use Rattle.std.proofs.Common.{◌≡◌, ℕ, Bool, true, false, List, Option, Some, None, sym, ap, ◌∙◌}
use Rattle.std.specs.Prelude.{if◌then◌else◌, Ok, option_and_then}
use Rattle.picoboot_cmd.specs.declared.cmd.Cmd.{Cmd}
use Rattle.picoboot_cmd.specs.Commands.{command_in}
use Rattle.script_words.specs.declared.rows.Row.{Row}
use Rattle.script_words.specs.Naming.{command_values, is_said, named_by, named_command, row_of_command, told_token, where_said}
use Rattle.script_words.specs.Values.{ValueView, said}

-- what the line of a command is, by whether the command is what the line says
named-is : (next : ℕ) (command payload : List ℕ) (cmd : Cmd) (row : Row) (vs : List ValueView) (t : Option ℕ)
    (b : Bool) → Ok cmd ≡ command_in command → Some row ≡ row_of_command cmd → vs ≡ command_values row cmd payload
    → t ≡ told_token next cmd.token → is_said (said row vs t) cmd.token command payload ≡ b
    → named_command next command payload ≡ (if b then Some (said row vs t) else None)
named-is next command payload cmd row vs t b reads is_row values told fits =
    ap (named_by next command payload) (sym reads)
    ∙ ap (λ (found : Option Row). option_and_then (λ r. where_said cmd.token command payload
    (said r (command_values r cmd payload) (told_token next cmd.token))) found) (sym is_row)
    ∙ ap (λ (ws : List ValueView). where_said cmd.token command payload (said row ws (told_token next cmd.token)))
    (sym values)
    ∙ ap (λ (u : Option ℕ). where_said cmd.token command payload (said row vs u)) (sym told)
    ∙ ap (λ (c : Bool). if c then Some (said row vs t) else None) fits

pub named-said : (next : ℕ) (command payload : List ℕ) (cmd : Cmd) (row : Row) (vs : List ValueView) (t : Option ℕ)
    → Ok cmd ≡ command_in command → Some row ≡ row_of_command cmd → vs ≡ command_values row cmd payload
    → t ≡ told_token next cmd.token → is_said (said row vs t) cmd.token command payload ≡ true
    → Some (said row vs t) ≡ named_command next command payload
named-said next command payload cmd row vs t reads is_row values told fits =
    sym (named-is next command payload cmd row vs t true reads is_row values told fits)

pub named-other : (next : ℕ) (command payload : List ℕ) (cmd : Cmd) (row : Row) (vs : List ValueView) (t : Option ℕ)
    → Ok cmd ≡ command_in command → Some row ≡ row_of_command cmd → vs ≡ command_values row cmd payload
    → t ≡ told_token next cmd.token → is_said (said row vs t) cmd.token command payload ≡ false
    → None ≡ named_command next command payload
named-other next command payload cmd row vs t reads is_row values told fits =
    sym (named-is next command payload cmd row vs t false reads is_row values told fits)
