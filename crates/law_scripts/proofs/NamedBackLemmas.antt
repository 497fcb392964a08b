-- The line of an event gives the event.
use Rattle.std.proofs.Common.{◌≡◌, ℕ, ◌==◌, Bool, true, false, List, Option, Some, None, refl, sym, ap, subst, ◌∙◌}
use Rattle.std.specs.Prelude.{Result, Ok, Err, IfSome, if◌then◌else◌, bytes_eq, option_and_then, unwrap_or}
use Rattle.std.proofs.lemmas.Bool.{and_parts, eqb-true}
use Rattle.text_words.proofs.BytesLemmas.{same-text}
use Rattle.picoboot_cmd.specs.declared.cmd.Cmd.{Cmd}
use Rattle.picoboot_cmd.specs.declared.cmd.CmdFault.{CmdFault}
use Rattle.picoboot_cmd.specs.declared.kinds.TheConstants.{EXCLUSIVE, ERASE, READ, WRITE, EXIT_XIP, ENTER_XIP, REBOOT, OTP_READ, OTP_WRITE}
use Rattle.info_reply.specs.declared.kinds.TheConstants.{INFO, TABLE, TARGET, DEVICE, PARTITION}
use Rattle.picoboot_cmd.specs.Arguments.{address, reboot_flags}
use Rattle.picoboot_cmd.specs.Commands.{command_in, written_command}
use Rattle.boot_script.specs.Events.{Command}
use Rattle.script_words.specs.declared.rows.Row.{Row}
use Rattle.script_words.specs.declared.rows.Row.TheVariants as rows
use Rattle.script_words.specs.Rows.{is_command}
use Rattle.script_words.specs.Values.{LineView, ValueView, said}
use Rattle.script_words.specs.Made.{command_of, made, made_command, own_payload, size_of}
use Rattle.script_words.specs.Naming.{are_fit, command_values, info_row, is_said, named_by, named_command, reboot_row, row_of_command, told_token, where_said}
use Rattle.law_scripts.specs.Listed.{is_listed}

-- ---- the row of a command

abbrev pub IsNamed : Row → Type 0
IsNamed row = (is_command row ≡ true) × (is_listed row ≡ true)

if-row : (t : Bool) (row : Row) (b : Option Row) → IsNamed row → IfSome b IsNamed
    → IfSome (if t then Some row else b) IsNamed
if-row true row b first second = first
if-row false row b first second = second

if-other : (t : Bool) (a b : Option Row) → IfSome a IsNamed → IfSome b IsNamed → IfSome (if t then a else b) IsNamed
if-other true a b first second = first
if-other false a b first second = second

reboot-named : (flags : ℕ) → IfSome (reboot_row flags) IsNamed
reboot-named flags =
    if-row (flags == 0) rows.RebootNormal _ (refl, refl)
    (if-row (flags == 2) rows.RebootBootsel _ (refl, refl)
    (if-row (flags == 3) rows.RebootRam _ (refl, refl)
    (if-row (flags == 4) rows.RebootUpdate None (refl, refl) tt)))

info-named : (kind : ℕ) → IfSome (info_row kind) IsNamed
info-named kind =
    if-row (kind == TABLE) rows.InfoTable _ (refl, refl)
    (if-row (kind == TARGET) rows.InfoTarget _ (refl, refl)
    (if-row (kind == DEVICE) rows.InfoDevice _ (refl, refl)
    (if-row (kind == PARTITION) rows.InfoPartition None (refl, refl) tt)))

pub row-named : (cmd : Cmd) → IfSome (row_of_command cmd) IsNamed
row-named cmd =
    if-row (cmd.id == EXCLUSIVE) rows.Exclusive _ (refl, refl)
    (if-row (cmd.id == ERASE) rows.Erase _ (refl, refl)
    (if-row (cmd.id == READ) rows.Read _ (refl, refl)
    (if-row (cmd.id == WRITE) rows.Write _ (refl, refl)
    (if-row (cmd.id == EXIT_XIP) rows.ExitXip _ (refl, refl)
    (if-row (cmd.id == ENTER_XIP) rows.EnterXip _ (refl, refl)
    (if-other (cmd.id == REBOOT) (reboot_row (reboot_flags cmd)) _ (reboot-named (reboot_flags cmd))
    (if-row (cmd.id == OTP_READ) rows.OtpRead _ (refl, refl)
    (if-row (cmd.id == OTP_WRITE) rows.OtpWrite _ (refl, refl)
    (if-other (cmd.id == INFO) (info_row (address cmd)) None (info-named (address cmd)) tt)))))))))

-- what the line in words of a command comes from
pub record IsNamedOf (next : ℕ) (command payload : List ℕ) (line : LineView) : Type 0 where
  pub cmd : Cmd
  pub row : Row
  pub reads : command_in command ≡ Ok cmd
  pub of_row : row_of_command cmd ≡ Some row
  pub is : line ≡ said row (command_values row cmd payload) (told_token next cmd.token)
  pub fit : are_fit row (command_values row cmd payload) ≡ true
  pub own : own_payload row (command_values row cmd payload) ≡ payload
  pub made_so : written_command (command_of row (command_values row cmd payload) cmd.token
      (size_of (own_payload row (command_values row cmd payload)))) ≡ command

pub named-of : (next : ℕ) (command payload : List ℕ) (line : LineView)
    → named_command next command payload ≡ Some line → IsNamedOf next command payload line
named-of next command payload line is = by_command (command_in command) refl is
  where
    by_said : (cmd : Cmd) (row : Row) → command_in command ≡ Ok cmd → row_of_command cmd ≡ Some row
        → (t : Bool) → is_said (said row (command_values row cmd payload) (told_token next cmd.token)) cmd.token command
        payload ≡ t
        → (if t then Some (said row (command_values row cmd payload) (told_token next cmd.token)) else None) ≡ Some line
        → IsNamedOf next command payload line
    by_said cmd row reads of_row false test same = absurd (cc same)
    by_said cmd row reads of_row true test same =
        let fit = and_parts (are_fit row (command_values row cmd payload)) _ test in
        let rest = and_parts (bytes_eq (own_payload row (command_values row cmd payload)) payload) _ fit.1 in record {
          cmd = cmd;
          row = row;
          reads = reads;
          of_row = of_row;
          is = sym (cc same);
          fit = fit.0;
          own = same-text (own_payload row (command_values row cmd payload)) payload rest.0;
          made_so = same-text _ command rest.1;
        }

    by_row : (cmd : Cmd) → command_in command ≡ Ok cmd → (o : Option Row) → row_of_command cmd ≡ o
        → option_and_then (λ row. where_said cmd.token command payload
        (said row (command_values row cmd payload) (told_token next cmd.token))) o ≡ Some line
        → IsNamedOf next command payload line
    by_row cmd reads None of_row same = absurd (cc same)
    by_row cmd reads (Some row) of_row same =
        by_said cmd row reads of_row
        (is_said (said row (command_values row cmd payload) (told_token next cmd.token)) cmd.token command payload)
        refl same

    by_command : (r : Result Cmd CmdFault) → command_in command ≡ r
        → named_by next command payload r ≡ Some line → IsNamedOf next command payload line
    by_command (Err fault) reads same = absurd (cc same)
    by_command (Ok cmd) reads same = by_row cmd reads (row_of_command cmd) refl same

pub made-named : (row : Row) (values : List ValueView) (token : ℕ) (image : List ℕ) → IsNamed row
    → made row values token image ≡ Some (made_command row values token (own_payload row values))
made-named rows.Power values token image is = absurd (cc is.0)
made-named rows.ResetNormal values token image is = absurd (cc is.0)
made-named rows.ResetBootsel values token image is = absurd (cc is.0)
made-named rows.ResetUpdate values token image is = absurd (cc is.0)
made-named rows.CutBefore values token image is = absurd (cc is.0)
made-named rows.CutWithin values token image is = absurd (cc is.0)
made-named rows.Buy values token image is = absurd (cc is.0)
made-named rows.Exclusive values token image is = refl
made-named rows.Erase values token image is = refl
made-named rows.Read values token image is = refl
made-named rows.Write values token image is = refl
made-named rows.WriteRange values token image is = absurd (cc is.1)
made-named rows.WriteRest values token image is = absurd (cc is.1)
made-named rows.ExitXip values token image is = refl
made-named rows.EnterXip values token image is = refl
made-named rows.RebootNormal values token image is = refl
made-named rows.RebootBootsel values token image is = refl
made-named rows.RebootUpdate values token image is = refl
made-named rows.RebootRam values token image is = refl
made-named rows.OtpRead values token image is = refl
made-named rows.OtpWrite values token image is = refl
made-named rows.InfoTable values token image is = refl
made-named rows.InfoTarget values token image is = refl
made-named rows.InfoDevice values token image is = refl
made-named rows.InfoPartition values token image is = refl
made-named rows.Block values token image is = absurd (cc is.0)
made-named rows.ImageBlock values token image is = absurd (cc is.0)
made-named rows.RawCommand values token image is = absurd (cc is.0)
made-named rows.RawPayload values token image is = absurd (cc is.0)
made-named rows.RawBlock values token image is = absurd (cc is.0)
made-named rows.End values token image is = absurd (cc is.0)

told-back : (next token : ℕ) → unwrap_or (told_token next token) next ≡ token
told-back next token = by_same (token == next) refl
  where
    by_same : (t : Bool) → (token == next) ≡ t → unwrap_or (if t then None else Some token) next ≡ token
    by_same true is = sym (eqb-true token next is)
    by_same false is = refl

-- the line in words of a command gives the command
pub named-gives : (next : ℕ) (command payload image : List ℕ) (line : LineView)
    → named_command next command payload ≡ Some line
    → made line.row line.values (unwrap_or line.token next) image ≡ Some (Command command payload)
named-gives next command payload image line is =
    let n = named-of next command payload line is in
    let values = command_values n.row n.cmd payload in
    let named : IsNamed n.row = subst (λ (o : Option Row). IfSome o IsNamed) n.of_row (row-named n.cmd) in
    ap (λ (l : LineView). made l.row l.values (unwrap_or l.token next) image) n.is
    ∙ ap (λ t. made n.row values t image) (told-back next n.cmd.token)
    ∙ made-named n.row values n.cmd.token image named
    ∙ ap Some (ap (λ c. Command c (own_payload n.row values)) n.made_so ∙ ap (Command command) n.own)
