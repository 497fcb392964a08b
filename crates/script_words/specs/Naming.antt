-- What the line of an event says: in words where some line in words gives the event, and otherwise
-- by its bytes.
use Rattle.std.specs.Prelude.{ℕ, ◌+◌, ◌/◌, ◌%◌, ◌==◌, ◌&&◌, Bool, true, false, nat_le, nat_lt, if◌then◌else◌, List, [], ◌∷◌, Option, Some, None, option_and_then, option_to_list, Result, Ok, Err, length, map, slice_range, bytes_eq}
use Rattle.block_codec.specs.Words.{words_of}
use Rattle.pico_board.specs.declared.boot.BootKind.{BootKind}
use Rattle.pico_board.specs.declared.boot.BootKind.TheVariants.{Normal, Bootsel, Update}
use Rattle.picoboot_cmd.specs.declared.cmd.Cmd.{Cmd}
use Rattle.picoboot_cmd.specs.declared.cmd.CmdFault.{CmdFault}
use Rattle.picoboot_cmd.specs.declared.kinds.TheConstants.{EXCLUSIVE, ERASE, READ, WRITE, EXIT_XIP, ENTER_XIP, REBOOT, OTP_READ, OTP_WRITE}
use Rattle.picoboot_cmd.specs.Arguments.{address, size, reboot_flags, reboot_p0, reboot_p1}
use Rattle.picoboot_cmd.specs.Commands.{command_in, written_command}
use Rattle.info_reply.specs.declared.kinds.TheConstants.{INFO, TABLE, TARGET, DEVICE, PARTITION}
use Rattle.uf2_place.specs.declared.block.Uf2.{Uf2 as Block}
use Rattle.uf2_place.specs.declared.block.TheConstants.{HAS_FAMILY}
use Rattle.uf2_place.specs.Blocks.{word_at, written_block}
use Rattle.boot_script.specs.Events.{EventView, End, Command, Uf2, Cut, PowerOn, Reset, Buy}
use Rattle.script_words.specs.declared.forms.Form.{Form}
use Rattle.script_words.specs.declared.forms.Form.TheVariants as forms
use Rattle.script_words.specs.declared.rows.Row.{Row}
use Rattle.script_words.specs.declared.rows.Row.TheVariants as rows
use Rattle.script_words.specs.Rows.{form_at, has_words}
use Rattle.script_words.specs.Values.{LineView, ValueView, Plain, Number, Span, Bytes, said}
use Rattle.script_words.specs.Made.{command_of, own_payload, size_of}

-- ---- commands

-- the row of a reboot with these flags
abbrev pub reboot_row : ℕ → Option Row
reboot_row flags =
    if flags == 0 then Some rows.RebootNormal
    else if flags == 2 then Some rows.RebootBootsel
    else if flags == 3 then Some rows.RebootRam
    else if flags == 4 then Some rows.RebootUpdate
    else None

-- the row of an info command of this kind
abbrev pub info_row : ℕ → Option Row
info_row kind =
    if kind == TABLE then Some rows.InfoTable
    else if kind == TARGET then Some rows.InfoTarget
    else if kind == DEVICE then Some rows.InfoDevice
    else if kind == PARTITION then Some rows.InfoPartition
    else None

-- the row that a command may be of, by its id and its first argument word
abbrev pub row_of_command : Cmd → Option Row
row_of_command cmd =
    if cmd.id == EXCLUSIVE then Some rows.Exclusive
    else if cmd.id == ERASE then Some rows.Erase
    else if cmd.id == READ then Some rows.Read
    else if cmd.id == WRITE then Some rows.Write
    else if cmd.id == EXIT_XIP then Some rows.ExitXip
    else if cmd.id == ENTER_XIP then Some rows.EnterXip
    else if cmd.id == REBOOT then reboot_row (reboot_flags cmd)
    else if cmd.id == OTP_READ then Some rows.OtpRead
    else if cmd.id == OTP_WRITE then Some rows.OtpWrite
    else if cmd.id == INFO then info_row (address cmd)
    else None

-- the words of a payload
abbrev pub row_values : List ℕ → List ValueView
row_values payload = map Number (words_of payload)

-- what the words behind the first say in a line of this row for a command and its payload
abbrev pub command_values : Row → Cmd → List ℕ → List ValueView
command_values rows.Exclusive cmd payload = Number (address cmd) ∷ []
command_values rows.Erase cmd payload = Span (address cmd) (size cmd) ∷ []
command_values rows.Read cmd payload = Span (address cmd) (size cmd) ∷ []
command_values rows.Write cmd payload = Number (address cmd) ∷ Bytes payload ∷ []
command_values rows.RebootNormal cmd payload = Plain ∷ []
command_values rows.RebootBootsel cmd payload = Plain ∷ []
command_values rows.RebootUpdate cmd payload = Number (reboot_p0 cmd) ∷ []
command_values rows.RebootRam cmd payload = Span (reboot_p0 cmd) (reboot_p1 cmd) ∷ []
command_values rows.OtpRead cmd payload =
    Number (address cmd % 65536) ∷ Number (address cmd / 65536) ∷ []
command_values rows.OtpWrite cmd payload = Number (address cmd % 65536) ∷ row_values payload
command_values rows.InfoTable cmd payload = Plain ∷ Number cmd.transfer ∷ []
command_values rows.InfoDevice cmd payload = Plain ∷ Number cmd.transfer ∷ []
command_values rows.InfoTarget cmd payload = Number (size cmd) ∷ Number cmd.transfer ∷ []
command_values rows.InfoPartition cmd payload = Number (size cmd) ∷ Number cmd.transfer ∷ []
command_values row cmd payload = []

-- a word of the form may say this
abbrev pub fits : Form → ValueView → Bool
fits (forms.Number most) (Number number) = nat_le number most
fits forms.OtpRow (Number number) = nat_lt number 4096
fits (forms.Bytes least most) (Bytes bytes) =
    nat_le least (length bytes) && nat_le (length bytes) most
fits form value = true

abbrev pub fit_from : Row → ℕ → List ValueView → Bool
fit_from row place [] = true
fit_from row place (value ∷ values) =
    fits (form_at row place) value && fit_from row (place + 1) values

-- the words of a line of the row may say this
abbrev pub are_fit : Row → List ValueView → Bool
are_fit row values = has_words row (length values) && fit_from row 0 values

-- a command with this payload is what the line says
abbrev pub is_said : LineView → ℕ → List ℕ → List ℕ → Bool
is_said line token command payload =
    are_fit line.row line.values
    && (bytes_eq (own_payload line.row line.values) payload
    && bytes_eq (written_command (command_of line.row line.values token
    (size_of (own_payload line.row line.values)))) command)

-- a token, where it is not the one that comes next
abbrev pub told_token : ℕ → ℕ → Option ℕ
told_token next token = if token == next then None else Some token

-- the line, where the command with this payload is what it says
abbrev pub where_said : ℕ → List ℕ → List ℕ → LineView → Option LineView
where_said token command payload line =
    if is_said line token command payload then Some line else None

-- the line in words of a command
abbrev pub named_by : ℕ → List ℕ → List ℕ → Result Cmd CmdFault → Option LineView
named_by next command payload (Err fault) = None
named_by next command payload (Ok cmd) =
    option_and_then (λ row. where_said cmd.token command payload
    (said row (command_values row cmd payload) (told_token next cmd.token)))
    (row_of_command cmd)

abbrev pub named_command : ℕ → List ℕ → List ℕ → Option LineView
named_command next command payload = named_by next command payload (command_in command)

-- the line of a command by its bytes
abbrev pub raw_command : List ℕ → List ℕ → LineView
raw_command command [] = said rows.RawCommand (Bytes command ∷ []) None
raw_command command (b ∷ payload) =
    said rows.RawPayload (Bytes command ∷ Bytes (b ∷ payload) ∷ []) None

abbrev pub or_line : Option LineView → LineView → LineView
or_line None other = other
or_line (Some line) other = line

abbrev pub command_line : ℕ → List ℕ → List ℕ → LineView
command_line next command payload =
    or_line (named_command next command payload) (raw_command command payload)

-- ---- UF2 blocks

abbrev pub page_in : List ℕ → List ℕ
page_in bytes = slice_range bytes 32 288

-- the fields of a block, with the one flag that its line in words has
abbrev pub block_fields : List ℕ → Block
block_fields bytes = record {
  flags = HAS_FAMILY;
  address = word_at bytes 12;
  number = word_at bytes 20;
  count = word_at bytes 24;
  family = word_at bytes 28;
  page = page_in bytes;
}

-- what the words behind the first say in the line of a block
abbrev pub block_values : Block → List ValueView
block_values block =
    Number block.number ∷ Plain ∷ Number block.count ∷ Plain ∷ Number block.address
    ∷ Number block.family ∷ Bytes block.page ∷ []

abbrev pub block_line : List ℕ → LineView
block_line bytes =
    if bytes_eq (written_block (block_fields bytes)) bytes
    then said rows.Block (block_values (block_fields bytes)) None
    else said rows.RawBlock (Bytes bytes ∷ []) None

-- ---- events

-- a line with one word more at most
abbrev pub short_line : Row → Option ValueView → LineView
short_line row value = said row (option_to_list value) None

abbrev pub cut_line : ℕ → Bool → List ℕ → LineView
cut_line left false pattern = said rows.CutBefore (Number left ∷ Plain ∷ []) None
cut_line left true pattern = said rows.CutWithin (Number left ∷ Plain ∷ Bytes pattern ∷ []) None

abbrev pub reset_line : BootKind → LineView
reset_line Normal = short_line rows.ResetNormal (Some Plain)
reset_line Bootsel = short_line rows.ResetBootsel (Some Plain)
reset_line (Update base) = short_line rows.ResetUpdate (Some (Number base))

-- what the line of an event says, where a command in words without a token would have the token
-- `next`
abbrev pub line_of : ℕ → EventView → LineView
line_of next End = short_line rows.End None
line_of next (Command command payload) = command_line next command payload
line_of next (Uf2 block) = block_line block
line_of next (Cut left within pattern) = cut_line left within pattern
line_of next PowerOn = short_line rows.Power None
line_of next (Reset kind) = reset_line kind
line_of next Buy = short_line rows.Buy None
