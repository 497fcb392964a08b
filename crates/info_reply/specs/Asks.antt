-- What an info command asks for, and why it is refused.
use Rattle.std.specs.Prelude.{ℕ, ◌%◌, ◌==◌, ◌&&◌, Bool, false, true, is_some, nat_lt, nat_le, ◌*◌, Option, Some, None, Result, Ok, Err, List, [], ◌∷◌, if◌then◌else◌, length, drop, slice_index}
use Rattle.byteorder.specs.Endian.{little_number}
use Rattle.part_table.specs.declared.table.Table.{Table}
use Rattle.picoboot_cmd.specs.declared.Cmd.{Cmd}
use Rattle.picoboot_cmd.specs.declared.kinds.TheConstants.{COMMAND_LENGTH, INVALID_ARGUMENT, TRANSFER_LENGTH}
use Rattle.picoboot_cmd.specs.Checks.{Check, check, first_failing}
use Rattle.info_reply.specs.declared.ask.Ask.{Ask}
use Rattle.info_reply.specs.declared.ask.Ask.TheVariants as rust
use Rattle.info_reply.specs.declared.kinds.TheConstants.{BUFFER_TOO_SMALL, DEVICE, INFO_SIZE, NOT_FOUND, PARTITION, TABLE, TARGET}

-- what a kind and an argument ask for
abbrev pub ask_of : ℕ → ℕ → Option Ask
ask_of kind argument =
    if kind == TABLE then Some rust.Table
    else if kind == TARGET then Some (rust.Target argument)
    else if kind == DEVICE then Some rust.Device
    else if kind == PARTITION then Some (rust.Partition argument)
    else None

-- what the kind in the first argument byte and the argument in the second word ask for
abbrev pub ask_in : Cmd → Option Ask
ask_in cmd = ask_of (slice_index cmd.args 0) (little_number 4 (drop 4 cmd.args))

-- the checks of an info command itself, in their order
abbrev pub ask_checks : Cmd → List ℕ → List Check
ask_checks cmd payload =
    check COMMAND_LENGTH (cmd.arg_size == INFO_SIZE)
    ∷ check TRANSFER_LENGTH (cmd.transfer % 4 == 0 && length payload == 0)
    ∷ check INVALID_ARGUMENT (is_some (ask_in cmd)) ∷ []

-- a partition that is asked for is one of the table
abbrev pub has_part : Option Table → ℕ → Bool
has_part None i = false
has_part (Some t) i = nat_lt i (length t.parts.items)

abbrev pub is_there : Option Table → Ask → Bool
is_there t rust.Table = true
is_there t (rust.Target family) = true
is_there t rust.Device = true
is_there t (rust.Partition i) = has_part t i

-- the checks of the reply, in their order: what is asked for is there; the reply of these words is
-- no longer than the transfer length
abbrev pub reply_checks : Option Table → Ask → List ℕ → Cmd → List Check
reply_checks t ask words cmd =
    check NOT_FOUND (is_there t ask)
    ∷ check BUFFER_TOO_SMALL (nat_le (4 * length words) cmd.transfer) ∷ []

-- what is asked for, or the status of the first check of the command that fails
abbrev pub asked_or : Option Ask → ℕ → Result Ask ℕ
asked_or None status = Err status
asked_or (Some ask) status = if status == 0 then Ok ask else Err status

abbrev pub asked_info : Cmd → List ℕ → Result Ask ℕ
asked_info cmd payload = asked_or (ask_in cmd) (first_failing (ask_checks cmd payload))
