-- Commands, and a flash of 262,144 bytes on which they are served.
use Rattle.std.specs.Prelude.{ℕ, ◌*◌, true, false, Some, None, List, [], ◌∷◌, ◌++◌, replicate}
use Rattle.byteorder.specs.Endian.{little_bytes}
use Rattle.part_table.specs.Examples.{guarded_table, unread_table}
use Rattle.picoboot_cmd.specs.declared.cmd.Cmd.{Cmd}
use Rattle.picoboot_cmd.specs.declared.kinds.TheConstants.{ERASE, READ, WRITE, REBOOT, OTP_READ, OTP_WRITE}
use Rattle.picoboot_cmd.specs.Checks.{status_of}

-- a command with token 1
abbrev pub command : ℕ → ℕ → ℕ → List ℕ → Cmd
command id arg_size transfer args =
    record { token = 1; id = id; arg_size = arg_size; transfer = transfer; args = args }

-- a command without arguments
abbrev pub plain_command : ℕ → ℕ → ℕ → Cmd
plain_command id arg_size transfer = command id arg_size transfer (replicate 16 0)

-- an address and a size, and bytes that are not read
abbrev pub padded_range_args : ℕ → ℕ → List ℕ
padded_range_args at n = little_bytes 4 at ++ (little_bytes 4 n ++ replicate 8 0xaa)

-- rows, and bytes that are not read
abbrev pub row_args : ℕ → ℕ → ℕ → List ℕ
row_args row count ecc = little_bytes 2 row ++ (little_bytes 2 count ++ (ecc ∷ replicate 11 0xaa))

-- the flags and p0 of a reboot, with a delay and p1 that are not read
abbrev pub reboot_args : ℕ → ℕ → List ℕ
reboot_args flags p0 =
    little_bytes 4 flags ++ (little_bytes 4 0x12345678
    ++ (little_bytes 4 p0 ++ little_bytes 4 0x9abcdef0))

abbrev pub erase_command : ℕ → ℕ → Cmd
erase_command at n = command ERASE 8 0 (padded_range_args at n)

abbrev pub read_command : ℕ → ℕ → Cmd
read_command at n = command READ 8 n (padded_range_args at n)

abbrev pub write_command : ℕ → ℕ → Cmd
write_command at n = command WRITE 8 n (padded_range_args at n)

abbrev pub reboot_command : ℕ → ℕ → Cmd
reboot_command flags p0 = command REBOOT 16 0 (reboot_args flags p0)

abbrev pub otp_read_command : ℕ → ℕ → ℕ → Cmd
otp_read_command row count ecc = command OTP_READ 5 (4 * count) (row_args row count ecc)

abbrev pub otp_write_command : ℕ → ℕ → ℕ → Cmd
otp_write_command row count ecc = command OTP_WRITE 5 (4 * count) (row_args row count ecc)

-- the bytes of one word
abbrev pub word : ℕ → List ℕ
word w = little_bytes 4 w

-- OTP rows: row 0x0c0 is 3, and those before it are 0
abbrev pub row_of_three : List ℕ
row_of_three = replicate 0x0c0 0 ++ (3 ∷ [])

-- the status on a flash of 262,144 bytes whose table allows all, with these rows
abbrev pub answer : Cmd → List ℕ → ℕ
answer cmd payload = status_of 262144 row_of_three None false cmd payload

-- the status on a flash of 262,144 bytes with those rows, whose table allows all, while a download
-- is busy
abbrev pub busy_answer : Cmd → List ℕ → ℕ
busy_answer cmd payload = status_of 262144 row_of_three None true cmd payload

-- the status on a flash of 262,144 bytes with those rows and a table; by the table sectors 0 to 31
-- and those from 62 on may not be written
abbrev pub guarded_answer : Cmd → List ℕ → ℕ
guarded_answer cmd payload = status_of 262144 row_of_three (Some guarded_table) false cmd payload

-- the status on a flash of 262,144 bytes with those rows and a table; by the table sectors 0 to 31
-- and those from 62 on may not be read
abbrev pub unread_answer : Cmd → List ℕ → ℕ
unread_answer cmd payload = status_of 262144 row_of_three (Some unread_table) false cmd payload
