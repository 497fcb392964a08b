-- The record of what a line says.
use Rattle.std.specs.Prelude.{ℕ, ◌+◌, ◌-◌, ◌*◌, ◌/◌, ◌%◌, ◌^◌, ◌==◌, true, false, nat_le, nat_lt, if◌then◌else◌, List, [], ◌∷◌, ◌++◌, Option, Some, None, option_map, length, take, drop, replicate, slice_get, slice_range}
use Rattle.std.specs.List.{flat_map}
use Rattle.block_codec.specs.Words.{word_bytes}
use Rattle.pico_board.specs.Cuts.{IsPattern}
use Rattle.pico_board.specs.declared.boot.BootKind.TheVariants.{Normal, Bootsel, Update}
use Rattle.picoboot_cmd.specs.declared.cmd.Cmd.{Cmd}
use Rattle.picoboot_cmd.specs.declared.kinds.TheConstants.{EXCLUSIVE, ERASE, READ, WRITE, EXIT_XIP, ENTER_XIP, REBOOT, OTP_READ, OTP_WRITE}
use Rattle.picoboot_cmd.specs.Commands.{written_command}
use Rattle.info_reply.specs.declared.kinds.TheConstants.{INFO, TABLE, TARGET, DEVICE, PARTITION}
use Rattle.uf2_place.specs.declared.block.Uf2.{Uf2 as Block}
use Rattle.uf2_place.specs.declared.block.TheConstants.{HAS_FAMILY}
use Rattle.uf2_place.specs.Blocks.{written_block}
use Rattle.boot_script.specs.Events.{EventView, End, Command, Uf2, Cut, PowerOn, Reset, Buy}
use Rattle.script_words.specs.declared.record.Record.{Record}
use Rattle.script_words.specs.declared.record.Record.TheVariants as rust
use Rattle.script_words.specs.declared.rows.Row.{Row}
use Rattle.script_words.specs.declared.rows.Row.TheVariants as rows
use Rattle.script_words.specs.Rows.{is_command}
use Rattle.script_words.specs.Values.{ValueView, Number, Span, Bytes}

-- what the code answers, as plain data
abbrev pub record_from : Record → EventView
record_from rust.End = End
record_from (rust.Command command payload) = Command command payload.items
record_from (rust.Uf2 block) = Uf2 block
record_from (rust.Cut left within pattern) = Cut left within pattern.items
record_from rust.PowerOn = PowerOn
record_from (rust.Reset kind) = Reset kind
record_from rust.Buy = Buy

-- ---- what the word at a place says

-- the number that a value is, and 0 where it is none
abbrev pub number_of : ValueView → ℕ
number_of (Number number) = number
number_of value = 0

abbrev pub number_or : Option ValueView → ℕ
number_or None = 0
number_or (Some value) = number_of value

abbrev pub number_at : List ValueView → ℕ → ℕ
number_at values place = number_or (slice_get values place)

abbrev pub span_or : Option ValueView → ℕ × ℕ
span_or (Some (Span start size)) = (start, size)
span_or value = (0, 0)

abbrev pub span_at : List ValueView → ℕ → ℕ × ℕ
span_at values place = span_or (slice_get values place)

abbrev pub bytes_or : Option ValueView → List ℕ
bytes_or (Some (Bytes bytes)) = bytes
bytes_or value = []

abbrev pub bytes_at : List ValueView → ℕ → List ℕ
bytes_at values place = bytes_or (slice_get values place)

-- the n bytes that the first word says
abbrev pub array_at : ℕ → List ValueView → List ℕ
array_at n values =
    if length (bytes_at values 0) == n then bytes_at values 0 else replicate n 0

-- ---- commands

-- the size of a payload; 0 where it does not fit into 32 bits
abbrev pub size_of : List ℕ → ℕ
size_of payload = if nat_lt (length payload) (2 ^ 32) then length payload else 0

abbrev pub command_id : Row → ℕ
command_id rows.Exclusive = EXCLUSIVE
command_id rows.Erase = ERASE
command_id rows.Read = READ
command_id rows.Write = WRITE
command_id rows.WriteRange = WRITE
command_id rows.WriteRest = WRITE
command_id rows.ExitXip = EXIT_XIP
command_id rows.EnterXip = ENTER_XIP
command_id rows.RebootNormal = REBOOT
command_id rows.RebootBootsel = REBOOT
command_id rows.RebootUpdate = REBOOT
command_id rows.RebootRam = REBOOT
command_id rows.OtpRead = OTP_READ
command_id rows.OtpWrite = OTP_WRITE
command_id row = INFO

abbrev pub arg_size_of : Row → ℕ
arg_size_of rows.Exclusive = 1
arg_size_of rows.Erase = 8
arg_size_of rows.Read = 8
arg_size_of rows.Write = 8
arg_size_of rows.WriteRange = 8
arg_size_of rows.WriteRest = 8
arg_size_of rows.ExitXip = 0
arg_size_of rows.EnterXip = 0
arg_size_of rows.OtpRead = 5
arg_size_of rows.OtpWrite = 5
arg_size_of row = 16

-- a word of two halves, the low one first
abbrev pub halves : ℕ → ℕ → ℕ
halves low high = low % 65536 + 65536 * (high % 65536)

abbrev pub four : ℕ → ℕ → ℕ → ℕ → List ℕ
four a b c d = a ∷ b ∷ c ∷ d ∷ []

-- the argument bytes of a row's command with a payload of this size, as words: an address and a
-- size; a reboot's flags, its delay, p0 and p1; a first row and how many; an info's kind and its
-- argument
abbrev pub arg_words : Row → List ValueView → ℕ → List ℕ
arg_words rows.Exclusive values size = four (number_at values 0) 0 0 0
arg_words rows.Erase values size = four (span_at values 0).0 (span_at values 0).1 0 0
arg_words rows.Read values size = four (span_at values 0).0 (span_at values 0).1 0 0
arg_words rows.Write values size = four (number_at values 0) size 0 0
arg_words rows.WriteRange values size = four (number_at values 0) size 0 0
arg_words rows.WriteRest values size = four (number_at values 0) size 0 0
arg_words rows.RebootBootsel values size = four 2 0 0 0
arg_words rows.RebootUpdate values size = four 4 0 (number_at values 0) 0
arg_words rows.RebootRam values size = four 3 0 (span_at values 0).0 (span_at values 0).1
arg_words rows.OtpRead values size = four (halves (number_at values 0) (number_at values 1)) 0 0 0
arg_words rows.OtpWrite values size = four (halves (number_at values 0) (size / 4)) 0 0 0
arg_words rows.InfoTable values size = four TABLE 0 0 0
arg_words rows.InfoTarget values size = four TARGET (number_at values 0) 0 0
arg_words rows.InfoDevice values size = four DEVICE 0 0 0
arg_words rows.InfoPartition values size = four PARTITION (number_at values 0) 0 0
arg_words row values size = four 0 0 0 0

-- the bytes of words, each with its lowest byte first
abbrev pub words_bytes : List ℕ → List ℕ
words_bytes words = flat_map word_bytes words

-- the transfer length: the size of a read and a write, four times the rows, that of an info
abbrev pub transfer_of : Row → List ValueView → ℕ → ℕ
transfer_of rows.Read values size = (span_at values 0).1
transfer_of rows.Write values size = size
transfer_of rows.WriteRange values size = size
transfer_of rows.WriteRest values size = size
transfer_of rows.OtpWrite values size = size
transfer_of rows.OtpRead values size = 4 * (number_at values 1 % 65536)
transfer_of rows.InfoTable values size = number_at values 1
transfer_of rows.InfoTarget values size = number_at values 1
transfer_of rows.InfoDevice values size = number_at values 1
transfer_of rows.InfoPartition values size = number_at values 1
transfer_of row values size = 0

-- the command of a row with a payload of this size
abbrev pub command_of : Row → List ValueView → ℕ → ℕ → Cmd
command_of row values token size = record {
  token = token;
  id = command_id row;
  arg_size = arg_size_of row;
  transfer = transfer_of row values size;
  args = words_bytes (arg_words row values size);
}

-- the bytes of numbers
abbrev pub rows_bytes : List ValueView → List ℕ
rows_bytes values = flat_map (λ value. word_bytes (number_of value)) values

-- the payload of a row's command that has none from an image
abbrev pub own_payload : Row → List ValueView → List ℕ
own_payload rows.Write values = bytes_at values 1
own_payload rows.OtpWrite values = rows_bytes (drop 1 values)
own_payload row values = []

-- the command of a row, and its payload
abbrev pub made_command : Row → List ValueView → ℕ → List ℕ → EventView
made_command row values token payload =
    Command (written_command (command_of row values token (size_of payload))) payload

-- ---- UF2 blocks

-- the page that begins with these bytes: the first 256 of them, filled with 0xff
abbrev pub page_of : List ℕ → List ℕ
page_of bytes = take 256 bytes ++ replicate (256 - length bytes) 255

-- the block of a row with this page
abbrev pub block_of : List ValueView → List ℕ → Block
block_of values page = record {
  flags = HAS_FAMILY;
  address = number_at values 4;
  number = number_at values 0;
  count = number_at values 2;
  family = number_at values 5;
  page = page;
}

-- ---- images

-- the bytes of an image in a range, where it lies in the image
abbrev pub image_range : List ℕ → ℕ → ℕ → Option (List ℕ)
image_range image start size =
    if nat_le (start + size) (length image) then Some (slice_range image start (start + size))
    else None

-- the bytes of an image from an offset on, where it has some there
abbrev pub image_rest : List ℕ → ℕ → Option (List ℕ)
image_rest image start =
    if nat_lt start (length image) then Some (drop start image) else None

-- the bytes of an image that a row takes
abbrev pub image_bytes : Row → List ValueView → List ℕ → Option (List ℕ)
image_bytes rows.WriteRange values image =
    image_range image (span_at values 2).0 (span_at values 2).1
image_bytes rows.WriteRest values image = image_rest image (number_at values 2)
image_bytes row values image = image_rest image (number_at values 7)

-- ---- records

-- the record of a row that takes no bytes of an image and is no command in words
abbrev pub made_plain : Row → List ValueView → EventView
made_plain rows.Power values = PowerOn
made_plain rows.ResetNormal values = Reset Normal
made_plain rows.ResetBootsel values = Reset Bootsel
made_plain rows.ResetUpdate values = Reset (Update (number_at values 0))
made_plain rows.CutBefore values = Cut (number_at values 0) false []
made_plain rows.CutWithin values = Cut (number_at values 0) true (bytes_at values 2)
made_plain rows.Buy values = Buy
made_plain rows.Block values = Uf2 (written_block (block_of values (page_of (bytes_at values 6))))
made_plain rows.RawCommand values = Command (array_at 32 values) []
made_plain rows.RawPayload values = Command (array_at 32 values) (bytes_at values 1)
made_plain rows.RawBlock values = Uf2 (array_at 512 values)
made_plain row values = End

-- the record of a row that takes bytes of an image
abbrev pub made_of_image : Row → List ValueView → ℕ → List ℕ → EventView
made_of_image rows.ImageBlock values token bytes =
    Uf2 (written_block (block_of values (page_of bytes)))
made_of_image row values token bytes = made_command row values token bytes

-- the record of a row that takes no bytes of an image
abbrev pub made_own : Row → List ValueView → ℕ → EventView
made_own row values token =
    if is_command row then made_command row values token (own_payload row values)
    else made_plain row values

-- the record of what a line of a row says, with this token where it is a command in words; None
-- where the image has not the bytes that it takes
abbrev pub made : Row → List ValueView → ℕ → List ℕ → Option EventView
made rows.WriteRange values token image =
    option_map (made_of_image rows.WriteRange values token)
    (image_bytes rows.WriteRange values image)
made rows.WriteRest values token image =
    option_map (made_of_image rows.WriteRest values token) (image_bytes rows.WriteRest values image)
made rows.ImageBlock values token image =
    option_map (made_of_image rows.ImageBlock values token)
    (image_bytes rows.ImageBlock values image)
made row values token image = Some (made_own row values token)

-- the pattern of a cut goes with its part
abbrev pub HasPattern : EventView → Type 0
HasPattern (Cut left within pattern) = IsPattern within pattern
HasPattern _ = Unit {0}
