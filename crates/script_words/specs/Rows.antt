-- The table of records: for each row its first word, and the forms of its further words.
use Rattle.std.specs.Prelude.{ℕ, ◌+◌, ◌==◌, ◌&&◌, Bool, true, false, nat_le, List, [], ◌∷◌, length, get_or, codes}
use Rattle.script_words.specs.declared.forms.Keyword.TheVariants.{Normal, Bootsel, Update, Ram, Before, Within, Table, Target, Device, Partition, Of, At, Image}
use Rattle.script_words.specs.declared.forms.Form.{Form}
use Rattle.script_words.specs.declared.forms.Form.TheVariants.{Is, Number, NumberBehind, Hex, HexBehind, OtpRow, Span, SpanBehind, SomeSpan, Rest, Bytes, Family}
use Rattle.script_words.specs.declared.rows.Row.{Row}
use Rattle.script_words.specs.declared.rows.Row.TheVariants as rows
use Rattle.script_words.specs.declared.rows.TheConstants.{MOST_ROWS}

-- the first word of a row
abbrev pub first_word : Row → List ℕ
first_word rows.Power = codes "power"
first_word rows.ResetNormal = codes "reset"
first_word rows.ResetBootsel = codes "reset"
first_word rows.ResetUpdate = codes "reset"
first_word rows.CutBefore = codes "cut"
first_word rows.CutWithin = codes "cut"
first_word rows.Buy = codes "buy"
first_word rows.Exclusive = codes "exclusive"
first_word rows.Erase = codes "erase"
first_word rows.Read = codes "read"
first_word rows.Write = codes "write"
first_word rows.WriteRange = codes "write"
first_word rows.WriteRest = codes "write"
first_word rows.ExitXip = codes "exit-xip"
first_word rows.EnterXip = codes "enter-xip"
first_word rows.RebootNormal = codes "reboot"
first_word rows.RebootBootsel = codes "reboot"
first_word rows.RebootUpdate = codes "reboot"
first_word rows.RebootRam = codes "reboot"
first_word rows.OtpRead = codes "otp-read"
first_word rows.OtpWrite = codes "otp-write"
first_word rows.InfoTable = codes "info"
first_word rows.InfoTarget = codes "info"
first_word rows.InfoDevice = codes "info"
first_word rows.InfoPartition = codes "info"
first_word rows.Block = codes "uf2"
first_word rows.ImageBlock = codes "uf2"
first_word rows.RawCommand = codes "command"
first_word rows.RawPayload = codes "command"
first_word rows.RawBlock = codes "uf2"
first_word rows.End = codes "end"

-- any number below 2^32
abbrev pub any_number : Form
any_number = Number 0xffffffff

-- the number of a block, of how many, its address and its family
abbrev pub block_forms : List Form → List Form
block_forms page =
    any_number ∷ Is Of ∷ any_number ∷ Is At ∷ Hex ∷ Family ∷ page

-- the forms of the words behind the first; a write of OTP rows has words of its last form more
abbrev pub forms_of : Row → List Form
forms_of rows.ResetNormal = Is Normal ∷ []
forms_of rows.ResetBootsel = Is Bootsel ∷ []
forms_of rows.ResetUpdate = HexBehind Update ∷ []
forms_of rows.CutBefore = any_number ∷ Is Before ∷ []
forms_of rows.CutWithin = any_number ∷ Is Within ∷ Bytes 1 4096 ∷ []
forms_of rows.Exclusive = Number 255 ∷ []
forms_of rows.Erase = Span ∷ []
forms_of rows.Read = Span ∷ []
forms_of rows.Write = Hex ∷ Bytes 1 0xffffffff ∷ []
forms_of rows.WriteRange = Hex ∷ Is Image ∷ SomeSpan ∷ []
forms_of rows.WriteRest = Hex ∷ Is Image ∷ Rest ∷ []
forms_of rows.RebootNormal = Is Normal ∷ []
forms_of rows.RebootBootsel = Is Bootsel ∷ []
forms_of rows.RebootUpdate = HexBehind Update ∷ []
forms_of rows.RebootRam = SpanBehind Ram ∷ []
forms_of rows.OtpRead = OtpRow ∷ Number 65535 ∷ []
forms_of rows.OtpWrite = OtpRow ∷ Hex ∷ []
forms_of rows.InfoTable = Is Table ∷ any_number ∷ []
forms_of rows.InfoTarget = HexBehind Target ∷ any_number ∷ []
forms_of rows.InfoDevice = Is Device ∷ any_number ∷ []
forms_of rows.InfoPartition = NumberBehind Partition ∷ any_number ∷ []
forms_of rows.Block = block_forms (Bytes 256 256 ∷ [])
forms_of rows.ImageBlock = block_forms (Is Image ∷ Hex ∷ [])
forms_of rows.RawCommand = Bytes 32 32 ∷ []
forms_of rows.RawPayload = Bytes 32 32 ∷ Bytes 1 0xffffffff ∷ []
forms_of rows.RawBlock = Bytes 512 512 ∷ []
forms_of row = []

-- the form of the word at a place behind the first
abbrev pub form_at : Row → ℕ → Form
form_at row place = get_or (forms_of row) place Hex

-- a record of the row may have so many words behind the first
abbrev pub has_words : Row → ℕ → Bool
has_words rows.OtpWrite count = nat_le 2 count && nat_le count (1 + MOST_ROWS)
has_words row count = count == length (forms_of row)

-- the record is a command in words, which may have a token
abbrev pub is_command : Row → Bool
is_command rows.Exclusive = true
is_command rows.Erase = true
is_command rows.Read = true
is_command rows.Write = true
is_command rows.WriteRange = true
is_command rows.WriteRest = true
is_command rows.ExitXip = true
is_command rows.EnterXip = true
is_command rows.RebootNormal = true
is_command rows.RebootBootsel = true
is_command rows.RebootUpdate = true
is_command rows.RebootRam = true
is_command rows.OtpRead = true
is_command rows.OtpWrite = true
is_command rows.InfoTable = true
is_command rows.InfoTarget = true
is_command rows.InfoDevice = true
is_command rows.InfoPartition = true
is_command row = false

-- a word of the row is bytes in hexadecimal digits
abbrev pub is_hex : Row → Bool
is_hex rows.CutWithin = true
is_hex rows.Write = true
is_hex rows.Block = true
is_hex rows.RawCommand = true
is_hex rows.RawPayload = true
is_hex rows.RawBlock = true
is_hex row = false
