-- The kinds of arguments: what the usage calls each, and its lines on it.
use Rattle.std.specs.Prelude.{ℕ, List, codes}
use Rattle.cli_words.specs.declared.arguments.Word.{Word}
use Rattle.cli_words.specs.declared.arguments.Word.TheVariants.{Binary, Command, Cpu, Elf, Family, Flash, Image, Json, Kind, Number, Otp, OtpJson, Out, OutFlash, OutOtp, Pattern, Require, Script, SourceImage, Spec, Text, Uf2}

-- what the usage calls an argument
abbrev pub word_name : Word → List ℕ
word_name Cpu = codes "CPU"
word_name Kind = codes "KIND"
word_name Flash = codes "FLASH"
word_name Otp = codes "OTP"
word_name Script = codes "SCRIPT"
word_name Pattern = codes "PATTERN"
word_name Require = codes "REQUIRE"
word_name OutFlash = codes "OUTFLASH"
word_name OutOtp = codes "OUTOTP"
word_name Binary = codes "BIN"
word_name Elf = codes "ELF"
word_name Spec = codes "SPEC"
word_name Json = codes "JSON"
word_name OtpJson = codes "JSON"
word_name Image = codes "IMAGE"
word_name SourceImage = codes "IMAGE"
word_name Uf2 = codes "UF2"
word_name Text = codes "TEXT"
word_name Family = codes "FAMILY"
word_name Number = codes "N"
word_name Out = codes "OUT"
word_name Command = codes "COMMAND"

-- the lines of the usage on a JSON text
abbrev pub json_note : List ℕ
json_note =
    codes "JSON    a JSON text of at most 65536 bytes: for table version, singleton, unpartitioned and\n        partitions; for otp rollback_required, flash_off, slot_size, rows and secure_boot\n"

-- the lines of the usage on what is asked of an update
abbrev pub require_note : List ℕ
require_note =
    codes "REQUIRE  a JSON text of at most 65536 bytes, of what is asked of an update: effect, records, written,\n        keep, data, cuts, version, fallback, again, covered, hash, no_rows, session, boot, buy, caveats\n"

-- the line of the usage on an image
abbrev pub image_note : List ℕ
image_note =
    codes "IMAGE   a file of 1 to 16777216 bytes; for plan, load and stage no more than there is room for\n"

-- the lines of the usage on an argument
abbrev pub word_note : Word → List ℕ
word_note Cpu = codes "CPU     arm or riscv\n"
word_note Kind =
    codes "KIND    normal, bootsel, or update=0x and eight hexadecimal digits: the flash address of the update\n"
word_note Flash =
    codes "FLASH   a file of 1 to 16777216 bytes, filled with 0xff to whole sectors of 4096 bytes, at least two\n"
word_note Otp =
    codes "OTP     a file of at most 16384 bytes, 4 for each row, the lowest byte first; missing rows are 0\n"
word_note Script =
    codes "SCRIPT  a file of at most 67108864 bytes, with an end among its first 524288 records\n"
word_note Pattern =
    codes "PATTERN  a file of 1 to 4096 bytes, which a loss of power within a step leaves, repeated\n"
word_note Require = require_note
word_note OutFlash = codes "OUTFLASH  a file to write: the whole flash\n"
word_note OutOtp = codes "OUTOTP  a file to write: all 4096 rows, 4 bytes each\n"
word_note Binary =
    codes "BIN     a file of at most 16777216 bytes: an image, with or without a version and a digest\n"
word_note Elf =
    codes "ELF     a file of at most 67108864 bytes: a 32-bit executable of segments in flash, or in SRAM\n"
word_note Spec =
    codes "SPEC    a JSON text of at most 65536 bytes: processor, version, rollback, rows and trial\n        of the image; those of the binary, and its window delta, are lost, also if left out\n"
word_note Json = json_note
word_note OtpJson = json_note
word_note Image = image_note
word_note SourceImage = image_note
word_note Uf2 =
    codes "UF2     a file of 512 to 33554944 bytes, in blocks of 512; the board judges them, not this command\n"
word_note Text =
    codes "TEXT    a file of at most 209715200 bytes: one record a line, in words, as list writes them\n"
word_note Family =
    codes "FAMILY  rp2040, absolute, data, rp2350-arm-s, rp2350-riscv or rp2350-arm-ns\n"
word_note Number = codes "N       a number below 4294967296, of 1 to 10 decimal digits\n"
word_note Out =
    codes "OUT     a file to write: the sealed image; the first sector of a flash with the table; the OTP file;\n        the UF2 file, in blocks of 512 bytes; the script; or the picture\n"
word_note Command = codes "COMMAND  the first word of a line above\n"
