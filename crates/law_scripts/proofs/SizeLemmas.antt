-- How long the text of a script is.
use Rattle.std.proofs.Common.{◌≡◌, ℕ, zero, suc, ◌+◌, ◌-◌, ◌*◌, ◌/◌, ◌%◌, ◌^◌, ◌<◌, ◌≤◌, ◌==◌, Bool, true, false, List, [], ◌∷◌, ◌++◌, length, map, replicate, refl, sym, ap, subst, ◌∙◌, arith, length-append, decimal}
use Rattle.std.specs.Prelude.{Ok, Err, Option, Some, None, IfSome, if◌then◌else◌, ◌&&◌, ◌||◌, codes, drop, slice_index, bytes_eq}
use Rattle.std.specs.List.{AllByRecursion, flat_map}
use Rattle.std.specs.Fmt.{digits, digits_onto, digit_glyph}
use Rattle.std.proofs.lemmas.Bool.{eq-eqb}
use Rattle.std.proofs.lemmas.Fmt.{length-decimal-le}
use Rattle.byteorder.specs.Endian.{little_number}
use Rattle.byteorder.specs.Numbers.{little_from-lt}
use Rattle.hex.specs.Hex.{IsBytes, lower_digits}
use Rattle.hex.proofs.HexLemmas.{length-encode_with}
use Rattle.part_table.specs.Families.{absolute_family, arm_ns_family, arm_s_family, data_family, riscv_family, rp2040_family}
use Rattle.text_words.specs.Writing.{hex_byte, hex_row, hex_word, line}
use Rattle.text_words.proofs.HexLemmas.{length_eight, length_two, padded_filled}
use Rattle.block_codec.specs.Words.{AreWords, words_of}
use Rattle.block_codec.proofs.WordLemmas.{length-words_of}
use Rattle.pico_board.specs.Cuts.{IsPattern}
use Rattle.pico_board.specs.declared.boot.BootKind.{BootKind}
use Rattle.pico_board.specs.declared.boot.BootKind.TheVariants.{Normal, Bootsel, Update}
use Rattle.picoboot_cmd.specs.declared.cmd.Cmd.{Cmd}
use Rattle.picoboot_cmd.specs.declared.cmd.CmdFault.TheVariants as cmd_fault
use Rattle.picoboot_cmd.specs.declared.kinds.TheConstants.{EXCLUSIVE, ERASE, READ, WRITE, EXIT_XIP, ENTER_XIP, MAGIC, REBOOT, OTP_READ, OTP_WRITE}
use Rattle.picoboot_cmd.specs.Arguments.{address, size, reboot_flags, reboot_p0, reboot_p1, first_row, row_count, ecc}
use Rattle.picoboot_cmd.specs.Commands.{command_fields}
use Rattle.info_reply.specs.declared.kinds.TheConstants.{INFO, INFO_SIZE, TABLE, TARGET, DEVICE, PARTITION}
use Rattle.uf2_place.specs.declared.block.Uf2.{Uf2 as Block}
use Rattle.uf2_place.specs.declared.block.Uf2Fault.TheVariants.{Magic, Payload, Alignment, Number as BadNumber}
use Rattle.uf2_place.specs.Blocks as blocks
use Rattle.boot_script.specs.Events.{EventView, End, Command, Uf2, Cut, PowerOn, Reset, Buy}
use Rattle.boot_script.specs.Written.{written_event}
use Rattle.boot_script.specs.Scripts.{IsBeforeEnd}
use Rattle.boot_script.proofs.NumberLemmas.{bytes-drop}
use Rattle.script_words.specs.declared.forms.Form.{Form}
use Rattle.script_words.specs.declared.forms.Form.TheVariants as forms
use Rattle.script_words.specs.declared.forms.Keyword.{Keyword}
use Rattle.script_words.specs.declared.forms.Keyword.TheVariants as keys
use Rattle.script_words.specs.declared.rows.Row.{Row}
use Rattle.script_words.specs.declared.rows.Row.TheVariants as rows
use Rattle.script_words.specs.Forms.{keyword_text}
use Rattle.script_words.specs.Naming.{block_fields, block_line, block_values, command_line, command_values, cut_line, line_of, named_command, or_line, raw_command, reset_line, told_token}
use Rattle.script_words.specs.Rows.{first_word, form_at, is_hex}
use Rattle.script_words.specs.Saying.{HasEventBytes, HasToken, IsEvent, IsLine, MaySay, MaySayAll}
use Rattle.script_words.specs.Spelling.{family_text, line_text, name_or_number, range_text, spelled, token_text, value_texts}
use Rattle.script_words.specs.Values.{LineView, ValueView, Plain, Number, Span, Bytes, said}
use Rattle.script_text.specs.declared.script.TheConstants.{MOST_RECORDS, TEXT_LIMIT}
use Rattle.script_text.specs.Comments.{action_text, command_text, info_text, note_of, read_command_text, read_uf2_text, reboot_text, rows_text, uf2_counts, uf2_target, uf2_text}
use Rattle.script_text.specs.Listing.{comment_text, listed, listed_event, listed_from, numbered}
use Rattle.script_text.specs.Meaning.{IsWithinLimits}
use Rattle.script_text.proofs.LimitLemmas.{command-long}
use Rattle.script_text.specs.Reading.{token_behind}
use Rattle.law_scripts.proofs.LineOfLemmas.{hex-form, line-says, page-long, words-small}
use Rattle.law_scripts.proofs.NamedBackLemmas.{IsNamed, named-of, row-named}

size-if : (n : ℕ) (b : Bool) (x y : List ℕ) → length x ≤ n → length y ≤ n → length (if b then x else y) ≤ n
size-if n true x y first second = first
size-if n false x y first second = second

size-word : (n : ℕ) → n < 2 ^ 32 → length (hex_word n) ≡ 10
size-word n small = omega (arith, length_eight n small)

size-byte : (n : ℕ) → n < 256 → length (hex_byte n) ≡ 4
size-byte n small = omega (arith, length_two n small)

word-small : (k : ℕ) (bytes : List ℕ) → IsBytes bytes → little_number 4 (drop k bytes) < 2 ^ 32
word-small k bytes are = little_from-lt 0 4 (drop k bytes) (bytes-drop k bytes are)

size-onto : (fuel k n : ℕ) (acc : List ℕ) → n < 16 ^ suc k
    → length (digits_onto fuel 16 false n acc) ≤ suc k + length acc
size-onto zero k n acc small = omega arith
size-onto (suc fuel) zero n acc small =
    let test = eq-eqb (n / 16) 0 (omega arith) in rw test (omega arith)
size-onto (suc fuel) (suc k) n acc small =
    size-if (suc (suc k) + length acc) (n / 16 == 0) (digit_glyph false (n % 16) ∷ acc)
    (digits_onto fuel 16 false (n / 16) (digit_glyph false (n % 16) ∷ acc)) (omega arith)
    (omega (arith, size-onto fuel k (n / 16) (digit_glyph false (n % 16) ∷ acc) (omega arith)))

digits_fuel : (n : ℕ) → digits 16 false n ≡ digits_onto 64 16 false n []
unfolding digits
digits_fuel n = refl

size-zeros : (k : ℕ) → length {A = ℕ} (replicate k 48) ≡ k
size-zeros zero = refl
size-zeros (suc k) = let rest = size-zeros k in omega (arith, rest)

size-row : (n : ℕ) → n < 65536 → length (hex_row n) ≤ 6
size-row n small =
    let ds = digits 16 false n in
    let few : length ds ≤ 4 = omega (arith, ap length (digits_fuel n), size-onto 64 3 n [] (omega arith)) in
    omega (
      arith,
      ap length (padded_filled 3 ds),
      length-append (replicate (3 - length ds) 48) ds,
      size-zeros (3 - length ds),
    )

size-decimal : (k n : ℕ) → 0 < k → n < 10 ^ k → n < 2 ^ 64 → length (decimal n) ≤ k
size-decimal k n some small most = length-decimal-le k n some small most

size-range : (start size : ℕ) → start < 2 ^ 32 → size < 2 ^ 32 → length (range_text start size) ≡ 21
size-range start size first second =
    let both = length-append (hex_word start) (codes "+" ++ hex_word size) in
    omega (arith, both, size-word start first, size-word size second)

size-rows : (cmd : Cmd) → IsBytes cmd.args → length (rows_text cmd) ≤ 30
size-rows cmd are =
    let row : first_row cmd < 256 ^ 2 = little_from-lt 0 2 cmd.args are in
    let count : row_count cmd < 256 ^ 2 = little_from-lt 0 2 (drop 2 cmd.args) (bytes-drop 2 cmd.args are) in
    let corrected : ecc cmd < 256 = are 4 in
    let last = codes " ecc=" ++ decimal (ecc cmd) in
    let rest = codes " count=" ++ (decimal (row_count cmd) ++ last) in
    omega (
      arith,
      length-append (hex_row (first_row cmd)) rest,
      size-row (first_row cmd) (omega arith),
      length-append (decimal (row_count cmd)) last,
      size-decimal 5 (row_count cmd) (omega arith) (omega arith) (omega arith),
      size-decimal 3 (ecc cmd) (omega arith) (omega arith) (omega arith),
    )

size-reboot : (cmd : Cmd) → IsBytes cmd.args → length (reboot_text cmd) ≤ 30
size-reboot cmd are =
    let flags = word-small 0 cmd.args are in
    let base = word-small 8 cmd.args are in
    let size = word-small 12 cmd.args are in
    size-if 30 (reboot_flags cmd == 0 || reboot_flags cmd == 0x100) _ _ (omega arith)
    (size-if 30 (reboot_flags cmd == 2 || reboot_flags cmd == 0x102) _ _ (omega arith)
    (size-if 30 (reboot_flags cmd == 4 || reboot_flags cmd == 0x104) _ _ (omega (arith, size-word (reboot_p0 cmd) base))
    (size-if 30 (reboot_flags cmd == 3 || reboot_flags cmd == 0x103) _ _
    (omega (arith, size-range (reboot_p0 cmd) (reboot_p1 cmd) base size))
    (omega (arith, size-word (reboot_flags cmd) flags)))))

size-info : (kind argument : ℕ) → kind < 256 → argument < 2 ^ 32 → length (info_text kind argument) ≤ 30
size-info kind argument small most =
    size-if 30 (kind == TABLE) _ _ (omega arith)
    (size-if 30 (kind == TARGET) _ _ (omega (arith, size-word argument most))
    (size-if 30 (kind == DEVICE) _ _ (omega arith)
    (size-if 30 (kind == PARTITION) _ _
    (omega (arith, size-decimal 10 argument (omega arith) (omega arith) (omega arith)))
    (omega (arith, size-decimal 3 kind (omega arith) (omega arith) (omega arith))))))

size-action : (cmd : Cmd) → cmd.id < 256 → IsBytes cmd.args → length (action_text cmd) ≤ 40
size-action cmd small are =
    let argument = word-small 4 cmd.args are in
    let range = size-range (address cmd) (size cmd) (word-small 0 cmd.args are) argument in
    let rows = size-rows cmd are in
    let first : slice_index cmd.args 0 < 256 = are 0 in
    size-if 40 (cmd.id == EXCLUSIVE && cmd.arg_size == 1) _ _
    (omega (arith, size-decimal 3 (slice_index cmd.args 0) (omega arith) (omega arith) (omega arith)))
    (size-if 40 (cmd.id == ERASE && cmd.arg_size == 8) _ _ (omega (arith, range))
    (size-if 40 (cmd.id == READ && cmd.arg_size == 8) _ _ (omega (arith, range))
    (size-if 40 (cmd.id == WRITE && cmd.arg_size == 8) _ _ (omega (arith, range))
    (size-if 40 (cmd.id == EXIT_XIP && cmd.arg_size == 0) _ _ (omega arith)
    (size-if 40 (cmd.id == ENTER_XIP && cmd.arg_size == 0) _ _ (omega arith)
    (size-if 40 (cmd.id == REBOOT && cmd.arg_size == 16) _ _ (omega (arith, size-reboot cmd are))
    (size-if 40 (cmd.id == OTP_READ && cmd.arg_size == 5) _ _ (omega (arith, rows))
    (size-if 40 (cmd.id == OTP_WRITE && cmd.arg_size == 5) _ _ (omega (arith, rows))
    (size-if 40 (cmd.id == INFO && cmd.arg_size == INFO_SIZE) _ _
    (omega (arith, size-info (slice_index cmd.args 0) (little_number 4 (drop 4 cmd.args)) first argument))
    (omega (arith, size-byte cmd.id small)))))))))))

size-command : (command : List ℕ) → IsBytes command → length (command_text command) ≤ 57
unfolding command_text
size-command command are = by_magic (little_number 4 command == MAGIC)
  where
    by_magic : (t : Bool)
        → length (read_command_text (if t then Ok (command_fields command) else Err cmd_fault.Magic)) ≤ 57
    by_magic true =
        omega (
          arith,
          length-append (action_text (command_fields command))
              (codes " token=" ++ hex_word (command_fields command).token),
          size-action (command_fields command) (are 8) (bytes-drop 16 command are),
          size-word (command_fields command).token (word-small 4 command are),
        )
    by_magic false = omega arith

size-block : (a b c d : Bool) (block : Block) → block.number < 2 ^ 32 → block.count < 2 ^ 32
    → block.address < 2 ^ 32 → block.family < 2 ^ 32
    → length (read_uf2_text (if a then Err Magic else if b then Err Payload else if c then Err Alignment
    else if d then Err BadNumber else Ok block)) ≤ 75
unfolding uf2_counts uf2_target
size-block true b c d block number count address family = omega arith
size-block false true c d block number count address family = omega arith
size-block false false true d block number count address family = omega arith
size-block false false false true block number count address family = omega arith
size-block false false false false block number count address family =
    let counts = codes " count=" ++ decimal block.count in
    let last = codes " family=" ++ hex_word block.family in
    let place = codes " address=" ++ (hex_word block.address ++ last) in
    omega (
      arith,
      length-append (decimal block.number ++ counts) place,
      length-append (decimal block.number) counts,
      size-decimal 10 block.number (omega arith) (omega arith) (omega arith),
      size-decimal 10 block.count (omega arith) (omega arith) (omega arith),
      length-append (hex_word block.address) last,
      size-word block.address address,
      size-word block.family family,
    )

size-uf2 : (block : List ℕ) → IsBytes block → length (uf2_text block) ≤ 75
unfolding uf2_text uf2_counts uf2_target
size-uf2 block are =
    size-block _ _ _ _ (blocks.uf2_fields block) (word-small 20 block are) (word-small 24 block are)
    (word-small 12 block are) (word-small 28 block are)

-- ---- words

size-key : (key : Keyword) → length (keyword_text key) ≤ 10
size-key keys.Normal = omega arith
size-key keys.Bootsel = omega arith
size-key keys.Update = omega arith
size-key keys.Ram = omega arith
size-key keys.Before = omega arith
size-key keys.Within = omega arith
size-key keys.Table = omega arith
size-key keys.Target = omega arith
size-key keys.Device = omega arith
size-key keys.Partition = omega arith
size-key keys.Of = omega arith
size-key keys.At = omega arith
size-key keys.Image = omega arith
size-key keys.Family = omega arith
size-key keys.Token = omega arith

size-name : (family : ℕ) (t : Bool) (x y : Option (List ℕ)) → length (name_or_number family x) ≤ 20
    → length (name_or_number family y) ≤ 20 → length (name_or_number family (if t then x else y)) ≤ 20
size-name family true x y first second = first
size-name family false x y first second = second

size-family : (family : ℕ) → family < 2 ^ 32 → length (family_text family) ≤ 20
size-family family small =
    size-name family (family == rp2040_family) _ _ (omega arith)
    (size-name family (family == absolute_family) _ _ (omega arith)
    (size-name family (family == data_family) _ _ (omega arith)
    (size-name family (family == arm_s_family) _ _ (omega arith)
    (size-name family (family == riscv_family) _ _ (omega arith)
    (size-name family (family == arm_ns_family) _ _ (omega arith)
    (omega (arith, size-word family small)))))))

-- the most bytes of a value's word
abbrev weight : ValueView → ℕ
weight Plain = 10
weight (Number n) = 20
weight (Span start size) = 31
weight (Bytes bytes) = 2 * length bytes

ten-digits : (n : ℕ) → n < 2 ^ 32 → length (decimal n) ≤ 10
ten-digits n small = size-decimal 10 n (omega arith) (omega (arith, small)) (omega (arith, small))

behind-key : (key : Keyword) (w : List ℕ) (k : ℕ) → length w ≤ k → length (keyword_text key ++ w) ≤ 10 + k
behind-key key w k few = omega (arith, length-append (keyword_text key) w, size-key key, few)

size-value : (form : Form) (value : ValueView) → MaySay form value → length (spelled form value) ≤ weight value
size-value (forms.Is key) Plain may = size-key key
size-value (forms.Number most) (Number n) may = omega (arith, ten-digits n may.1)
size-value (forms.NumberBehind key) (Number n) may = behind-key key (decimal n) 10 (ten-digits n may)
size-value forms.Hex (Number n) may = omega (arith, size-word n may)
size-value (forms.HexBehind key) (Number n) may = behind-key key (hex_word n) 10 (omega (arith, size-word n may))
size-value forms.OtpRow (Number n) may = omega (arith, size-row n (omega (arith, may)))
size-value forms.Span (Span start size) may = omega (arith, size-range start size may.0 may.1)
size-value (forms.SpanBehind key) (Span start size) may =
    behind-key key (range_text start size) 21 (omega (arith, size-range start size may.0 may.1))
size-value (forms.Bytes least most) (Bytes bytes) may = omega (arith, length-encode_with lower_digits bytes)
size-value forms.Family (Number n) may = size-family n may
size-value (forms.Is key) (Number n) may = absurd may
size-value (forms.Is key) (Span a b) may = absurd may
size-value (forms.Is key) (Bytes bs) may = absurd may
size-value (forms.Number most) Plain may = absurd may
size-value (forms.Number most) (Span a b) may = absurd may
size-value (forms.Number most) (Bytes bs) may = absurd may
size-value (forms.NumberBehind key) Plain may = absurd may
size-value (forms.NumberBehind key) (Span a b) may = absurd may
size-value (forms.NumberBehind key) (Bytes bs) may = absurd may
size-value forms.Hex Plain may = absurd may
size-value forms.Hex (Span a b) may = absurd may
size-value forms.Hex (Bytes bs) may = absurd may
size-value (forms.HexBehind key) Plain may = absurd may
size-value (forms.HexBehind key) (Span a b) may = absurd may
size-value (forms.HexBehind key) (Bytes bs) may = absurd may
size-value forms.OtpRow Plain may = absurd may
size-value forms.OtpRow (Span a b) may = absurd may
size-value forms.OtpRow (Bytes bs) may = absurd may
size-value forms.Span Plain may = absurd may
size-value forms.Span (Number n) may = absurd may
size-value forms.Span (Bytes bs) may = absurd may
size-value (forms.SpanBehind key) Plain may = absurd may
size-value (forms.SpanBehind key) (Number n) may = absurd may
size-value (forms.SpanBehind key) (Bytes bs) may = absurd may
size-value (forms.Bytes least most) Plain may = absurd may
size-value (forms.Bytes least most) (Number n) may = absurd may
size-value (forms.Bytes least most) (Span a b) may = absurd may
size-value forms.Family Plain may = absurd may
size-value forms.Family (Span a b) may = absurd may
size-value forms.Family (Bytes bs) may = absurd may
size-value forms.SomeSpan value may = absurd may
size-value forms.Rest value may = absurd may

abbrev total : List ValueView → ℕ
total [] = 0
total (value ∷ values) = 1 + weight value + total values

size-values : (row : Row) (place : ℕ) (values : List ValueView) → MaySayAll row place values
    → length (value_texts row place values) ≤ total values
size-values row place [] may = omega arith
size-values row place (value ∷ values) may =
    omega (
      arith,
      length-append (spelled (form_at row place) value) (value_texts row (place + 1) values),
      size-value (form_at row place) value may.0,
      size-values row (place + 1) values may.1,
    )

size-otp_words : (k : ℕ) (ws : List ℕ) → AreWords ws
    → length (value_texts rows.OtpWrite (k + 1) (map Number ws)) ≤ 11 * length ws
size-otp_words k [] are = omega arith
size-otp_words k (w ∷ ws) are =
    let word : length (spelled (form_at rows.OtpWrite (k + 1)) (Number w)) ≡ 10 =
    ap (λ form. length (spelled form (Number w))) (hex-form k) ∙ size-word w are.0 in
    omega (
      arith,
      word,
      length-append (spelled (form_at rows.OtpWrite (k + 1)) (Number w))
          (value_texts rows.OtpWrite (k + 1 + 1) (map Number ws)),
      size-otp_words (k + 1) ws are.1,
    )

-- a token's word, after a blank
abbrev token-size : Option ℕ → ℕ
token-size None = 0
token-size (Some token) = 17

size-token : (row : Row) (token : Option ℕ) → HasToken row token → length (token_text token) ≤ token-size token
size-token row None has = omega arith
size-token row (Some token) has =
    omega (
      arith,
      length-append (codes "token=" ++ hex_word token) [],
      length-append (codes "token=") (hex_word token),
      size-word token has.1,
    )

few-token : (token : Option ℕ) → token-size token ≤ 17
few-token None = omega arith
few-token (Some token) = omega arith

size-first : (row : Row) → length (first_word row) ≤ 9
size-first rows.Power = omega arith
size-first rows.ResetNormal = omega arith
size-first rows.ResetBootsel = omega arith
size-first rows.ResetUpdate = omega arith
size-first rows.CutBefore = omega arith
size-first rows.CutWithin = omega arith
size-first rows.Buy = omega arith
size-first rows.Exclusive = omega arith
size-first rows.Erase = omega arith
size-first rows.Read = omega arith
size-first rows.Write = omega arith
size-first rows.WriteRange = omega arith
size-first rows.WriteRest = omega arith
size-first rows.ExitXip = omega arith
size-first rows.EnterXip = omega arith
size-first rows.RebootNormal = omega arith
size-first rows.RebootBootsel = omega arith
size-first rows.RebootUpdate = omega arith
size-first rows.RebootRam = omega arith
size-first rows.OtpRead = omega arith
size-first rows.OtpWrite = omega arith
size-first rows.InfoTable = omega arith
size-first rows.InfoTarget = omega arith
size-first rows.InfoDevice = omega arith
size-first rows.InfoPartition = omega arith
size-first rows.Block = omega arith
size-first rows.ImageBlock = omega arith
size-first rows.RawCommand = omega arith
size-first rows.RawPayload = omega arith
size-first rows.RawBlock = omega arith
size-first rows.End = omega arith

size-line : (line_is : LineView) (most : ℕ) → IsLine line_is
    → length (value_texts line_is.row 0 line_is.values) ≤ most
    → length (line_text line_is) ≤ 9 + most + token-size line_is.token
size-line line_is most is few =
    omega (
      arith,
      length-append (first_word line_is.row)
          (value_texts line_is.row 0 line_is.values ++ token_text line_is.token),
      length-append (value_texts line_is.row 0 line_is.values) (token_text line_is.token),
      size-first line_is.row,
      few,
      size-token line_is.row line_is.token is.token,
    )

-- ---- events

-- a text that is short beside the bytes of its event
abbrev IsShort : List ℕ → EventView → Type 0
IsShort text e = 4 * length text ≤ 192 + 11 * length (written_event e)

six-digits : (n : ℕ) → n < 1000000 → length (decimal n) ≤ 6
six-digits n small = size-decimal 6 n (omega arith) (omega (arith, small)) (omega (arith, small))

plain-short : (n : ℕ) (note text : List ℕ) (most : ℕ) → n < 1000000 → length text ≤ most
    → length (numbered false n note text) ≤ most + 10
plain-short n note text most small few =
    omega (
      arith,
      length-append (text ++ (codes " # " ++ decimal n)) (10 ∷ []),
      length-append text (codes " # " ++ decimal n),
      length-append (codes " # ") (decimal n),
      six-digits n small,
      few,
    )

noted-short : (n : ℕ) (note text : List ℕ) (most : ℕ) → n < 1000000 → length text + length note ≤ most
    → length (numbered true n note text) ≤ most + 11
noted-short n note text most small few =
    omega (
      arith,
      length-append (line (comment_text n note)) (line text),
      length-append (comment_text n note) (10 ∷ []),
      length-append text (10 ∷ []),
      length-append (decimal n) (codes " " ++ note),
      six-digits n small,
      few,
    )

abbrev ListedShort : ℕ → EventView → LineView → Type 0
ListedShort n e line_is = IsShort (numbered (is_hex line_is.row) n (note_of e) (line_text line_is)) e

-- a command in words without bytes in hexadecimal digits
named-plain : (n : ℕ) (command payload : List ℕ) (line_is : LineView) → n < 1000000 → length command ≡ 32
    → IsLine line_is → is_hex line_is.row ≡ false
    → length (value_texts line_is.row 0 line_is.values) ≤ 42 + 11 * (length payload / 4)
    → ListedShort n (Command command payload) line_is
named-plain n command payload line_is small long is plain few =
    let most = 42 + 11 * (length payload / 4) in
    let text = size-line line_is most is few in
    let token = few-token line_is.token in
    subst (λ t. IsShort (numbered t n (note_of (Command command payload)) (line_text line_is)) (Command command payload))
    (sym plain)
    (omega (
      arith,
      command-long command payload long,
      plain-short n (note_of (Command command payload)) (line_text line_is) (most + 26) small (omega (arith, text, token)),
    ))

named-bytes : (n : ℕ) (command payload : List ℕ) (line_is : LineView) → n < 1000000 → length command ≡ 32
    → IsBytes command → IsLine line_is → is_hex line_is.row ≡ true
    → length (value_texts line_is.row 0 line_is.values) ≤ 22 + 2 * length payload
    → ListedShort n (Command command payload) line_is
named-bytes n command payload line_is small long are is plain few =
    let most = 22 + 2 * length payload in
    let text = size-line line_is most is few in
    let token = few-token line_is.token in
    let note = size-command command are in
    subst (λ t. IsShort (numbered t n (note_of (Command command payload)) (line_text line_is)) (Command command payload))
    (sym plain)
    (omega (
      arith,
      command-long command payload long,
      noted-short n (note_of (Command command payload)) (line_text line_is) (most + 83) small
          (omega (arith, text, token, note)),
    ))

size-row_of : (row : Row) (n : ℕ) (command payload : List ℕ) (cmd : Cmd) (token : Option ℕ) → n < 1000000
    → length command ≡ 32 → IsBytes command → IsBytes payload → IsNamed row
    → IsLine (said row (command_values row cmd payload) token)
    → ListedShort n (Command command payload) (said row (command_values row cmd payload) token)
size-row_of rows.Power n command payload cmd token small long are all named is = absurd (cc named.0)
size-row_of rows.ResetNormal n command payload cmd token small long are all named is = absurd (cc named.0)
size-row_of rows.ResetBootsel n command payload cmd token small long are all named is = absurd (cc named.0)
size-row_of rows.ResetUpdate n command payload cmd token small long are all named is = absurd (cc named.0)
size-row_of rows.CutBefore n command payload cmd token small long are all named is = absurd (cc named.0)
size-row_of rows.CutWithin n command payload cmd token small long are all named is = absurd (cc named.0)
size-row_of rows.Buy n command payload cmd token small long are all named is = absurd (cc named.0)
size-row_of rows.Exclusive n command payload cmd token small long are all named is =
    let values = command_values rows.Exclusive cmd payload in
    named-plain n command payload (said rows.Exclusive values token) small long is refl
    (omega (arith, size-values rows.Exclusive 0 values is.values))
size-row_of rows.Erase n command payload cmd token small long are all named is =
    let values = command_values rows.Erase cmd payload in
    named-plain n command payload (said rows.Erase values token) small long is refl
    (omega (arith, size-values rows.Erase 0 values is.values))
size-row_of rows.Read n command payload cmd token small long are all named is =
    let values = command_values rows.Read cmd payload in
    named-plain n command payload (said rows.Read values token) small long is refl
    (omega (arith, size-values rows.Read 0 values is.values))
size-row_of rows.Write n command payload cmd token small long are all named is =
    let values = command_values rows.Write cmd payload in
    named-bytes n command payload (said rows.Write values token) small long are is refl
    (omega (arith, size-values rows.Write 0 values is.values))
size-row_of rows.WriteRange n command payload cmd token small long are all named is = absurd (cc named.1)
size-row_of rows.WriteRest n command payload cmd token small long are all named is = absurd (cc named.1)
size-row_of rows.ExitXip n command payload cmd token small long are all named is =
    let values = command_values rows.ExitXip cmd payload in
    named-plain n command payload (said rows.ExitXip values token) small long is refl
    (omega (arith, size-values rows.ExitXip 0 values is.values))
size-row_of rows.EnterXip n command payload cmd token small long are all named is =
    let values = command_values rows.EnterXip cmd payload in
    named-plain n command payload (said rows.EnterXip values token) small long is refl
    (omega (arith, size-values rows.EnterXip 0 values is.values))
size-row_of rows.RebootNormal n command payload cmd token small long are all named is =
    let values = command_values rows.RebootNormal cmd payload in
    named-plain n command payload (said rows.RebootNormal values token) small long is refl
    (omega (arith, size-values rows.RebootNormal 0 values is.values))
size-row_of rows.RebootBootsel n command payload cmd token small long are all named is =
    let values = command_values rows.RebootBootsel cmd payload in
    named-plain n command payload (said rows.RebootBootsel values token) small long is refl
    (omega (arith, size-values rows.RebootBootsel 0 values is.values))
size-row_of rows.RebootUpdate n command payload cmd token small long are all named is =
    let values = command_values rows.RebootUpdate cmd payload in
    named-plain n command payload (said rows.RebootUpdate values token) small long is refl
    (omega (arith, size-values rows.RebootUpdate 0 values is.values))
size-row_of rows.RebootRam n command payload cmd token small long are all named is =
    let values = command_values rows.RebootRam cmd payload in
    named-plain n command payload (said rows.RebootRam values token) small long is refl
    (omega (arith, size-values rows.RebootRam 0 values is.values))
size-row_of rows.OtpRead n command payload cmd token small long are all named is =
    let values = command_values rows.OtpRead cmd payload in
    named-plain n command payload (said rows.OtpRead values token) small long is refl
    (omega (arith, size-values rows.OtpRead 0 values is.values))
size-row_of rows.OtpWrite n command payload cmd token small long are all named is =
    let values = command_values rows.OtpWrite cmd payload in
    let row = address cmd % 65536 in
    let words = words_of payload in
    named-plain n command payload (said rows.OtpWrite values token) small long is refl
    (omega (
      arith,
      length-append (spelled forms.OtpRow (Number row)) (value_texts rows.OtpWrite 1 (map Number words)),
      size-value forms.OtpRow (Number row) is.values.0,
      size-otp_words 0 words (words-small payload all),
      length-words_of payload,
    ))
size-row_of rows.InfoTable n command payload cmd token small long are all named is =
    let values = command_values rows.InfoTable cmd payload in
    named-plain n command payload (said rows.InfoTable values token) small long is refl
    (omega (arith, size-values rows.InfoTable 0 values is.values))
size-row_of rows.InfoTarget n command payload cmd token small long are all named is =
    let values = command_values rows.InfoTarget cmd payload in
    named-plain n command payload (said rows.InfoTarget values token) small long is refl
    (omega (arith, size-values rows.InfoTarget 0 values is.values))
size-row_of rows.InfoDevice n command payload cmd token small long are all named is =
    let values = command_values rows.InfoDevice cmd payload in
    named-plain n command payload (said rows.InfoDevice values token) small long is refl
    (omega (arith, size-values rows.InfoDevice 0 values is.values))
size-row_of rows.InfoPartition n command payload cmd token small long are all named is =
    let values = command_values rows.InfoPartition cmd payload in
    named-plain n command payload (said rows.InfoPartition values token) small long is refl
    (omega (arith, size-values rows.InfoPartition 0 values is.values))
size-row_of rows.Block n command payload cmd token small long are all named is = absurd (cc named.0)
size-row_of rows.ImageBlock n command payload cmd token small long are all named is = absurd (cc named.0)
size-row_of rows.RawCommand n command payload cmd token small long are all named is = absurd (cc named.0)
size-row_of rows.RawPayload n command payload cmd token small long are all named is = absurd (cc named.0)
size-row_of rows.RawBlock n command payload cmd token small long are all named is = absurd (cc named.0)
size-row_of rows.End n command payload cmd token small long are all named is = absurd (cc named.0)

size-raw : (n : ℕ) (command payload : List ℕ) → n < 1000000 → length command ≡ 32 → IsBytes command
    → IsLine (raw_command command payload)
    → ListedShort n (Command command payload) (raw_command command payload)
size-raw n command [] small long are is =
    omega (
      arith,
      command-long command [] long,
      noted-short n (command_text command) (line_text (raw_command command [])) 131 small
          (omega (
            arith,
            long,
            size-command command are,
            size-line (raw_command command []) 65 is
                (omega (arith, long, size-values rows.RawCommand 0 (Bytes command ∷ []) is.values)),
          )),
    )
size-raw n command (b ∷ payload) small long are is =
    let most = 66 + 2 * length (b ∷ payload) in
    omega (
      arith,
      command-long command (b ∷ payload) long,
      noted-short n (command_text command) (line_text (raw_command command (b ∷ payload))) (most + 66) small
          (omega (
            arith,
            long,
            size-command command are,
            size-line (raw_command command (b ∷ payload)) most is
                (omega (
                  arith,
                  long,
                  size-values rows.RawPayload 0 (Bytes command ∷ (Bytes (b ∷ payload) ∷ [])) is.values,
                )),
          )),
    )

size-named : (n next : ℕ) (command payload : List ℕ) → n < 1000000 → length command ≡ 32 → IsBytes command
    → IsBytes payload → IsLine (command_line next command payload)
    → ListedShort n (Command command payload) (command_line next command payload)
size-named n next command payload small long are all is = by_named (named_command next command payload) refl is
  where
    by_named : (o : Option LineView) → named_command next command payload ≡ o
        → IsLine (or_line o (raw_command command payload))
        → ListedShort n (Command command payload) (or_line o (raw_command command payload))
    by_named None none line_is = size-raw n command payload small long are line_is
    by_named (Some found) some line_is =
        let m = named-of next command payload found some in
        let named : IsNamed m.row = subst (λ (o : Option Row). IfSome o IsNamed) m.of_row (row-named m.cmd) in
        subst (ListedShort n (Command command payload)) (sym m.is)
        (size-row_of m.row n command payload m.cmd (told_token next m.cmd.token) small long are all named
        (subst IsLine m.is line_is))

size-block_line : (n : ℕ) (bytes : List ℕ) → n < 1000000 → length bytes ≡ 512 → IsBytes bytes
    → IsLine (block_line bytes) → ListedShort n (Uf2 bytes) (block_line bytes)
size-block_line n bytes small long are is =
    by_same (bytes_eq (blocks.written_block (block_fields bytes)) bytes) is
  where
    by_same : (t : Bool)
        → IsLine (if t then said rows.Block (block_values (block_fields bytes)) None
        else said rows.RawBlock (Bytes bytes ∷ []) None)
        → ListedShort n (Uf2 bytes) (if t then said rows.Block (block_values (block_fields bytes)) None
        else said rows.RawBlock (Bytes bytes ∷ []) None)
    by_same true line_is =
        let line_of_block = said rows.Block (block_values (block_fields bytes)) None in
        omega (
          arith,
          long,
          noted-short n (uf2_text bytes) (line_text line_of_block) 703 small
              (omega (
                arith,
                size-uf2 bytes are,
                size-line line_of_block 619 line_is
                    (omega (
                      arith,
                      page-long bytes long,
                      size-values rows.Block 0 (block_values (block_fields bytes)) line_is.values,
                    )),
              )),
        )
    by_same false line_is =
        let line_of_block = said rows.RawBlock (Bytes bytes ∷ []) None in
        omega (
          arith,
          long,
          noted-short n (uf2_text bytes) (line_text line_of_block) 1109 small
              (omega (
                arith,
                size-uf2 bytes are,
                size-line line_of_block 1025 line_is
                    (omega (arith, long, size-values rows.RawBlock 0 (Bytes bytes ∷ []) line_is.values)),
              )),
        )

size-cut : (n left : ℕ) (within : Bool) (pattern : List ℕ) → n < 1000000 → IsPattern within pattern
    → IsLine (cut_line left within pattern)
    → ListedShort n (Cut left within pattern) (cut_line left within pattern)
size-cut n left false pattern small fits is =
    omega (
      arith,
      plain-short n (codes "cut") (line_text (cut_line left false pattern)) 41 small
          (omega (
            arith,
            size-line (cut_line left false pattern) 32 is
                (omega (arith, size-values rows.CutBefore 0 (Number left ∷ (Plain ∷ [])) is.values)),
          )),
    )
size-cut n left true pattern small fits is =
    let most = 33 + 2 * length pattern in
    omega (
      arith,
      noted-short n (codes "cut") (line_text (cut_line left true pattern)) (most + 12) small
          (omega (
            arith,
            size-line (cut_line left true pattern) most is
                (omega (
                  arith,
                  size-values rows.CutWithin 0 (Number left ∷ (Plain ∷ (Bytes pattern ∷ []))) is.values,
                )),
          )),
    )

size-reset : (n : ℕ) (kind : BootKind) → n < 1000000 → IsLine (reset_line kind)
    → ListedShort n (Reset kind) (reset_line kind)
size-reset n Normal small is =
    omega (
      arith,
      plain-short n [] (line_text (reset_line Normal)) 20 small (omega (
        arith,
        size-line (reset_line Normal) 11 is (omega (arith, size-values rows.ResetNormal 0 (Plain ∷ []) is.values)),
      )),
    )
size-reset n Bootsel small is =
    omega (
      arith,
      plain-short n [] (line_text (reset_line Bootsel)) 20 small (omega (
        arith,
        size-line (reset_line Bootsel) 11 is (omega (arith, size-values rows.ResetBootsel 0 (Plain ∷ []) is.values)),
      )),
    )
size-reset n (Update base) small is =
    omega (
      arith,
      plain-short n [] (line_text (reset_line (Update base))) 30 small (omega (
        arith,
        size-line (reset_line (Update base)) 21 is
            (omega (arith, size-values rows.ResetUpdate 0 (Number base ∷ []) is.values)),
      )),
    )

size-event : (n next : ℕ) (e : EventView) → n < 1000000 → IsEvent e → IsShort (listed_event n next e) e
size-event n next End small event =
    omega (arith, plain-short n [] (line_text (line_of next End)) 9 small (omega arith))
size-event n next (Command command payload) small event =
    size-named n next command payload small event.well.0 event.bytes.0 event.bytes.1
    (line-says next (Command command payload) event).is
size-event n next (Uf2 block) small event =
    size-block_line n block small event.well event.bytes (line-says next (Uf2 block) event).is
size-event n next (Cut left within pattern) small event =
    size-cut n left within pattern small event.well.1 (line-says next (Cut left within pattern) event).is
size-event n next PowerOn small event =
    omega (arith, plain-short n [] (line_text (line_of next PowerOn)) 9 small (omega arith))
size-event n next (Reset kind) small event = size-reset n kind small (line-says next (Reset kind) event).is
size-event n next Buy small event =
    omega (arith, plain-short n [] (line_text (line_of next Buy)) 9 small (omega arith))

size-events : (es : List EventView) (n next : ℕ) → AllByRecursion IsBeforeEnd es → AllByRecursion HasEventBytes es
    → n + length es ≤ MOST_RECORDS
    → 4 * length (listed_from n next es) ≤ 11 * length (flat_map written_event es) + (192 * length es + 16)
size-events [] n next inside bytes few = omega arith
size-events (e ∷ es) n next inside bytes few =
    let event : IsEvent e = record { well = inside.0.well; bytes = bytes.0 } in
    omega (
      arith,
      length-append (listed_event n next e) (listed_from (n + 1) (token_behind next e) es),
      size-event n next e (omega (arith, few)) event,
      length-append (written_event e) (flat_map written_event es),
      size-events es (n + 1) (token_behind next e) inside.1 bytes.1 (omega (arith, few)),
    )

pub listed-short : (es : List EventView) → AllByRecursion IsBeforeEnd es → AllByRecursion HasEventBytes es
    → IsWithinLimits es
    → length (listed es) ≤ TEXT_LIMIT
listed-short es inside bytes within =
    omega (
      arith,
      within.few,
      within.short,
      length-append (flat_map written_event es) (written_event End),
      size-events es 0 1 inside bytes (omega (arith, within.few)),
    )
