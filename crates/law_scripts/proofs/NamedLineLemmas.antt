-- A line in words is the one that is written for its record.
use Rattle.std.proofs.Common.{◌≡◌, ◌≢◌, ℕ, suc, ◌+◌, ◌*◌, ◌/◌, ◌%◌, ◌^◌, ◌<◌, ◌≤◌, Bool, true, false, List, [], ◌∷◌, ◌++◌, length, take, drop, get_or, map, replicate, Option, Some, None, refl, sym, ap, subst, ◌∙◌, arith, append-nil}
use Rattle.std.specs.Prelude.{Result, Ok, if◌then◌else◌, ◌&&◌, bytes_eq, nat_le, nat_lt, option_and_then, slice_range, unwrap_or}
use Rattle.std.proofs.lemmas.Bool.{and_parts, eq-eqb, eqb-true, leb-true, le-leb, lt-ltb, ltb-true, ne_eqb}
use Rattle.std.proofs.Math.Seq.{take-append_seam}
use Rattle.byteorder.specs.Endian.{little_number}
use Rattle.byteorder.specs.Numbers.{little_number-reads_back}
use Rattle.block_codec.specs.Words.{AreWords, bytes_of, word_bytes, word_of, words_of}
use Rattle.block_codec.proofs.WordLemmas.{get_or-words_of, length-bytes_of, words_of-append}
use Rattle.pico_board.proofs.FileListLemmas.{bytes_eq-same}
use Rattle.picoboot_cmd.specs.declared.cmd.Cmd.{Cmd}
use Rattle.picoboot_cmd.specs.declared.cmd.CmdFault.{CmdFault}
use Rattle.info_reply.specs.declared.kinds.TheConstants.{TABLE, TARGET, DEVICE, PARTITION}
use Rattle.picoboot_cmd.specs.Commands.{command_in, written_command}
use Rattle.uf2_place.specs.declared.block.Uf2.{Uf2 as Block}
use Rattle.uf2_place.specs.declared.block.TheConstants.{HAS_FAMILY, END as LAST}
use Rattle.uf2_place.specs.Blocks.{word_at, written_block}
use Rattle.uf2_place.specs.Blocks as blocks
use Rattle.boot_script.specs.Events.{EventView}
use Rattle.script_words.specs.declared.forms.Form.TheVariants as forms
use Rattle.script_words.specs.declared.forms.Keyword.{Keyword}
use Rattle.script_words.specs.declared.forms.Keyword.TheVariants as keys
use Rattle.script_words.specs.declared.rows.Row.{Row}
use Rattle.script_words.specs.declared.rows.Row.TheVariants as rows
use Rattle.script_words.specs.Rows.{has_words, is_command}
use Rattle.script_words.specs.Values.{LineView, ValueView, Plain, Number, Span, Bytes, said}
use Rattle.script_words.specs.Made.{command_of, four, halves, made, made_command, made_plain, own_payload, rows_bytes, size_of, words_bytes}
use Rattle.script_words.specs.Naming.{block_fields, block_line, block_values, command_values, fit_from, fits, info_row, is_said, line_of, named_by, or_line, raw_command, reboot_row, row_of_command, row_values, told_token, where_said}
use Rattle.script_words.specs.Saying.{HasToken, IsLine, MaySay, MaySayAll}
use Rattle.law_scripts.specs.Listed.{is_in_words}
use Rattle.law_scripts.proofs.LineBackLemmas.{of-one, of-two, of-three}
use Rattle.law_scripts.proofs.LineOfLemmas.{hex-form, page-whole}
use Rattle.law_scripts.proofs.NamedBackLemmas.{IsNamed, made-named}

same-bytes : (xs : List ℕ) → bytes_eq xs xs ≡ true
same-bytes xs = bytes_eq-same xs xs refl

-- ---- commands

same-fields : (t u i a n m : ℕ) (args : List ℕ) → t ≡ u → n ≡ m
    → ◌≡◌ {A = Result Cmd CmdFault} (Ok (record { token = t; id = i; arg_size = a; transfer = n; args = args }))
    (Ok (record { token = u; id = i; arg_size = a; transfer = m; args = args }))
same-fields t u i a n m args e f = cc

command-read : (cmd : Cmd) → cmd.token < 2 ^ 32 → cmd.transfer < 2 ^ 32 → command_in (written_command cmd) ≡ Ok cmd
command-read cmd token transfer =
    same-fields _ _ cmd.id cmd.arg_size _ _ cmd.args
    (little_number-reads_back 4 cmd.token [] token) (little_number-reads_back 4 cmd.transfer [] transfer)

arg-word : (bs : List ℕ) → word_of bs ≡ little_number 4 bs
unfolding word_of
arg-word bs = refl

-- the word at a place of the bytes of words
arg-at : (k : ℕ) (ws : List ℕ) → AreWords ws → k < length ws
    → little_number 4 (drop (4 * k) (words_bytes ws)) ≡ get_or ws k 0
arg-at k ws are few =
    sym (arg-word (drop (4 * k) (bytes_of ws)))
    ∙ sym (get_or-words_of (bytes_of ws) k (omega (arith, few, length-bytes_of ws)))
    ∙ ap (λ xs. get_or xs k 0)
    (ap words_of (sym (append-nil (bytes_of ws))) ∙ words_of-append ws [] are ∙ append-nil ws)

arg-one : (a b c d : ℕ) → AreWords (four a b c d) → little_number 4 (words_bytes (four a b c d)) ≡ a
arg-one a b c d are = arg-at 0 (four a b c d) are (omega arith)

arg-two : (a b c d : ℕ) → AreWords (four a b c d) → little_number 4 (drop 4 (words_bytes (four a b c d))) ≡ b
arg-two a b c d are = arg-at 1 (four a b c d) are (omega arith)

arg-three : (a b c d : ℕ) → AreWords (four a b c d) → little_number 4 (drop 8 (words_bytes (four a b c d))) ≡ c
arg-three a b c d are = arg-at 2 (four a b c d) are (omega arith)

arg-four : (a b c d : ℕ) → AreWords (four a b c d) → little_number 4 (drop 12 (words_bytes (four a b c d))) ≡ d
arg-four a b c d are = arg-at 3 (four a b c d) are (omega arith)

four-are : (a b c d : ℕ) → a < 2 ^ 32 → b < 2 ^ 32 → c < 2 ^ 32 → d < 2 ^ 32 → AreWords (four a b c d)
four-are a b c d first second third fourth = (first, (second, (third, (fourth, tt))))

size-small : (payload : List ℕ) → size_of payload < 2 ^ 32
size-small payload = by_test (nat_lt (length payload) (2 ^ 32)) refl
  where
    by_test : (t : Bool) → nat_lt (length payload) (2 ^ 32) ≡ t → (if t then length payload else 0) < 2 ^ 32
    by_test true few = ltb-true (length payload) (2 ^ 32) few
    by_test false many = omega arith

size-is : (payload : List ℕ) → length payload < 2 ^ 32 → size_of payload ≡ length payload
size-is payload few = rw (lt-ltb (length payload) (2 ^ 32) few) refl

-- the command that a row and its values give, with this token
abbrev sent : Row → List ValueView → ℕ → Cmd
sent row values token = command_of row values token (size_of (own_payload row values))

-- what is owed of a row's command, so that the row is found by it
record IsFound (row : Row) (values : List ValueView) (token : ℕ) : Type 0 where
  transfer : (sent row values token).transfer < 2 ^ 32
  of_row : row_of_command (sent row values token) ≡ Some row
  says : command_values row (sent row values token) (own_payload row values) ≡ values
  fit : fit_from row 0 values ≡ true

-- the line of a row's command is this row's
named-line : (row : Row) (values : List ValueView) (next token : ℕ) → token < 2 ^ 32
    → has_words row (length values) ≡ true → IsFound row values token
    → line_of next (made_command row values token (own_payload row values))
    ≡ said row values (told_token next token)
named-line row values next token small count is =
    let payload = own_payload row values in
    let cmd = sent row values token in
    let told = told_token next token in
    let line_is : is_said (said row values told) token (written_command cmd) payload ≡ true =
    rw (count, is.fit, same-bytes (own_payload row values), same-bytes (written_command (sent row values token))) refl in
    ap (λ o. or_line o (raw_command (written_command cmd) payload))
    (ap (named_by next (written_command cmd) payload) (command-read cmd small is.transfer)
    ∙ ap (option_and_then (λ r. where_said token (written_command cmd) payload
    (said r (command_values r cmd payload) told))) is.of_row
    ∙ ap (λ vs. where_said token (written_command cmd) payload (said row vs told)) is.says
    ∙ ap (λ t. if t then Some (said row values told) else None) line_is)

-- ---- rows of commands

abbrev Found : Row → List ValueView → Type 0
Found row values = MaySayAll row 0 values → (token : ℕ) → IsFound row values token

span-same : (a b c d : ℕ) → a ≡ c → b ≡ d → ◌≡◌ {A = List ValueView} (Span a b ∷ []) (Span c d ∷ [])
span-same a b c d first second = cc

found-exclusive : (v : ValueView) → Found rows.Exclusive (v ∷ [])
found-exclusive (Number n) may token = record {
  transfer = omega arith;
  of_row = refl;
  says = ap (λ m. Number m ∷ []) (arg-one n 0 0 0 (four-are n 0 0 0 may.0.1 (omega arith) (omega arith) (omega arith)));
  fit = rw (le-leb n 255 may.0.0) refl;
}
found-exclusive Plain may token = absurd may.0
found-exclusive (Span a b) may token = absurd may.0
found-exclusive (Bytes bs) may token = absurd may.0

found-erase : (v : ValueView) → Found rows.Erase (v ∷ [])
found-erase (Span a b) may token =
    let are = four-are a b 0 0 may.0.0 may.0.1 (omega arith) (omega arith) in record {
      transfer = omega arith;
      of_row = refl;
      says = span-same _ _ a b (arg-one a b 0 0 are) (arg-two a b 0 0 are);
      fit = refl;
    }
found-erase Plain may token = absurd may.0
found-erase (Number n) may token = absurd may.0
found-erase (Bytes bs) may token = absurd may.0

found-read : (v : ValueView) → Found rows.Read (v ∷ [])
found-read (Span a b) may token =
    let are = four-are a b 0 0 may.0.0 may.0.1 (omega arith) (omega arith) in record {
      transfer = may.0.1;
      of_row = refl;
      says = span-same _ _ a b (arg-one a b 0 0 are) (arg-two a b 0 0 are);
      fit = refl;
    }
found-read Plain may token = absurd may.0
found-read (Number n) may token = absurd may.0
found-read (Bytes bs) may token = absurd may.0

found-write : (v w : ValueView) → Found rows.Write (v ∷ w ∷ [])
found-write (Number a) (Bytes bs) may token =
    let size = size_of bs in
    let are = four-are a size 0 0 may.0 (size-small bs) (omega arith) (omega arith) in record {
      transfer = size-small bs;
      of_row = refl;
      says = ap (λ m. Number m ∷ (Bytes bs ∷ [])) (arg-one a size 0 0 are);
      fit = rw (le-leb 1 (length bs) may.1.0.1, le-leb (length bs) 0xffffffff may.1.0.2) refl;
    }
found-write (Number a) Plain may token = absurd may.1.0
found-write (Number a) (Number b) may token = absurd may.1.0
found-write (Number a) (Span b c) may token = absurd may.1.0
found-write Plain w may token = absurd may.0
found-write (Span a b) w may token = absurd may.0
found-write (Bytes bs) w may token = absurd may.0

found-update : (v : ValueView) → Found rows.RebootUpdate (v ∷ [])
found-update (Number n) may token =
    let are = four-are 4 0 n 0 (omega arith) (omega arith) may.0 (omega arith) in record {
      transfer = omega arith;
      of_row = ap reboot_row (arg-one 4 0 n 0 are);
      says = ap (λ m. Number m ∷ []) (arg-three 4 0 n 0 are);
      fit = refl;
    }
found-update Plain may token = absurd may.0
found-update (Span a b) may token = absurd may.0
found-update (Bytes bs) may token = absurd may.0

found-ram : (v : ValueView) → Found rows.RebootRam (v ∷ [])
found-ram (Span a b) may token =
    let are = four-are 3 0 a b (omega arith) (omega arith) may.0.0 may.0.1 in record {
      transfer = omega arith;
      of_row = ap reboot_row (arg-one 3 0 a b are);
      says = span-same _ _ a b (arg-three 3 0 a b are) (arg-four 3 0 a b are);
      fit = refl;
    }
found-ram Plain may token = absurd may.0
found-ram (Number n) may token = absurd may.0
found-ram (Bytes bs) may token = absurd may.0

zeros : (a : ℕ) → a < 2 ^ 32 → AreWords (four a 0 0 0)
zeros a small = four-are a 0 0 0 small (omega arith) (omega arith) (omega arith)

found-normal : (v : ValueView) → Found rows.RebootNormal (v ∷ [])
found-normal Plain may token = record {
  transfer = omega arith;
  of_row = ap reboot_row (arg-one 0 0 0 0 (zeros 0 (omega arith)));
  says = refl;
  fit = refl;
}
found-normal (Number n) may token = absurd may.0
found-normal (Span a b) may token = absurd may.0
found-normal (Bytes bs) may token = absurd may.0

found-bootsel : (v : ValueView) → Found rows.RebootBootsel (v ∷ [])
found-bootsel Plain may token = record {
  transfer = omega arith;
  of_row = ap reboot_row (arg-one 2 0 0 0 (zeros 2 (omega arith)));
  says = refl;
  fit = refl;
}
found-bootsel (Number n) may token = absurd may.0
found-bootsel (Span a b) may token = absurd may.0
found-bootsel (Bytes bs) may token = absurd may.0

two-numbers : (a b c d : ℕ) → a ≡ c → b ≡ d → ◌≡◌ {A = List ValueView} (Number a ∷ (Number b ∷ [])) (Number c ∷ (Number d ∷ []))
two-numbers a b c d first second = cc

found-otp_read : (v w : ValueView) → Found rows.OtpRead (v ∷ w ∷ [])
found-otp_read (Number r) (Number n) may token =
    let small = may.0 in
    let few = may.1.0.0 in
    let word = halves r n in
    let is = arg-one word 0 0 0 (zeros word (omega arith)) in record {
      transfer = omega arith;
      of_row = refl;
      says = two-numbers _ _ r n (ap (λ a. a % 65536) is ∙ omega (arith, small, few))
          (ap (λ a. a / 65536) is ∙ omega (arith, small, few));
      fit = rw (lt-ltb r 4096 small, le-leb n 65535 few) refl;
    }
found-otp_read (Number r) Plain may token = absurd may.1.0
found-otp_read (Number r) (Span a b) may token = absurd may.1.0
found-otp_read (Number r) (Bytes bs) may token = absurd may.1.0
found-otp_read Plain w may token = absurd may.0
found-otp_read (Span a b) w may token = absurd may.0
found-otp_read (Bytes bs) w may token = absurd may.0

found-table : (v w : ValueView) → Found rows.InfoTable (v ∷ w ∷ [])
found-table Plain (Number n) may token =
    let are = four-are TABLE 0 0 0 (omega arith) (omega arith) (omega arith) (omega arith) in record {
      transfer = may.1.0.1;
      of_row = ap info_row (arg-one TABLE 0 0 0 are);
      says = refl;
      fit = rw (le-leb n 0xffffffff may.1.0.0) refl;
    }
found-table Plain Plain may token = absurd may.1.0
found-table Plain (Span b c) may token = absurd may.1.0
found-table Plain (Bytes bs) may token = absurd may.1.0
found-table (Number a) w may token = absurd may.0
found-table (Span a b) w may token = absurd may.0
found-table (Bytes bs) w may token = absurd may.0

found-target : (v w : ValueView) → Found rows.InfoTarget (v ∷ w ∷ [])
found-target (Number a) (Number n) may token =
    let are = four-are TARGET a 0 0 (omega arith) may.0 (omega arith) (omega arith) in record {
      transfer = may.1.0.1;
      of_row = ap info_row (arg-one TARGET a 0 0 are);
      says = ap (λ m. Number m ∷ (Number n ∷ [])) (arg-two TARGET a 0 0 are);
      fit = rw (le-leb n 0xffffffff may.1.0.0) refl;
    }
found-target (Number a) Plain may token = absurd may.1.0
found-target (Number a) (Span b c) may token = absurd may.1.0
found-target (Number a) (Bytes bs) may token = absurd may.1.0
found-target Plain w may token = absurd may.0
found-target (Span a b) w may token = absurd may.0
found-target (Bytes bs) w may token = absurd may.0

found-device : (v w : ValueView) → Found rows.InfoDevice (v ∷ w ∷ [])
found-device Plain (Number n) may token =
    let are = four-are DEVICE 0 0 0 (omega arith) (omega arith) (omega arith) (omega arith) in record {
      transfer = may.1.0.1;
      of_row = ap info_row (arg-one DEVICE 0 0 0 are);
      says = refl;
      fit = rw (le-leb n 0xffffffff may.1.0.0) refl;
    }
found-device Plain Plain may token = absurd may.1.0
found-device Plain (Span b c) may token = absurd may.1.0
found-device Plain (Bytes bs) may token = absurd may.1.0
found-device (Number a) w may token = absurd may.0
found-device (Span a b) w may token = absurd may.0
found-device (Bytes bs) w may token = absurd may.0

found-partition : (v w : ValueView) → Found rows.InfoPartition (v ∷ w ∷ [])
found-partition (Number a) (Number n) may token =
    let are = four-are PARTITION a 0 0 (omega arith) may.0 (omega arith) (omega arith) in record {
      transfer = may.1.0.1;
      of_row = ap info_row (arg-one PARTITION a 0 0 are);
      says = ap (λ m. Number m ∷ (Number n ∷ [])) (arg-two PARTITION a 0 0 are);
      fit = rw (le-leb n 0xffffffff may.1.0.0) refl;
    }
found-partition (Number a) Plain may token = absurd may.1.0
found-partition (Number a) (Span b c) may token = absurd may.1.0
found-partition (Number a) (Bytes bs) may token = absurd may.1.0
found-partition Plain w may token = absurd may.0
found-partition (Span a b) w may token = absurd may.0
found-partition (Bytes bs) w may token = absurd may.0

-- ---- words of OTP rows

record AreRowWords (values : List ValueView) : Type 0 where
  words : List ℕ
  are : AreWords words
  is : values ≡ map Number words

row-words : (k : ℕ) (values : List ValueView) → MaySayAll rows.OtpWrite (k + 1) values → AreRowWords values
row-words k [] may = record { words = []; are = tt; is = refl }
row-words k (v ∷ values) may = by_value v (subst (λ form. MaySay form v) (hex-form k) may.0) (row-words (k + 1) values may.1)
  where
    by_value : (u : ValueView) → MaySay forms.Hex u → AreRowWords values → AreRowWords (u ∷ values)
    by_value (Number n) small rest = record {
      words = n ∷ rest.words;
      are = (small, rest.are);
      is = ap (λ vs. Number n ∷ vs) rest.is;
    }
    by_value Plain small rest = absurd small
    by_value (Span a b) small rest = absurd small
    by_value (Bytes bs) small rest = absurd small

rows-bytes : (ws : List ℕ) → rows_bytes (map Number ws) ≡ bytes_of ws
rows-bytes [] = refl
rows-bytes (w ∷ ws) = ap (λ bs. word_bytes w ++ bs) (rows-bytes ws)

rows-back : (ws : List ℕ) → AreWords ws → row_values (bytes_of ws) ≡ map Number ws
rows-back ws are =
    ap (map Number) (ap words_of (sym (append-nil (bytes_of ws))) ∙ words_of-append ws [] are ∙ append-nil ws)

rows-fit : (k : ℕ) (ws : List ℕ) → fit_from rows.OtpWrite (k + 1) (map Number ws) ≡ true
rows-fit k [] = refl
rows-fit k (w ∷ ws) =
    ap (λ form. fits form (Number w) && fit_from rows.OtpWrite (k + 1 + 1) (map Number ws)) (hex-form k)
    ∙ rows-fit (k + 1) ws

map-long : (ws : List ℕ) → length (map Number ws) ≡ length ws
map-long [] = refl
map-long (w ∷ ws) = ap suc (map-long ws)

rows-said : (r : ℕ) (ws : List ℕ) (token : ℕ) → r < 4096 → length ws ≤ 4096 → AreWords ws
    → IsFound rows.OtpWrite (Number r ∷ map Number ws) token
rows-said r ws token small few are =
    let long = length-bytes_of ws in
    let payload = own_payload rows.OtpWrite (Number r ∷ map Number ws) in
    let same : payload ≡ bytes_of ws = rows-bytes ws in
    let whole : size_of payload ≡ 4 * length ws =
    ap size_of same ∙ size-is (bytes_of ws) (omega (arith, long, few)) ∙ long in
    let word = halves r (size_of payload / 4) in
    let half : size_of payload / 4 ≡ length ws = omega (arith, whole) in
    let is = arg-one word 0 0 0 (zeros word (omega (arith, small, few, half))) in record {
      transfer = size-small payload;
      of_row = refl;
      says = ap (λ n. Number n ∷ row_values payload)
          (ap (λ a. a % 65536) is ∙ omega (arith, small, few, half))
          ∙ ap (λ bs. Number r ∷ row_values bs) same
          ∙ ap (λ vs. Number r ∷ vs) (rows-back ws are);
      fit = rw (lt-ltb r 4096 small) (rows-fit 0 ws);
    }

found-otp_write : (values : List ValueView) → has_words rows.OtpWrite (length values) ≡ true
    → Found rows.OtpWrite values
found-otp_write [] count may token = absurd (cc count)
found-otp_write (Number r ∷ rest) count may token =
    let w = row-words 0 rest may.1 in
    let long : length rest ≡ length w.words = ap length w.is ∙ map-long w.words in
    let few = leb-true (length (Number r ∷ rest)) 4097 (and_parts (nat_le 2 (length (Number r ∷ rest))) _ count).1 in
    subst (λ (vs : List ValueView). IsFound rows.OtpWrite (Number r ∷ vs) token) (sym w.is)
    (rows-said r w.words token may.0 (omega (arith, long, few)) w.are)
found-otp_write (Plain ∷ rest) count may token = absurd may.0
found-otp_write (Span a b ∷ rest) count may token = absurd may.0
found-otp_write (Bytes bs ∷ rest) count may token = absurd may.0

of-none : (P : List ValueView → Type 0) (values : List ValueView) → length values ≡ 0 → P [] → P values
of-none P [] long f = f
of-none P (a ∷ values) long f = absurd (omega (arith, long))

found-exit : Found rows.ExitXip []
found-exit may token = record { transfer = omega arith; of_row = refl; says = refl; fit = refl }

found-enter : Found rows.EnterXip []
found-enter may token = record { transfer = omega arith; of_row = refl; says = refl; fit = refl }

found-of : (row : Row) (values : List ValueView) → is_command row ≡ true → is_in_words row ≡ true
    → has_words row (length values) ≡ true → Found row values
found-of rows.Power values command named count = absurd (cc command)
found-of rows.ResetNormal values command named count = absurd (cc command)
found-of rows.ResetBootsel values command named count = absurd (cc command)
found-of rows.ResetUpdate values command named count = absurd (cc command)
found-of rows.CutBefore values command named count = absurd (cc command)
found-of rows.CutWithin values command named count = absurd (cc command)
found-of rows.Buy values command named count = absurd (cc command)
found-of rows.Exclusive values command named count =
    of-one (Found rows.Exclusive) values (eqb-true (length values) 1 count) found-exclusive
found-of rows.Erase values command named count =
    of-one (Found rows.Erase) values (eqb-true (length values) 1 count) found-erase
found-of rows.Read values command named count =
    of-one (Found rows.Read) values (eqb-true (length values) 1 count) found-read
found-of rows.Write values command named count =
    of-two (Found rows.Write) values (eqb-true (length values) 2 count) found-write
found-of rows.WriteRange values command named count = absurd (cc named)
found-of rows.WriteRest values command named count = absurd (cc named)
found-of rows.ExitXip values command named count =
    of-none (Found rows.ExitXip) values (eqb-true (length values) 0 count) found-exit
found-of rows.EnterXip values command named count =
    of-none (Found rows.EnterXip) values (eqb-true (length values) 0 count) found-enter
found-of rows.RebootNormal values command named count =
    of-one (Found rows.RebootNormal) values (eqb-true (length values) 1 count) found-normal
found-of rows.RebootBootsel values command named count =
    of-one (Found rows.RebootBootsel) values (eqb-true (length values) 1 count) found-bootsel
found-of rows.RebootUpdate values command named count =
    of-one (Found rows.RebootUpdate) values (eqb-true (length values) 1 count) found-update
found-of rows.RebootRam values command named count =
    of-one (Found rows.RebootRam) values (eqb-true (length values) 1 count) found-ram
found-of rows.OtpRead values command named count =
    of-two (Found rows.OtpRead) values (eqb-true (length values) 2 count) found-otp_read
found-of rows.OtpWrite values command named count = found-otp_write values count
found-of rows.InfoTable values command named count =
    of-two (Found rows.InfoTable) values (eqb-true (length values) 2 count) found-table
found-of rows.InfoTarget values command named count =
    of-two (Found rows.InfoTarget) values (eqb-true (length values) 2 count) found-target
found-of rows.InfoDevice values command named count =
    of-two (Found rows.InfoDevice) values (eqb-true (length values) 2 count) found-device
found-of rows.InfoPartition values command named count =
    of-two (Found rows.InfoPartition) values (eqb-true (length values) 2 count) found-partition
found-of rows.Block values command named count = absurd (cc command)
found-of rows.ImageBlock values command named count = absurd (cc command)
found-of rows.RawCommand values command named count = absurd (cc command)
found-of rows.RawPayload values command named count = absurd (cc command)
found-of rows.RawBlock values command named count = absurd (cc command)
found-of rows.End values command named count = absurd (cc command)

-- ---- UF2 blocks

take-whole : (xs ys : List ℕ) (n : ℕ) → length xs ≡ n → take n (xs ++ ys) ≡ xs
take-whole xs ys n long = rw (← long) (take-append_seam xs ys)

behind-header : (b : Block) → drop 32 (written_block b) ≡ b.page ++ (replicate 220 0 ++ blocks.word_bytes LAST)
unfolding written_block blocks.word_bytes
behind-header b = refl

page-back : (b : Block) → length b.page ≡ 256 → slice_range (written_block b) 32 288 ≡ b.page
page-back b long = ap (take 256) (behind-header b) ∙ take-whole b.page _ 256 long

address-back : (b : Block) → b.address < 2 ^ 32 → word_at (written_block b) 12 ≡ b.address
unfolding written_block blocks.word_bytes
address-back b small = little_number-reads_back 4 b.address [] small

number-back : (b : Block) → b.number < 2 ^ 32 → word_at (written_block b) 20 ≡ b.number
unfolding written_block blocks.word_bytes
number-back b small = little_number-reads_back 4 b.number [] small

count-back : (b : Block) → b.count < 2 ^ 32 → word_at (written_block b) 24 ≡ b.count
unfolding written_block blocks.word_bytes
count-back b small = little_number-reads_back 4 b.count [] small

family-back : (b : Block) → b.family < 2 ^ 32 → word_at (written_block b) 28 ≡ b.family
unfolding written_block blocks.word_bytes
family-back b small = little_number-reads_back 4 b.family [] small

same-block : (a b c d f g h i : ℕ) (p q : List ℕ) → a ≡ b → c ≡ d → f ≡ g → h ≡ i → p ≡ q
    → ◌≡◌ {A = Block} (record { flags = HAS_FAMILY; address = a; number = c; count = f; family = h; page = p })
    (record { flags = HAS_FAMILY; address = b; number = d; count = g; family = i; page = q })
same-block a b c d f g h i p q e1 e2 e3 e4 e5 = cc

fields-back : (address_is number count family : ℕ) (page : List ℕ) → address_is < 2 ^ 32 → number < 2 ^ 32
    → count < 2 ^ 32 → family < 2 ^ 32 → length page ≡ 256
    → block_fields (written_block (record {
      flags = HAS_FAMILY;
      address = address_is;
      number = number;
      count = count;
      family = family;
      page = page;
    })) ≡ record { flags = HAS_FAMILY; address = address_is; number = number; count = count; family = family; page = page }
fields-back address_is number count family page one two three four_is long =
    let b : Block = record {
      flags = HAS_FAMILY;
      address = address_is;
      number = number;
      count = count;
      family = family;
      page = page;
    } in
    same-block _ _ _ _ _ _ _ _ _ _ (address-back b one) (number-back b two) (count-back b three) (family-back b four_is)
    (page-back b long)

block-back : (b : Block) → block_fields (written_block b) ≡ b
    → block_line (written_block b) ≡ said rows.Block (block_values b) None
block-back b fields =
    ap (λ x. if bytes_eq (written_block x) (written_block b) then said rows.Block (block_values x) None
    else said rows.RawBlock (Bytes (written_block b) ∷ []) None) fields
    ∙ rw (same-bytes (written_block b)) refl

-- ---- what a form says

plain-of : (key : Keyword) (v : ValueView) → MaySay (forms.Is key) v → v ≡ Plain
plain-of key Plain may = refl
plain-of key (Number n) may = absurd may
plain-of key (Span a b) may = absurd may
plain-of key (Bytes bs) may = absurd may

record IsNumber (v : ValueView) : Type 0 where
  number : ℕ
  small : number < 2 ^ 32
  is : v ≡ Number number

number-of : (most : ℕ) (v : ValueView) → MaySay (forms.Number most) v → IsNumber v
number-of most (Number n) may = record { number = n; small = may.1; is = refl }
number-of most Plain may = absurd may
number-of most (Span a b) may = absurd may
number-of most (Bytes bs) may = absurd may

hex-of : (v : ValueView) → MaySay forms.Hex v → IsNumber v
hex-of (Number n) may = record { number = n; small = may; is = refl }
hex-of Plain may = absurd may
hex-of (Span a b) may = absurd may
hex-of (Bytes bs) may = absurd may

family-of : (v : ValueView) → MaySay forms.Family v → IsNumber v
family-of (Number n) may = record { number = n; small = may; is = refl }
family-of Plain may = absurd may
family-of (Span a b) may = absurd may
family-of (Bytes bs) may = absurd may

record ArePage (v : ValueView) : Type 0 where
  page : List ℕ
  long : length page ≡ 256
  is : v ≡ Bytes page

page-of : (v : ValueView) → MaySay (forms.Bytes 256 256) v → ArePage v
page-of (Bytes bs) may = record { page = bs; long = omega (arith, may.1, may.2); is = refl }
page-of Plain may = absurd may
page-of (Number n) may = absurd may
page-of (Span a b) may = absurd may

-- ---- records that are no command

abbrev IsBack : ℕ → Row → List ValueView → Type 0
IsBack next row values = line_of next (made_plain row values) ≡ said row values None

abbrev Back : ℕ → Row → List ValueView → Type 0
Back next row values = MaySayAll row 0 values → IsBack next row values

back-normal : (next : ℕ) (v : ValueView) → Back next rows.ResetNormal (v ∷ [])
back-normal next v may = ap (λ x. said rows.ResetNormal (x ∷ []) None) (sym (plain-of keys.Normal v may.0))

back-bootsel : (next : ℕ) (v : ValueView) → Back next rows.ResetBootsel (v ∷ [])
back-bootsel next v may = ap (λ x. said rows.ResetBootsel (x ∷ []) None) (sym (plain-of keys.Bootsel v may.0))

back-update : (next : ℕ) (v : ValueView) → Back next rows.ResetUpdate (v ∷ [])
back-update next (Number n) may = refl
back-update next Plain may = absurd may.0
back-update next (Span a b) may = absurd may.0
back-update next (Bytes bs) may = absurd may.0

back-before : (next : ℕ) (v w : ValueView) → Back next rows.CutBefore (v ∷ w ∷ [])
back-before next (Number n) w may =
    ap (λ x. said rows.CutBefore (Number n ∷ (x ∷ [])) None) (sym (plain-of keys.Before w may.1.0))
back-before next Plain w may = absurd may.0
back-before next (Span a b) w may = absurd may.0
back-before next (Bytes bs) w may = absurd may.0

back-within : (next : ℕ) (v w x : ValueView) → Back next rows.CutWithin (v ∷ w ∷ x ∷ [])
back-within next (Number n) w (Bytes bs) may =
    ap (λ y. said rows.CutWithin (Number n ∷ (y ∷ (Bytes bs ∷ []))) None) (sym (plain-of keys.Within w may.1.0))
back-within next (Number n) w Plain may = absurd may.1.1.0
back-within next (Number n) w (Number m) may = absurd may.1.1.0
back-within next (Number n) w (Span a b) may = absurd may.1.1.0
back-within next Plain w x may = absurd may.0
back-within next (Span a b) w x may = absurd may.0
back-within next (Bytes bs) w x may = absurd may.0

back-numbers : (next number count address_is family : ℕ) (page : List ℕ) → number < 2 ^ 32 → count < 2 ^ 32
    → address_is < 2 ^ 32 → family < 2 ^ 32 → length page ≡ 256
    → IsBack next rows.Block (Number number ∷ (Plain ∷ (Number count ∷ (Plain ∷ (Number address_is
    ∷ (Number family ∷ (Bytes page ∷ [])))))))
back-numbers next number count address_is family page one two three four_is long =
    let b : Block = record {
      flags = HAS_FAMILY;
      address = address_is;
      number = number;
      count = count;
      family = family;
      page = page;
    } in
    ap (λ p. block_line (written_block (record {
      flags = HAS_FAMILY;
      address = address_is;
      number = number;
      count = count;
      family = family;
      page = p;
    }))) (page-whole page long)
    ∙ block-back b (fields-back address_is number count family page three one two four_is long)

back-block : (next : ℕ) (a b c d e f g : ValueView)
    → Back next rows.Block (a ∷ (b ∷ (c ∷ (d ∷ (e ∷ (f ∷ (g ∷ [])))))))
back-block next a b c d e f g may =
    let first = number-of 0xffffffff a may.0 in
    let of_is = plain-of keys.Of b may.1.0 in
    let second = number-of 0xffffffff c may.1.1.0 in
    let at_is = plain-of keys.At d may.1.1.1.0 in
    let third = hex-of e may.1.1.1.1.0 in
    let fourth = family-of f may.1.1.1.1.1.0 in
    let fifth = page-of g may.1.1.1.1.1.1.0 in
    subst (IsBack next rows.Block)
    (seven _ _ _ _ _ _ _ a b c d e f g (sym first.is) (sym of_is) (sym second.is) (sym at_is) (sym third.is)
    (sym fourth.is) (sym fifth.is))
    (back-numbers next first.number second.number third.number fourth.number fifth.page first.small second.small
    third.small fourth.small fifth.long)
  where
    seven : (a b c d e f g h i j k l m n : ValueView) → a ≡ h → b ≡ i → c ≡ j → d ≡ k → e ≡ l → f ≡ m → g ≡ n
        → ◌≡◌ {A = List ValueView} (a ∷ (b ∷ (c ∷ (d ∷ (e ∷ (f ∷ (g ∷ []))))))) (h ∷ (i ∷ (j ∷ (k ∷ (l ∷ (m ∷ (n ∷ [])))))))
    seven a b c d e f g h i j k l m n e1 e2 e3 e4 e5 e6 e7 = cc

of-seven : (P : List ValueView → Type 0) (values : List ValueView) → length values ≡ 7
    → ((a b c d e f g : ValueView) → P (a ∷ (b ∷ (c ∷ (d ∷ (e ∷ (f ∷ (g ∷ [])))))))) → P values
of-seven P (a ∷ b ∷ c ∷ d ∷ e ∷ f ∷ g ∷ []) long h = h a b c d e f g
of-seven P [] long h = absurd (omega (arith, long))
of-seven P (a ∷ []) long h = absurd (omega (arith, long))
of-seven P (a ∷ b ∷ []) long h = absurd (omega (arith, long))
of-seven P (a ∷ b ∷ c ∷ []) long h = absurd (omega (arith, long))
of-seven P (a ∷ b ∷ c ∷ d ∷ []) long h = absurd (omega (arith, long))
of-seven P (a ∷ b ∷ c ∷ d ∷ e ∷ []) long h = absurd (omega (arith, long))
of-seven P (a ∷ b ∷ c ∷ d ∷ e ∷ f ∷ []) long h = absurd (omega (arith, long))
of-seven P (a ∷ b ∷ c ∷ d ∷ e ∷ f ∷ g ∷ i ∷ values) long h = absurd (omega (arith, long))

back-of : (next : ℕ) (row : Row) (values : List ValueView) → is_command row ≡ false → is_in_words row ≡ true
    → has_words row (length values) ≡ true → Back next row values
back-of next rows.Power values command named count =
    of-none (Back next rows.Power) values (eqb-true (length values) 0 count) (λ may. refl)
back-of next rows.ResetNormal values command named count =
    of-one (Back next rows.ResetNormal) values (eqb-true (length values) 1 count) (back-normal next)
back-of next rows.ResetBootsel values command named count =
    of-one (Back next rows.ResetBootsel) values (eqb-true (length values) 1 count) (back-bootsel next)
back-of next rows.ResetUpdate values command named count =
    of-one (Back next rows.ResetUpdate) values (eqb-true (length values) 1 count) (back-update next)
back-of next rows.CutBefore values command named count =
    of-two (Back next rows.CutBefore) values (eqb-true (length values) 2 count) (back-before next)
back-of next rows.CutWithin values command named count =
    of-three (Back next rows.CutWithin) values (eqb-true (length values) 3 count) (back-within next)
back-of next rows.Buy values command named count =
    of-none (Back next rows.Buy) values (eqb-true (length values) 0 count) (λ may. refl)
back-of next rows.Exclusive values command named count = absurd (cc command)
back-of next rows.Erase values command named count = absurd (cc command)
back-of next rows.Read values command named count = absurd (cc command)
back-of next rows.Write values command named count = absurd (cc command)
back-of next rows.WriteRange values command named count = absurd (cc command)
back-of next rows.WriteRest values command named count = absurd (cc command)
back-of next rows.ExitXip values command named count = absurd (cc command)
back-of next rows.EnterXip values command named count = absurd (cc command)
back-of next rows.RebootNormal values command named count = absurd (cc command)
back-of next rows.RebootBootsel values command named count = absurd (cc command)
back-of next rows.RebootUpdate values command named count = absurd (cc command)
back-of next rows.RebootRam values command named count = absurd (cc command)
back-of next rows.OtpRead values command named count = absurd (cc command)
back-of next rows.OtpWrite values command named count = absurd (cc command)
back-of next rows.InfoTable values command named count = absurd (cc command)
back-of next rows.InfoTarget values command named count = absurd (cc command)
back-of next rows.InfoDevice values command named count = absurd (cc command)
back-of next rows.InfoPartition values command named count = absurd (cc command)
back-of next rows.Block values command named count =
    of-seven (Back next rows.Block) values (eqb-true (length values) 7 count) (back-block next)
back-of next rows.ImageBlock values command named count = absurd (cc named)
back-of next rows.RawCommand values command named count = absurd (cc named)
back-of next rows.RawPayload values command named count = absurd (cc named)
back-of next rows.RawBlock values command named count = absurd (cc named)
back-of next rows.End values command named count =
    of-none (Back next rows.End) values (eqb-true (length values) 0 count) (λ may. refl)

-- ---- any line in words

told-is : (next : ℕ) (token : Option ℕ) → token ≢ Some next → told_token next (unwrap_or token next) ≡ token
told-is next None other = rw (eq-eqb next next refl) refl
told-is next (Some t) other = rw (ne_eqb t next (λ same. other (ap Some same))) refl

token-small : (row : Row) (next : ℕ) (token : Option ℕ) → next < 2 ^ 32 → HasToken row token
    → unwrap_or token next < 2 ^ 32
token-small row next None small has = small
token-small row next (Some t) small has = has.1

same-some : (e f : EventView) → ◌≡◌ {A = Option EventView} (Some e) (Some f) → e ≡ f
same-some e f same = cc same

in-words-named : (row : Row) → is_command row ≡ true → is_in_words row ≡ true → IsNamed row
in-words-named rows.Power command named = absurd (cc command)
in-words-named rows.ResetNormal command named = absurd (cc command)
in-words-named rows.ResetBootsel command named = absurd (cc command)
in-words-named rows.ResetUpdate command named = absurd (cc command)
in-words-named rows.CutBefore command named = absurd (cc command)
in-words-named rows.CutWithin command named = absurd (cc command)
in-words-named rows.Buy command named = absurd (cc command)
in-words-named rows.Exclusive command named = (refl, refl)
in-words-named rows.Erase command named = (refl, refl)
in-words-named rows.Read command named = (refl, refl)
in-words-named rows.Write command named = (refl, refl)
in-words-named rows.WriteRange command named = absurd (cc named)
in-words-named rows.WriteRest command named = absurd (cc named)
in-words-named rows.ExitXip command named = (refl, refl)
in-words-named rows.EnterXip command named = (refl, refl)
in-words-named rows.RebootNormal command named = (refl, refl)
in-words-named rows.RebootBootsel command named = (refl, refl)
in-words-named rows.RebootUpdate command named = (refl, refl)
in-words-named rows.RebootRam command named = (refl, refl)
in-words-named rows.OtpRead command named = (refl, refl)
in-words-named rows.OtpWrite command named = (refl, refl)
in-words-named rows.InfoTable command named = (refl, refl)
in-words-named rows.InfoTarget command named = (refl, refl)
in-words-named rows.InfoDevice command named = (refl, refl)
in-words-named rows.InfoPartition command named = (refl, refl)
in-words-named rows.Block command named = absurd (cc command)
in-words-named rows.ImageBlock command named = absurd (cc command)
in-words-named rows.RawCommand command named = absurd (cc command)
in-words-named rows.RawPayload command named = absurd (cc command)
in-words-named rows.RawBlock command named = absurd (cc command)
in-words-named rows.End command named = absurd (cc command)

made-bare : (row : Row) (values : List ValueView) (token : ℕ) (image : List ℕ) → is_command row ≡ false
    → is_in_words row ≡ true → made row values token image ≡ Some (made_plain row values)
made-bare rows.Power values token image command named = refl
made-bare rows.ResetNormal values token image command named = refl
made-bare rows.ResetBootsel values token image command named = refl
made-bare rows.ResetUpdate values token image command named = refl
made-bare rows.CutBefore values token image command named = refl
made-bare rows.CutWithin values token image command named = refl
made-bare rows.Buy values token image command named = refl
made-bare rows.Exclusive values token image command named = absurd (cc command)
made-bare rows.Erase values token image command named = absurd (cc command)
made-bare rows.Read values token image command named = absurd (cc command)
made-bare rows.Write values token image command named = absurd (cc command)
made-bare rows.WriteRange values token image command named = absurd (cc command)
made-bare rows.WriteRest values token image command named = absurd (cc command)
made-bare rows.ExitXip values token image command named = absurd (cc command)
made-bare rows.EnterXip values token image command named = absurd (cc command)
made-bare rows.RebootNormal values token image command named = absurd (cc command)
made-bare rows.RebootBootsel values token image command named = absurd (cc command)
made-bare rows.RebootUpdate values token image command named = absurd (cc command)
made-bare rows.RebootRam values token image command named = absurd (cc command)
made-bare rows.OtpRead values token image command named = absurd (cc command)
made-bare rows.OtpWrite values token image command named = absurd (cc command)
made-bare rows.InfoTable values token image command named = absurd (cc command)
made-bare rows.InfoTarget values token image command named = absurd (cc command)
made-bare rows.InfoDevice values token image command named = absurd (cc command)
made-bare rows.InfoPartition values token image command named = absurd (cc command)
made-bare rows.Block values token image command named = refl
made-bare rows.ImageBlock values token image command named = absurd (cc named)
made-bare rows.RawCommand values token image command named = absurd (cc named)
made-bare rows.RawPayload values token image command named = absurd (cc named)
made-bare rows.RawBlock values token image command named = absurd (cc named)
made-bare rows.End values token image command named = refl

no-token : (row : Row) (token : Option ℕ) → is_command row ≡ false → HasToken row token → token ≡ None
no-token row None command has = refl
no-token row (Some t) command has = absurd (cc (sym has.0 ∙ command))

pub line-named : (next : ℕ) (line : LineView) (e : EventView) (image : List ℕ) → next < 2 ^ 32
    → is_in_words line.row ≡ true → IsLine line → line.token ≢ Some next
    → made line.row line.values (unwrap_or line.token next) image ≡ Some e → line_of next e ≡ line
line-named next line e image small named is other gives = by_command (is_command line.row) refl
  where
    by_command : (t : Bool) → is_command line.row ≡ t → line_of next e ≡ line
    by_command true command =
        let token = unwrap_or line.token next in
        let few = token-small line.row next line.token small is.token in
        let made_is = made-named line.row line.values token image (in-words-named line.row command named) in
        ap (line_of next) (same-some e _ (sym gives ∙ made_is))
        ∙ named-line line.row line.values next token few is.count
        (found-of line.row line.values command named is.count is.values token)
        ∙ ap (λ o. said line.row line.values o) (told-is next line.token other)
    by_command false command =
        let token = unwrap_or line.token next in
        let made_is = made-bare line.row line.values token image command named in
        ap (line_of next) (same-some e _ (sym gives ∙ made_is))
        ∙ back-of next line.row line.values command named is.count is.values
        ∙ ap (λ o. said line.row line.values o) (sym (no-token line.row line.token command is.token))
