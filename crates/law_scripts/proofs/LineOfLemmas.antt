-- The line of an event is one that a text may have, and it gives the event.
use Rattle.std.proofs.Common.{◌≡◌, ℕ, zero, suc, ◌+◌, ◌-◌, ◌/◌, ◌%◌, ◌^◌, ◌<◌, ◌≤◌, ◌==◌, Bool, true, false, List, [], ◌∷◌, ◌++◌, length, take, drop, map, replicate, Option, Some, None, refl, sym, ap, subst, ◌∙◌, arith, append-nil, length-drop}
use Rattle.std.specs.Prelude.{Result, Ok, Err, IfSome, if◌then◌else◌, ◌&&◌, bytes_eq, nat_le, nat_lt, unwrap_or}
use Rattle.std.proofs.lemmas.Bool.{and_parts, eq-eqb, leb-true, ltb-true}
use Rattle.std.proofs.lemmas.List.{take_all}
use Rattle.byteorder.specs.Endian.{little_number}
use Rattle.byteorder.specs.Numbers.{little_from-lt}
use Rattle.hex.specs.Hex.{IsBytes}
use Rattle.text_words.proofs.BytesLemmas.{same-text}
use Rattle.block_codec.specs.Words.{AreWords, words_of}
use Rattle.block_codec.proofs.WordLemmas.{AreBytes-drop, AreBytes-take, word_of-lt}
use Rattle.pico_board.specs.Cuts.{IsPattern}
use Rattle.pico_board.specs.declared.boot.BootKind.{BootKind}
use Rattle.pico_board.specs.declared.boot.BootKind.TheVariants.{Normal, Bootsel, Update}
use Rattle.picoboot_cmd.specs.declared.cmd.Cmd.{Cmd}
use Rattle.picoboot_cmd.specs.declared.cmd.CmdFault.{CmdFault}
use Rattle.picoboot_cmd.specs.declared.cmd.CmdFault.TheVariants.{Magic}
use Rattle.picoboot_cmd.specs.declared.kinds.TheConstants.{MAGIC}
use Rattle.picoboot_cmd.specs.Arguments.{address, size, reboot_p0, reboot_p1}
use Rattle.picoboot_cmd.specs.Commands.{command_fields, command_in}
use Rattle.uf2_place.specs.Blocks.{word_at, written_block}
use Rattle.boot_script.specs.Events.{EventView, End, Command, Uf2, Cut, PowerOn, Reset, Buy, base_of}
use Rattle.script_words.specs.declared.forms.Form.TheVariants as forms
use Rattle.script_words.specs.declared.rows.Row.{Row}
use Rattle.script_words.specs.declared.rows.Row.TheVariants as rows
use Rattle.script_words.specs.Rows.{form_at, has_words, is_command}
use Rattle.script_words.specs.Values.{LineView, ValueView, Number, Bytes, said}
use Rattle.script_words.specs.Made.{array_at, block_of, made, page_of}
use Rattle.script_words.specs.Naming.{block_fields, block_line, block_values, command_line, command_values, cut_line, fit_from, line_of, named_command, or_line, page_in, raw_command, reset_line, told_token}
use Rattle.script_words.specs.Saying.{HasToken, IsEvent, IsLine, MaySay, MaySayAll}
use Rattle.law_scripts.specs.Listed.{is_listed}
use Rattle.law_scripts.proofs.NamedBackLemmas.{IsNamed, named-gives, named-of, row-named}

-- what a line says, and the event that it gives behind whatever came before
pub record Says (next : ℕ) (e : EventView) (line : LineView) : Type 0 where
  pub is : IsLine line
  pub listed : is_listed line.row ≡ true
  pub gives : (image : List ℕ) → made line.row line.values (unwrap_or line.token next) image ≡ Some e

-- ---- words and bytes

word-small : (bs : List ℕ) → IsBytes bs → little_number 4 bs < 2 ^ 32
word-small bs are = little_from-lt 0 4 bs are

later-small : (n : ℕ) (bs : List ℕ) → IsBytes bs → little_number 4 (drop n bs) < 2 ^ 32
later-small n bs are = word-small (drop n bs) (AreBytes-drop n bs are)

pub words-small : (bs : List ℕ) → IsBytes bs → AreWords (words_of bs)
words-small [] are = tt
words-small (a ∷ []) are = tt
words-small (a ∷ b ∷ []) are = tt
words-small (a ∷ b ∷ c ∷ []) are = tt
words-small (a ∷ b ∷ c ∷ d ∷ rest) are = (
  word_of-lt (a ∷ b ∷ c ∷ d ∷ []) (AreBytes-take 4 (a ∷ b ∷ c ∷ d ∷ rest) are),
  words-small rest (λ i. are (suc (suc (suc (suc i))))),
)

-- ---- resets and cuts

reset-says : (next : ℕ) (kind : BootKind) → base_of kind < 2 ^ 32 → Says next (Reset kind) (reset_line kind)
reset-says next Normal small = record {
  is = record { count = refl; values = (tt, tt); token = tt };
  listed = refl;
  gives = λ image. refl;
}
reset-says next Bootsel small = record {
  is = record { count = refl; values = (tt, tt); token = tt };
  listed = refl;
  gives = λ image. refl;
}
reset-says next (Update base) small = record {
  is = record { count = refl; values = (small, tt); token = tt };
  listed = refl;
  gives = λ image. refl;
}

any-number : (n : ℕ) → n < 2 ^ 32 → (n ≤ 0xffffffff) × (n < 2 ^ 32)
any-number n small = (omega arith, small)

cut-says : (next left : ℕ) (within : Bool) (pattern : List ℕ) → left < 2 ^ 32 → IsPattern within pattern
    → IsBytes pattern → Says next (Cut left within pattern) (cut_line left within pattern)
cut-says next left false [] small fits are = record {
  is = record { count = refl; values = (any-number left small, (tt, tt)); token = tt };
  listed = refl;
  gives = λ image. refl;
}
cut-says next left false (b ∷ pattern) small fits are = absurd (cc fits)
cut-says next left true pattern small fits are = record {
  is = record {
    count = refl;
    values = (any-number left small, (tt, ((are, fits.0, fits.1), tt)));
    token = tt;
  };
  listed = refl;
  gives = λ image. refl;
}

-- ---- UF2 blocks

take-long : (n : ℕ) (xs : List ℕ) → n ≤ length xs → length (take n xs) ≡ n
take-long zero xs few = refl
take-long (suc n) [] few = absurd (omega (arith, few))
take-long (suc n) (x ∷ xs) few = ap suc (take-long n xs (omega (arith, few)))

pub page-long : (bytes : List ℕ) → length bytes ≡ 512 → length (page_in bytes) ≡ 256
page-long bytes long = take-long 256 (drop 32 bytes) (omega (arith, length-drop 32 bytes, long))

pub page-whole : (page : List ℕ) → length page ≡ 256 → page_of page ≡ page
page-whole page long =
    ap (λ n. take 256 page ++ replicate (256 - n) 255) long
    ∙ append-nil (take 256 page) ∙ take_all 256 page (omega (arith, long))

page-bytes : (bytes : List ℕ) → IsBytes bytes → IsBytes (page_in bytes)
page-bytes bytes are = AreBytes-take 256 (drop 32 bytes) (AreBytes-drop 32 bytes are)

block-named : (next : ℕ) (bytes : List ℕ) → length bytes ≡ 512 → IsBytes bytes
    → written_block (block_fields bytes) ≡ bytes
    → Says next (Uf2 bytes) (said rows.Block (block_values (block_fields bytes)) None)
block-named next bytes long are same = record {
  is = record {
    count = refl;
    values = (
      any-number (word_at bytes 20) (later-small 20 bytes are),
      (
        tt,
        (
          any-number (word_at bytes 24) (later-small 24 bytes are),
          (
            tt,
            (
              later-small 12 bytes are,
              (
                later-small 28 bytes are,
                ((page-bytes bytes are, omega (arith, page-long bytes long), omega (arith, page-long bytes long)), tt),
              ),
            ),
          ),
        ),
      ),
    );
    token = tt;
  };
  listed = refl;
  gives = λ image. ap (λ page. Some (Uf2 (written_block (block_of (block_values (block_fields bytes)) page))))
      (page-whole (page_in bytes) (page-long bytes long))
      ∙ ap (λ b. Some (Uf2 b)) same;
}

array-whole : (n : ℕ) (bytes : List ℕ) (more : List ValueView) → length bytes ≡ n
    → array_at n (Bytes bytes ∷ more) ≡ bytes
array-whole n bytes more long = rw (eq-eqb (length bytes) n long) refl

block-raw : (next : ℕ) (bytes : List ℕ) → length bytes ≡ 512 → IsBytes bytes
    → Says next (Uf2 bytes) (said rows.RawBlock (Bytes bytes ∷ []) None)
block-raw next bytes long are = record {
  is = record {
    count = refl;
    values = ((are, omega (arith, long), omega (arith, long)), tt);
    token = tt;
  };
  listed = refl;
  gives = λ image. ap (λ b. Some (Uf2 b)) (array-whole 512 bytes [] long);
}

block-says : (next : ℕ) (bytes : List ℕ) → length bytes ≡ 512 → IsBytes bytes
    → Says next (Uf2 bytes) (block_line bytes)
block-says next bytes long are = by_same (bytes_eq (written_block (block_fields bytes)) bytes) refl
  where
    by_same : (t : Bool) → bytes_eq (written_block (block_fields bytes)) bytes ≡ t
        → Says next (Uf2 bytes) (if t then said rows.Block (block_values (block_fields bytes)) None
        else said rows.RawBlock (Bytes bytes ∷ []) None)
    by_same true same = block-named next bytes long are (same-text (written_block (block_fields bytes)) bytes same)
    by_same false other = block-raw next bytes long are

-- ---- commands by their bytes

raw-says : (next : ℕ) (command payload : List ℕ) → length command ≡ 32 → length payload < 2 ^ 32
    → IsBytes command → IsBytes payload → Says next (Command command payload) (raw_command command payload)
raw-says next command [] long short are all = record {
  is = record {
    count = refl;
    values = ((are, omega (arith, long), omega (arith, long)), tt);
    token = tt;
  };
  listed = refl;
  gives = λ image. ap (λ c. Some (Command c [])) (array-whole 32 command [] long);
}
raw-says next command (b ∷ payload) long short are all = record {
  is = record {
    count = refl;
    values = (
      (are, omega (arith, long), omega (arith, long)),
      ((all, omega arith, omega (arith, short)), tt),
    );
    token = tt;
  };
  listed = refl;
  gives = λ image. ap (λ c. Some (Command c (b ∷ payload)))
      (array-whole 32 command (Bytes (b ∷ payload) ∷ []) long);
}

-- ---- commands in words

record HasWords (cmd : Cmd) : Type 0 where
  token : cmd.token < 2 ^ 32
  transfer : cmd.transfer < 2 ^ 32
  address_is : address cmd < 2 ^ 32
  size_is : size cmd < 2 ^ 32
  p0 : reboot_p0 cmd < 2 ^ 32
  p1 : reboot_p1 cmd < 2 ^ 32

fields-small : (command : List ℕ) → IsBytes command → HasWords (command_fields command)
fields-small command are =
    let args = AreBytes-drop 16 command are in record {
      token = later-small 4 command are;
      transfer = later-small 12 command are;
      address_is = word-small (drop 16 command) args;
      size_is = later-small 4 (drop 16 command) args;
      p0 = later-small 8 (drop 16 command) args;
      p1 = later-small 12 (drop 16 command) args;
    }

fields-read : (t : Bool) (fields cmd : Cmd)
    → ◌≡◌ {A = Result Cmd CmdFault} (if t then Ok fields else Err Magic) (Ok cmd) → fields ≡ cmd
fields-read true fields cmd same = cc same
fields-read false fields cmd same = cc same

command-small : (command : List ℕ) (cmd : Cmd) → IsBytes command → command_in command ≡ Ok cmd → HasWords cmd
command-small command cmd are reads =
    subst HasWords (fields-read (little_number 4 command == MAGIC) (command_fields command) cmd reads)
    (fields-small command are)

hex-next : (k : ℕ) → form_at rows.OtpWrite (suc k) ≡ forms.Hex
hex-next zero = refl
hex-next (suc k) = refl

pub hex-form : (k : ℕ) → form_at rows.OtpWrite (k + 1) ≡ forms.Hex
hex-form k = let e : k + 1 ≡ suc k = omega arith in ap (λ n. form_at rows.OtpWrite n) e ∙ hex-next k

rows-may : (k : ℕ) (ws : List ℕ) → AreWords ws → MaySayAll rows.OtpWrite (k + 1) (map Number ws)
rows-may k [] are = tt
rows-may k (w ∷ ws) are =
    (subst (λ form. MaySay form (Number w)) (sym (hex-form k)) are.0, rows-may (k + 1) ws are.1)

-- a value that fits its form, and then the others
first-fit : (t u : Bool) → (t && u) ≡ true → t ≡ true
first-fit true u is = refl
first-fit false u is = absurd (cc is)

rest-fit : (t u : Bool) → (t && u) ≡ true → u ≡ true
rest-fit true u is = is
rest-fit false u is = absurd (cc is)

sized-may : (least most : ℕ) (bytes : List ℕ) → IsBytes bytes
    → (nat_le least (length bytes) && nat_le (length bytes) most) ≡ true
    → MaySay (forms.Bytes least most) (Bytes bytes)
sized-may least most bytes are fit = (
  are,
  leb-true least (length bytes) (first-fit (nat_le least (length bytes)) _ fit),
  leb-true (length bytes) most (rest-fit (nat_le least (length bytes)) _ fit),
)

named-may : (row : Row) (cmd : Cmd) (payload : List ℕ) → IsNamed row → HasWords cmd → IsBytes payload
    → fit_from row 0 (command_values row cmd payload) ≡ true
    → MaySayAll row 0 (command_values row cmd payload)
named-may rows.Power cmd payload named has are fit = tt
named-may rows.ResetNormal cmd payload named has are fit = tt
named-may rows.ResetBootsel cmd payload named has are fit = tt
named-may rows.ResetUpdate cmd payload named has are fit = tt
named-may rows.CutBefore cmd payload named has are fit = tt
named-may rows.CutWithin cmd payload named has are fit = tt
named-may rows.Buy cmd payload named has are fit = tt
named-may rows.Exclusive cmd payload named has are fit =
    ((leb-true (address cmd) 255 (first-fit (nat_le (address cmd) 255) true fit), has.address_is), tt)
named-may rows.Erase cmd payload named has are fit = ((has.address_is, has.size_is), tt)
named-may rows.Read cmd payload named has are fit = ((has.address_is, has.size_is), tt)
named-may rows.Write cmd payload named has are fit =
    (has.address_is, (sized-may 1 0xffffffff payload are (first-fit _ true fit), tt))
named-may rows.WriteRange cmd payload named has are fit = tt
named-may rows.WriteRest cmd payload named has are fit = tt
named-may rows.ExitXip cmd payload named has are fit = tt
named-may rows.EnterXip cmd payload named has are fit = tt
named-may rows.RebootNormal cmd payload named has are fit = (tt, tt)
named-may rows.RebootBootsel cmd payload named has are fit = (tt, tt)
named-may rows.RebootUpdate cmd payload named has are fit = (has.p0, tt)
named-may rows.RebootRam cmd payload named has are fit = ((has.p0, has.p1), tt)
named-may rows.OtpRead cmd payload named has are fit =
    let row_is = address cmd % 65536 in
    let count = address cmd / 65536 in (
      ltb-true row_is 4096 (first-fit (nat_lt row_is 4096) _ fit),
      (
        (
          leb-true count 65535 (first-fit (nat_le count 65535) true (rest-fit (nat_lt row_is 4096) _ fit)),
          omega (arith, has.address_is),
        ),
        tt,
      ),
    )
named-may rows.OtpWrite cmd payload named has are fit =
    let row_is = address cmd % 65536 in (
      ltb-true row_is 4096 (first-fit (nat_lt row_is 4096) _ fit),
      rows-may 0 (words_of payload) (words-small payload are),
    )
named-may rows.InfoTable cmd payload named has are fit = (tt, (any-number cmd.transfer has.transfer, tt))
named-may rows.InfoTarget cmd payload named has are fit =
    (has.size_is, (any-number cmd.transfer has.transfer, tt))
named-may rows.InfoDevice cmd payload named has are fit = (tt, (any-number cmd.transfer has.transfer, tt))
named-may rows.InfoPartition cmd payload named has are fit =
    (has.size_is, (any-number cmd.transfer has.transfer, tt))
named-may rows.Block cmd payload named has are fit = tt
named-may rows.ImageBlock cmd payload named has are fit = tt
named-may rows.RawCommand cmd payload named has are fit = tt
named-may rows.RawPayload cmd payload named has are fit = tt
named-may rows.RawBlock cmd payload named has are fit = tt
named-may rows.End cmd payload named has are fit = tt

token-may : (row : Row) (next token : ℕ) → is_command row ≡ true → token < 2 ^ 32
    → HasToken row (told_token next token)
token-may row next token named small = by_same (token == next)
  where
    by_same : (t : Bool) → HasToken row (if t then None else Some token)
    by_same true = tt
    by_same false = (named, small)

named-says : (next : ℕ) (command payload : List ℕ) (line : LineView) → IsBytes command → IsBytes payload
    → named_command next command payload ≡ Some line → Says next (Command command payload) line
named-says next command payload line are all is =
    let n = named-of next command payload line is in
    let values = command_values n.row n.cmd payload in
    let named : IsNamed n.row = subst (λ (o : Option Row). IfSome o IsNamed) n.of_row (row-named n.cmd) in
    let has = command-small command n.cmd are n.reads in
    let fit = and_parts (has_words n.row (length values)) (fit_from n.row 0 values) n.fit in
    let line_is : IsLine (said n.row values (told_token next n.cmd.token)) = record {
      count = fit.0;
      values = named-may n.row n.cmd payload named has all fit.1;
      token = token-may n.row next n.cmd.token named.0 has.token;
    } in record {
      is = subst IsLine (sym n.is) line_is;
      listed = ap (λ (l : LineView). is_listed l.row) n.is ∙ named.1;
      gives = λ image. named-gives next command payload image line is;
    }

command-says : (next : ℕ) (command payload : List ℕ) → length command ≡ 32 → length payload < 2 ^ 32
    → IsBytes command → IsBytes payload → Says next (Command command payload) (command_line next command payload)
command-says next command payload long short are all = by_named (named_command next command payload) refl
  where
    by_named : (o : Option LineView) → named_command next command payload ≡ o
        → Says next (Command command payload) (or_line o (raw_command command payload))
    by_named None is = raw-says next command payload long short are all
    by_named (Some line) is = named-says next command payload line are all is

-- the line of an event may be said, takes no bytes of an image, and gives the event
pub line-says : (next : ℕ) (e : EventView) → IsEvent e → Says next e (line_of next e)
line-says next End event = record {
  is = record { count = refl; values = tt; token = tt };
  listed = refl;
  gives = λ image. refl;
}
line-says next (Command command payload) event =
    command-says next command payload event.well.0 event.well.1 event.bytes.0 event.bytes.1
line-says next (Uf2 block) event = block-says next block event.well event.bytes
line-says next (Cut left within pattern) event =
    cut-says next left within pattern event.well.0 event.well.1 event.bytes
line-says next PowerOn event = record {
  is = record { count = refl; values = tt; token = tt };
  listed = refl;
  gives = λ image. refl;
}
line-says next (Reset kind) event = reset-says next kind event.well
line-says next Buy event = record {
  is = record { count = refl; values = tt; token = tt };
  listed = refl;
  gives = λ image. refl;
}
