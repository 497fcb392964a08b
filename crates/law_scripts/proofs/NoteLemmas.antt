-- Comments have no line feed.
use Rattle.std.proofs.Common.{◌≡◌, ℕ, zero, suc, ◌-◌, ◌/◌, ◌%◌, ◌^◌, ◌≤◌, ◌==◌, Bool, true, false, List, [], ◌∷◌, ◌++◌, length, replicate, refl, ap, ◌∙◌, arith, inl, inr, decimal}
use Rattle.std.specs.Prelude.{Result, Ok, Err, if◌then◌else◌, ◌&&◌, ◌||◌, codes, drop, slice_index}
use Rattle.std.specs.Fmt.{digits, digits_onto, digit_glyph, padded_integral, format_spec}
use Rattle.std.proofs.lemmas.Bool.{cases_lt, ne_eqb, lt-ltb, le-ltb}
use Rattle.text_words.specs.Writing.{hex_digits, hex_row, hex_word}
use Rattle.text_words.proofs.HexLemmas.{padded_filled}
use Rattle.boot_script.specs.Events.{EventView, End, Command, Uf2, Cut, PowerOn, Reset, Buy}
use Rattle.byteorder.specs.Endian.{little_number}
use Rattle.picoboot_cmd.specs.declared.cmd.Cmd.{Cmd}
use Rattle.picoboot_cmd.specs.declared.cmd.CmdFault.TheVariants as cmd_fault
use Rattle.picoboot_cmd.specs.declared.kinds.TheConstants.{EXCLUSIVE, ERASE, READ, WRITE, EXIT_XIP, ENTER_XIP, MAGIC, REBOOT, OTP_READ, OTP_WRITE}
use Rattle.picoboot_cmd.specs.Arguments.{address, size, reboot_flags, reboot_p0, reboot_p1, first_row, row_count, ecc}
use Rattle.picoboot_cmd.specs.Commands.{command_fields}
use Rattle.info_reply.specs.declared.kinds.TheConstants.{INFO, INFO_SIZE, TABLE, TARGET, DEVICE, PARTITION}
use Rattle.uf2_place.specs.declared.block.Uf2.{Uf2 as Block}
use Rattle.uf2_place.specs.declared.block.Uf2Fault.{Uf2Fault}
use Rattle.uf2_place.specs.declared.block.Uf2Fault.TheVariants.{Magic, Payload, Alignment, Number}
use Rattle.uf2_place.specs.Blocks.{uf2_of}
use Rattle.script_words.proofs.MarkLemmas.{free-append, is_free, is_other}
use Rattle.script_words.specs.Spelling.{range_text}
use Rattle.script_text.specs.Comments.{action_text, command_text, info_text, note_of, read_command_text, read_uf2_text, reboot_text, rows_text, uf2_counts, uf2_target, uf2_text}
use Rattle.script_text.specs.Listing.{comment_text}

glyph-high : (d : ℕ) → 48 ≤ digit_glyph false d
glyph-high d = elim (cases_lt d 10) [
  | inl low ↦ rw (lt-ltb d 10 low) (omega arith)
  | inr high ↦ rw (le-ltb d 10 high) (omega arith)
]

glyph-other : (d : ℕ) → is_other 10 (digit_glyph false d) ≡ true
glyph-other d = let high = glyph-high d in rw (ne_eqb (digit_glyph false d) 10 (omega arith)) refl

free-if : (b : Bool) (x y : List ℕ) → is_free 10 x ≡ true → is_free 10 y ≡ true
    → is_free 10 (if b then x else y) ≡ true
free-if true x y first second = first
free-if false x y first second = second

free-glyph : (d : ℕ) (acc : List ℕ) → is_free 10 acc ≡ true → is_free 10 (digit_glyph false d ∷ acc) ≡ true
free-glyph d acc free = rw (glyph-other d) free

onto-free : (fuel base n : ℕ) (acc : List ℕ) → is_free 10 acc ≡ true
    → is_free 10 (digits_onto fuel base false n acc) ≡ true
onto-free zero base n acc free = free
onto-free (suc fuel) base n acc free =
    let more = free-glyph (n % base) acc free in
    free-if (n / base == 0) (digit_glyph false (n % base) ∷ acc)
    (digits_onto fuel base false (n / base) (digit_glyph false (n % base) ∷ acc)) more
    (onto-free fuel base (n / base) (digit_glyph false (n % base) ∷ acc) more)

digits_fuel : (base n : ℕ) → digits base false n ≡ digits_onto 64 base false n []
unfolding digits
digits_fuel base n = refl

digits-free : (base n : ℕ) → is_free 10 (digits base false n) ≡ true
digits-free base n = ap (λ ds. is_free 10 ds) (digits_fuel base n) ∙ onto-free 64 base n [] refl

pub free-decimal : (n : ℕ) → is_free 10 (decimal n) ≡ true
free-decimal n = digits-free 10 n

free-zeros : (k : ℕ) → is_free 10 (replicate k 48) ≡ true
free-zeros zero = refl
free-zeros (suc k) = free-zeros k

-- padding as `{:03x}` does it
free-padded : (width : ℕ) (ds : List ℕ) → is_free 10 ds ≡ true
    → is_free 10 (padded_integral (format_spec 32 0 4 width (2 ^ 64 - 1)) false [] ds) ≡ true
free-padded width ds free =
    ap (λ t. is_free 10 t) (padded_filled width ds)
    ∙ free-append 10 (replicate (width - length ds) 48) ds (free-zeros (width - length ds)) free

free-hex : (width n : ℕ) → is_free 10 (hex_digits width n) ≡ true
free-hex width n = free-padded width (digits 16 false n) (digits-free 16 n)

free-word : (n : ℕ) → is_free 10 (hex_word n) ≡ true
free-word n = free-hex 8 n

-- ---- comments

free-range : (start size : ℕ) → is_free 10 (range_text start size) ≡ true
free-range start size =
    free-append 10 (hex_word start) (codes "+" ++ hex_word size) (free-word start) (free-word size)

free-row : (n : ℕ) → is_free 10 (hex_row n) ≡ true
free-row n = free-hex 3 n

free-rows : (cmd : Cmd) → is_free 10 (rows_text cmd) ≡ true
free-rows cmd =
    free-append 10 (hex_row (first_row cmd)) _ (free-row (first_row cmd))
    (free-append 10 (decimal (row_count cmd)) _ (free-decimal (row_count cmd)) (free-decimal (ecc cmd)))

free-reboot : (cmd : Cmd) → is_free 10 (reboot_text cmd) ≡ true
free-reboot cmd =
    free-if (reboot_flags cmd == 0 || reboot_flags cmd == 0x100) _ _ refl
    (free-if (reboot_flags cmd == 2 || reboot_flags cmd == 0x102) _ _ refl
    (free-if (reboot_flags cmd == 4 || reboot_flags cmd == 0x104) _ _ (free-word (reboot_p0 cmd))
    (free-if (reboot_flags cmd == 3 || reboot_flags cmd == 0x103) _ _ (free-range (reboot_p0 cmd) (reboot_p1 cmd))
    (free-word (reboot_flags cmd)))))

free-info : (kind argument : ℕ) → is_free 10 (info_text kind argument) ≡ true
free-info kind argument =
    free-if (kind == TABLE) _ _ refl
    (free-if (kind == TARGET) _ _ (free-word argument)
    (free-if (kind == DEVICE) _ _ refl
    (free-if (kind == PARTITION) _ _ (free-decimal argument) (free-decimal kind))))

free-action : (cmd : Cmd) → is_free 10 (action_text cmd) ≡ true
free-action cmd =
    free-if (cmd.id == EXCLUSIVE && cmd.arg_size == 1) _ _ (free-decimal (slice_index cmd.args 0))
    (free-if (cmd.id == ERASE && cmd.arg_size == 8) _ _ (free-range (address cmd) (size cmd))
    (free-if (cmd.id == READ && cmd.arg_size == 8) _ _ (free-range (address cmd) (size cmd))
    (free-if (cmd.id == WRITE && cmd.arg_size == 8) _ _ (free-range (address cmd) (size cmd))
    (free-if (cmd.id == EXIT_XIP && cmd.arg_size == 0) _ _ refl
    (free-if (cmd.id == ENTER_XIP && cmd.arg_size == 0) _ _ refl
    (free-if (cmd.id == REBOOT && cmd.arg_size == 16) _ _ (free-reboot cmd)
    (free-if (cmd.id == OTP_READ && cmd.arg_size == 5) _ _ (free-rows cmd)
    (free-if (cmd.id == OTP_WRITE && cmd.arg_size == 5) _ _ (free-rows cmd)
    (free-if (cmd.id == INFO && cmd.arg_size == INFO_SIZE) _ _
    (free-info (slice_index cmd.args 0) (little_number 4 (drop 4 cmd.args)))
    (free-hex 2 cmd.id))))))))))

free-command : (command : List ℕ) → is_free 10 (command_text command) ≡ true
unfolding command_text
free-command command = by_magic (little_number 4 command == MAGIC)
  where
    by_magic : (t : Bool)
        → is_free 10 (read_command_text (if t then Ok (command_fields command) else Err cmd_fault.Magic)) ≡ true
    by_magic true =
        free-append 10 (action_text (command_fields command))
        (codes " token=" ++ hex_word (command_fields command).token)
        (free-action (command_fields command)) (free-word (command_fields command).token)
    by_magic false = refl

free-block : (r : Result Block Uf2Fault) → is_free 10 (read_uf2_text r) ≡ true
unfolding uf2_counts uf2_target
free-block (Ok block) =
    free-append 10 (decimal block.number ++ (codes " count=" ++ decimal block.count)) _
    (free-append 10 (decimal block.number) _ (free-decimal block.number) (free-decimal block.count))
    (free-append 10 (hex_word block.address) _ (free-word block.address) (free-word block.family))
free-block (Err Magic) = refl
free-block (Err Payload) = refl
free-block (Err Alignment) = refl
free-block (Err Number) = refl

free-uf2 : (block : List ℕ) → is_free 10 (uf2_text block) ≡ true
unfolding uf2_text uf2_counts uf2_target
free-uf2 block = free-block (uf2_of block)

pub free-comment : (n : ℕ) (note : List ℕ) → is_free 10 note ≡ true → is_free 10 (comment_text n note) ≡ true
free-comment n note free = free-append 10 (decimal n) (codes " " ++ note) (free-decimal n) free

-- what a comment says has no line feed
pub free-note : (e : EventView) → is_free 10 (note_of e) ≡ true
free-note End = refl
free-note (Command command payload) = free-command command
free-note (Uf2 block) = free-uf2 block
free-note (Cut left within pattern) = refl
free-note PowerOn = refl
free-note (Reset kind) = refl
free-note Buy = refl
