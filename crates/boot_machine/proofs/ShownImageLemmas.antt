-- The numbers of an image that is valid in bytes are in the ranges of their fields.
use Rattle.std.proofs.Common.{◌≡◌, ℕ, zero, suc, ◌+◌, ◌-◌, ◌^◌, ◌<◌, ◌==◌, Bool, true, false, List, [], ◌∷◌, ◌++◌, length, take, drop, get_or, Option, Some, None, Ok, refl, sym, subst, arith}
use Rattle.std.specs.Prelude.{if◌then◌else◌, IfSome, slice_get, find, reverse, option_map, option_and_then, unwrap_or}
use Rattle.pico_board.specs.declared.boot.Cpu.{Cpu}
use Rattle.pico_board.specs.declared.boot.Cpu.TheVariants.{Arm, Riscv}
use Rattle.pico_board.specs.declared.window.Window.{Window}
use Rattle.pico_board.specs.Content.{Content, IsContent, window_bytes}
use Rattle.pico_board.proofs.ContentLemmas.{byte_at as content-byte}
use Rattle.block_codec.specs.declared.definition.Def.{Def}
use Rattle.block_codec.specs.declared.definition.EntryPoint.{EntryPoint}
use Rattle.block_codec.specs.declared.items.Item.{Item}
use Rattle.block_codec.specs.declared.kinds.TheConstants.{ENTRY_POINT, VERSION}
use Rattle.block_codec.specs.declared.versions.Version.{Version}
use Rattle.block_codec.specs.Blocks.{BlockAt, BlockView, block_size, block_words}
use Rattle.block_codec.specs.FirstFault.{ok_unless}
use Rattle.block_codec.specs.Items.{items_of}
use Rattle.block_codec.specs.Kinds.{item_of_kind, version_of, version_words}
use Rattle.block_codec.specs.Words.{high_half, low_half}
use Rattle.block_codec.proofs.AtLemmas.{BlockAt-room}
use Rattle.block_codec.proofs.BlockLemmas.{AreWords-at, AreWords-block}
use Rattle.block_codec.proofs.WordLemmas.{AreBytes, AreBytes-drop, AreBytes-take, word_of-lt}
use Rattle.image_def.specs.declared.fault.DefFault.{DefFault}
use Rattle.image_def.specs.declared.started.Started.{Started}
use Rattle.image_def.specs.Definition.{def_of, def_record, entry_point_in, no_version}
use Rattle.image_def.specs.Faults.{def_fault}
use Rattle.image_def.specs.Rows.{halves_of, rollback_in}
use Rattle.load_map.specs.declared.load.Load.{Load}
use Rattle.load_map.specs.Addresses.{is_sram}
use Rattle.load_map.specs.Given.{byte_at, load_has_address, in_window, loaded_byte, stored_byte, given_word, word_if_given}
use Rattle.image_check.specs.declared.addressing.Addressing.{Addressing}
use Rattle.image_check.specs.declared.entry.Source.{Source}
use Rattle.image_check.specs.declared.examining.Defined.{Defined}
use Rattle.image_check.specs.Addressing.{in_flash}
use Rattle.image_check.specs.Entering.{IsSource, table_address}
use Rattle.image_check.specs.Image.{started_of}
use Rattle.image_check.specs.Valid.{IsDefined, IsValidImage, Valid}
use Rattle.text_lines.specs.Events.{IsShown}
use Rattle.boot_rules.proofs.PlaceLemmas.{placed-inside}
use Rattle.part_table.specs.Windows.{IsPlacedIn}
use Rattle.boot_machine.proofs.RamRunLemmas.{either}
use Rattle.boot_machine.proofs.ReplyLemmas.{slice-few}

-- an element between two lists
at-middle : {X : Type 0} (before behind : List X) (x : X) → slice_get (before ++ x ∷ behind) (length before) ≡ Some x
at-middle [] behind x = refl
at-middle (y ∷ ys) behind x = at-middle ys behind x

-- the block of a definition stands in the window
in-loop : (cpu : Cpu) (bytes : List ℕ) (loop : List BlockView) (image : Defined) → IsDefined cpu bytes loop image
    → BlockAt bytes image.block.at image.block
in-loop cpu bytes loop image is =
    is.closes.chain.stand (length is.defines.before) image.block
    (subst (λ l. slice_get l (length is.defines.before) ≡ Some image.block) (sym is.defines.whole)
    (at-middle is.defines.before is.defines.behind image.block))

-- a definition that is read without a fault is made of the block's words
read-record : (b : BlockView) (def : Def) → def_of b ≡ Ok def → def ≡ def_record (block_words b) (items_of b.items)
unfolding def_of
read-record b def is = by (def_fault (block_words b) (items_of b.items)) is
  where
    by : (f : Option DefFault) → ok_unless f (def_record (block_words b) (items_of b.items)) ≡ Ok def
        → def ≡ def_record (block_words b) (items_of b.items)
    by None e = cc e
    by (Some f) e = cc e

abbrev IsVersionShown : Version → Type 0
IsVersionShown v = (v.major < 2 ^ 16) × (v.minor < 2 ^ 16)

abbrev IsEntryShown : EntryPoint → Type 0
IsEntryShown e = (e.pc < 2 ^ 32) × (e.sp < 2 ^ 32) × (e.limit < 2 ^ 32)

high-lt : (x : ℕ) → x < 2 ^ 32 → high_half x < 2 ^ 16
high-lt x lt = omega (arith, lt)

low-lt : (x : ℕ) → low_half x < 2 ^ 16
low-lt x = omega arith

module _ (words : List ℕ) (are : (k : ℕ) → get_or words k 0 < 2 ^ 32) where
  version-by : (t : Bool) (v : Version) → IsVersionShown v
      → IsVersionShown (unwrap_or (if t then Some v else None) no_version)
  version-by true v shown = shown
  version-by false v shown = (omega arith, omega arith)

  version-shown : (o : Option Item) → IsVersionShown (unwrap_or (option_and_then (version_of words) o) no_version)
  version-shown None = (omega arith, omega arith)
  version-shown (Some item) =
      version-by (item.words == version_words item.high) _
      (high-lt (get_or words (item.first + 1) 0) (are (item.first + 1)), low-lt (get_or words (item.first + 1) 0))

  halves-lt : (ws : List ℕ) → get_or (halves_of ws) 0 0 < 2 ^ 16
  halves-lt [] = omega arith
  halves-lt (w ∷ ws) = low-lt w

  rollback-by : (t : Bool) (x : ℕ) → x < 2 ^ 16 → IfSome (if t then None else Some x) (λ v. v < 2 ^ 16)
  rollback-by true x lt = tt
  rollback-by false x lt = lt

  rollback-shown : (o : Option Item) → IfSome (option_and_then (rollback_in words) o) (λ v. v < 2 ^ 16)
  rollback-shown None = tt
  rollback-shown (Some item) = rollback-by (item.high == 0) _ (halves-lt (drop (item.first + 2) words))

  limit-lt : (t : Bool) (x : ℕ) → x < 2 ^ 32 → (if t then x else 0) < 2 ^ 32
  limit-lt true x lt = lt
  limit-lt false x lt = omega arith

  entry-shown : (o : Option Item) → IfSome (option_map (entry_point_in words) o) IsEntryShown
  entry-shown None = tt
  entry-shown (Some item) =
      (are (item.first + 1), are (item.first + 2), limit-lt (item.words == 4) _ (are (item.first + 3)))

-- four bytes are a word
four : (a b c d : ℕ) → a < 256 → b < 256 → c < 256 → d < 256 → AreBytes (a ∷ b ∷ c ∷ d ∷ [])
four a b c d p q r s zero = p
four a b c d p q r s (suc zero) = q
four a b c d p q r s (suc (suc zero)) = r
four a b c d p q r s (suc (suc (suc zero))) = s
four a b c d p q r s (suc (suc (suc (suc i)))) = omega arith

abbrev IsByte : Option ℕ → Type 0
IsByte o = IfSome o (λ b. b < 256)

given-lt : (o p q r : Option ℕ) → IsByte o → IsByte p → IsByte q → IsByte r
    → IfSome (word_if_given o p q r) (λ w. w < 2 ^ 32)
given-lt None p q r a b c d = tt
given-lt (Some x) None q r a b c d = tt
given-lt (Some x) (Some y) None r a b c d = tt
given-lt (Some x) (Some y) (Some z) None a b c d = tt
given-lt (Some x) (Some y) (Some z) (Some w) a b c d = word_of-lt (x ∷ y ∷ z ∷ w ∷ []) (four x y z w a b c d)

some-is : (P : ℕ → Type 0) (o : Option ℕ) (x : ℕ) → IfSome o P → o ≡ Some x → P x
some-is P o x all is = subst (λ (p : Option ℕ). IfSome p P) is all

-- the bytes and words that a window and its loads give
module _ (base : ℕ) (bytes : List ℕ) (loads : List Load) (are : AreBytes bytes) where
  stored-lt : (o : Option ℕ) (k : ℕ) → stored_byte bytes o k < 256
  stored-lt None k = omega arith
  stored-lt (Some x) k = are (x + k)

  found-lt : (at : ℕ) (o : Option Load) → IsByte (option_map (loaded_byte bytes at) o)
  found-lt at None = tt
  found-lt at (Some load) = stored-lt load.storage (at - load.runtime)

  byte-lt : (at : ℕ) → IsByte (byte_at base bytes loads at)
  byte-lt at =
      either IsByte (in_window base (length bytes) at) _ _ (are (at - base))
      (either IsByte (is_sram at) _ _ (found-lt at (find (load_has_address at) (reverse loads))) tt)

  word-lt : (at w : ℕ) → given_word base bytes loads at ≡ Some w → w < 2 ^ 32
  word-lt at w is =
      some-is (λ x. x < 2 ^ 32) (given_word base bytes loads at) w
      (given-lt (byte_at base bytes loads at) (byte_at base bytes loads (at + 1)) (byte_at base bytes loads (at + 2))
      (byte_at base bytes loads (at + 3)) (byte-lt at) (byte-lt (at + 1)) (byte-lt (at + 2)) (byte-lt (at + 3))) is

  source-shown : (cpu : Cpu) (def : Def) (o : Option EntryPoint) (source : Source) → base < 2 ^ 32
      → IfSome o IsEntryShown → IsSource base bytes cpu def loads o source → IsEntryShown source.entry
  source-shown cpu def (Some entry) source below shown is =
      subst (λ (s : Source). IsEntryShown s.entry) (sym is) shown
  source-shown Arm def None source below shown is =
      let zero_limit = is.limit in (
        word-lt (table_address base def + 4) source.entry.pc is.pc,
        word-lt (table_address base def) source.entry.sp is.sp,
        omega (arith, zero_limit),
      )
  source-shown Riscv def None source below shown is =
      subst (λ (s : Source). IsEntryShown s.entry) (sym is) (below, omega arith, omega arith)

-- an image that is valid in these bytes
module _ (a : Addressing) (window : Window) (cpu : Cpu) (trial : Bool) (otp bytes : List ℕ) (s : Started)
    (are : AreBytes bytes) (few : length bytes < 2 ^ 32) (base : a.base < 2 ^ 32) (start : window.start < 2 ^ 32)
    (len : window.len < 2 ^ 32) (valid : IsValidImage a window cpu trial otp bytes s) where
  abbrev image : Defined
  image = valid.image

  stands : BlockAt bytes image.block.at image.block
  stands = in-loop cpu bytes valid.sound.loop image valid.sound.defined

  word : (k : ℕ) → get_or (block_words image.block) k 0 < 2 ^ 32
  word k =
      AreWords-at (block_words image.block) k
      (AreWords-block (take (block_size image.block) (drop image.block.at bytes)) image.block.items image.block.link
      stands.stands)

  abbrev made : Def
  made = def_record (block_words image.block) (items_of image.block.items)

  same : image.def ≡ made
  same = read-record image.block image.def valid.sound.defined.items

  version : IsVersionShown image.def.version
  version =
      subst (λ (d : Def). IsVersionShown d.version) (sym same)
      (version-shown (block_words image.block) word (item_of_kind VERSION (items_of image.block.items)))

  rollback : IfSome image.def.rollback (λ v. v < 2 ^ 16)
  rollback =
      subst (λ (d : Def). IfSome d.rollback (λ v. v < 2 ^ 16)) (sym same)
      (rollback-shown (block_words image.block) word (item_of_kind VERSION (items_of image.block.items)))

  item : IfSome image.def.entry_point IsEntryShown
  item =
      subst (λ (d : Def). IfSome d.entry_point IsEntryShown) (sym same)
      (entry-shown (block_words image.block) word (item_of_kind ENTRY_POINT (items_of image.block.items)))

  entry : IsEntryShown valid.entry
  entry =
      subst IsEntryShown (sym valid.sound.enters.is)
      (source-shown a.base bytes valid.sound.loads are cpu image.def image.def.entry_point valid.sound.enters.source
      base item valid.sound.enters.found)

  shown-started : IsShown (started_of window image valid.entry)
  shown-started =
      let room = BlockAt-room bytes image.block.at image.block stands in record {
        start = start;
        len = len;
        block = omega (arith, room, few);
        pc = entry.0;
        sp = entry.1;
        limit = entry.2;
        major = version.0;
        minor = version.1;
        rollback = rollback;
      }

  pub shown-valid : IsShown s
  shown-valid = subst IsShown (sym valid.started) shown-started

-- an image that is valid in a window of a flash
pub shown-flash : (c : Content) (w : Window) (cpu : Cpu) (trial : Bool) (s : Started) → IsContent c → IsPlacedIn c w
    → Valid c w cpu trial s → IsShown s
shown-flash c w cpu trial s right placed valid =
    let most = right.flash_length.most in
    let inside = placed-inside (length c.flash) w right.flash_length.whole placed in
    let few = slice-few c.flash w.start (w.start + w.len) in
    shown-valid in_flash w cpu trial c.otp (window_bytes c w) s
    (AreBytes-take (w.start + w.len - w.start) (drop w.start c.flash)
    (AreBytes-drop w.start c.flash (content-byte c.flash right.flash_bytes)))
    (omega (arith, few, most)) (omega arith) (omega (arith, inside, most)) (omega (arith, inside, most)) valid
