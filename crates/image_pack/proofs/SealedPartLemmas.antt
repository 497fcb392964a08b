-- The parts of a new block: each is an item of its kind, and has words.
use Rattle.std.proofs.Common.{◌≡◌, ℕ, suc, ◌+◌, ◌*◌, ◌/◌, ◌^◌, ◌<◌, ◌≤◌, Bool, true, false, if◌then◌else◌, ◌==◌, List, [], ◌∷◌, ◌++◌, length, filter, map, pos, refl, sym, ap, subst, ◌∙◌, arith, Option, Some, None, length-append, All}
use Rattle.std.specs.Prelude.{◌-ℤ◌, FitsSigned, IfSome}
use Rattle.std.specs.List.{flat_map, AllByRecursion}
use Rattle.std.specs.Int.{w32}
use Rattle.std.proofs.Math.Facts.{Fits-of_z}
use Rattle.std.proofs.lemmas.Bool.Decides.{nat_tests}
use Rattle.std.proofs.lemmas.Int.{ints}
use Rattle.pico_board.specs.declared.window.TheConstants.{MOST_FLASH_BYTES}
use Rattle.sha2.specs.Sha256.{sha256}
use Rattle.sha2.proofs.Facts256.{length-sha256}
use Rattle.pico_board.specs.declared.boot.Cpu.{Cpu}
use Rattle.pico_board.specs.declared.boot.Cpu.TheVariants.{Arm, Riscv}
use Rattle.block_codec.specs.declared.kinds.TheConstants.{HASH_DEF, HASH_VALUE, LOAD_MAP, VERSION}
use Rattle.block_codec.specs.Items.{high_byte, low_byte, size_of, type_byte}
use Rattle.block_codec.specs.Kinds.{version_words}
use Rattle.block_codec.specs.Words.{AreWords, words_of}
use Rattle.block_codec.proofs.FrameLemmas.{AreWords-append}
use Rattle.block_codec.proofs.WordLemmas.{AreWords-words_of, length-words_of}
use Rattle.image_def.specs.Flags.{is_trial}
use Rattle.load_map.specs.declared.load.Load.{Load}
use Rattle.load_map.specs.Addresses.{in_sram}
use Rattle.load_map.specs.Stored.{AreStoredIn, IsStoredIn}
use Rattle.otp_roll.specs.declared.rows.TheConstants.{FIRST_ROW, LAST_ROW}
use Rattle.part_table.specs.Written.{header}
use Rattle.part_table.proofs.RoundTripLemmas.{four_joined, sha256_is_bytes, size_is, type_is}
use Rattle.image_pack.specs.declared.spec.SealSpec.{SealSpec}
use Rattle.image_pack.specs.Faults.{IsRightRollback, IsRightSpec}
use Rattle.image_pack.specs.ReadBack.{IsHalves}
use Rattle.image_pack.specs.Sealing.{digest_text, entry_words, front_items, hashed_items, image_type_word, load_map_item, map_offset, own_load, own_loads, own_storage, packed, place_word, row_halves, sealed_items}
use Rattle.image_pack.proofs.OneItemLemmas.{IsCopied}
use Rattle.image_pack.proofs.SealedItemLemmas.{AreParts, joined}

-- what the IMAGE_TYPE word says
pub record SaysType (word : ℕ) (trial : Bool) : Type 0 where
  pub kind : type_byte word ≡ 0x42
  pub size : size_of word ≡ 1
  pub small : word < 2 ^ 32
  pub trial_is : is_trial (low_byte word + 256 * high_byte word) ≡ trial

pub says_type : (cpu : Cpu) (trial : Bool) → SaysType (image_type_word cpu trial) trial
unfolding size_of
says_type Arm true = record { kind = refl; size = refl; small = omega arith; trial_is = refl }
says_type Arm false = record { kind = refl; size = refl; small = omega arith; trial_is = refl }
says_type Riscv true = record { kind = refl; size = refl; small = omega arith; trial_is = refl }
says_type Riscv false = record { kind = refl; size = refl; small = omega arith; trial_is = refl }

-- a header with a size of one byte
header_small : (kind size part : ℕ) → kind < 128 → size < 256 → part < 256 → header kind size part < 2 ^ 32
header_small kind size part a b c = omega arith

pub header_high : (kind size part : ℕ) → kind < 128 → size < 256 → part < 256 → high_byte (header kind size part) ≡ part
header_high kind size part a b c = omega arith

-- half words
abbrev pub AreHalves : List ℕ → Type 0
AreHalves hs = AllByRecursion (λ h. h < 65536) hs

length-packed : (hs : List ℕ) → length (packed hs) ≡ (length hs + 1) / 2
length-packed [] = refl
length-packed (low ∷ []) = refl
length-packed (low ∷ high ∷ hs) = let rest = length-packed hs in omega (arith, rest)

packed_words : (hs : List ℕ) → AreHalves hs → AreWords (packed hs)
packed_words [] are = tt
packed_words (low ∷ []) are = (omega (arith, are.0), tt)
packed_words (low ∷ high ∷ hs) are = (omega (arith, are.0, are.1.0), packed_words hs are.1.1)

-- rows that may be listed are half words
pub row_numbers : (rows : List ℕ) → All (λ r. (FIRST_ROW ≤ r) × (r ≤ LAST_ROW)) rows → AreHalves rows
row_numbers [] are = tt
row_numbers (x ∷ rows) are = (
  let here = are 0 0 (omega arith) in omega (arith, here.1),
  row_numbers rows (λ k d lt. are (suc k) d (omega (arith, lt))),
)

rollback_number : (rollback : Option ℕ) (rows : List ℕ) → length rows ≤ 32 → IsRightRollback rollback rows
    → AreHalves rows → AreHalves (row_halves rollback rows)
rollback_number rollback [] few right are = tt
rollback_number None (row ∷ rows) few right are = (omega arith, are)
rollback_number (Some v) (row ∷ rows) few right are = (omega (arith, few, right.1), are)

pub halves_are : (spec : SealSpec) → IsRightSpec spec → AreHalves (row_halves spec.rollback spec.rows.items)
halves_are spec right =
    rollback_number spec.rollback spec.rows.items right.rows.few right.rollback
    (row_numbers spec.rows.items right.rows.in_range)

some_rows : (n : ℕ) → version_words (suc n) ≡ 2 + (suc n + 2) / 2
some_rows n = grind (arith, nat_tests)

length-halves : (rollback : Option ℕ) (rows : List ℕ)
    → version_words (length rows) ≡ 2 + length (packed (row_halves rollback rows))
length-halves rollback [] = refl
length-halves rollback (row ∷ rows) =
    let long = length-packed (row_halves rollback (row ∷ rows)) in
    let size = some_rows (length rows) in
    omega (arith, long, size)

-- offsets apart fit into a word
pub difference_fits : (x at : ℕ) → x ≤ 2 ^ 30 → at ≤ 2 ^ 30 → FitsSigned w32 (pos x -ℤ pos at)
difference_fits x at a b = omega (arith, ints, a, b)

pub place_small : (at : ℕ) (storage : Option ℕ) → at ≤ 2 ^ 30 → IfSome storage (λ x. x ≤ 2 ^ 30)
    → place_word at storage < 2 ^ 32
place_small at None a b = omega arith
place_small at (Some x) a b = (Fits-of_z (difference_fits x at b a)).fits

pub length-entries : (at : ℕ) (own : List Load) → length (flat_map (entry_words at) own) ≡ 3 * length own
length-entries at [] = refl
length-entries at (load ∷ own) = let rest = length-entries at own in omega (arith, rest)

-- the loads of a new block have words: those that go into SRAM end in it
in_range : (runtime size : ℕ) → in_sram runtime size ≡ true → (runtime < 2 ^ 32) × (size < 2 ^ 32)
in_range runtime size is =
    let end_ : runtime + size < 2 ^ 32 = grind (arith, nat_tests) in (omega (arith, end_), omega (arith, end_))

own_place : (at : ℕ) (storage : Option ℕ) (size : ℕ) → IsStoredIn MOST_FLASH_BYTES storage size
    → IfSome (own_storage at storage) (λ x. x ≤ 2 ^ 30)
own_place at None size is = tt
own_place at (Some x) size is = go (x == at)
  where
    go : (same : Bool) → IfSome (if same then None else Some x) (λ y. y ≤ 2 ^ 30)
    go true = tt
    go false = omega (arith, is)

entries_words : (at : ℕ) (loads : List Load) → at ≤ 2 ^ 30 → AreStoredIn MOST_FLASH_BYTES loads
    → AreWords (flat_map (entry_words at)
    (map (own_load at) (filter (λ (load : Load). in_sram load.runtime load.size) loads)))
entries_words at [] small stored = tt
entries_words at (load ∷ loads) small stored =
    go (in_sram load.runtime load.size) refl (entries_words at loads small stored.1)
  where
    go : (t : Bool) → in_sram load.runtime load.size ≡ t
        → AreWords (flat_map (entry_words at)
        (map (own_load at) (filter (λ (l : Load). in_sram l.runtime l.size) loads)))
        → AreWords (flat_map (entry_words at)
        (map (own_load at) (if t then load ∷ filter (λ (l : Load). in_sram l.runtime l.size) loads
        else filter (λ (l : Load). in_sram l.runtime l.size) loads)))
    go true is rest =
        let range = in_range load.runtime load.size is in
        let place = place_small at (own_storage at load.storage) small (own_place at load.storage load.size stored.0) in
        (place, (range.0, (range.1, rest)))
    go false is rest = rest

module _ (spec : SealSpec) (bytes entry : List ℕ) (loads : List Load) where
  abbrev pub map_offset_of : ℕ
  map_offset_of = map_offset (length bytes) (front_items spec spec.trial entry)

  abbrev pub own : List Load
  own = own_loads (length bytes) map_offset_of loads

  abbrev pub rows_of : ℕ
  rows_of = length spec.rows.items

  abbrev pub type_word : ℕ
  type_word = image_type_word spec.cpu spec.trial

  abbrev pub version_head : ℕ
  version_head = header VERSION (version_words rows_of) rows_of

  abbrev pub version_body : List ℕ
  version_body =
      (spec.version.minor + 65536 * spec.version.major) ∷ packed (row_halves spec.rollback spec.rows.items)

  abbrev pub map_head : ℕ
  map_head = header LOAD_MAP (1 + 3 * length own) (length own)

  abbrev pub map_body : List ℕ
  map_body = flat_map (entry_words map_offset_of) own

  abbrev pub hash_count : ℕ
  hash_count = length (front_items spec spec.trial entry ++ load_map_item map_offset_of own) + 3

  abbrev pub value_body : List ℕ
  value_body = words_of (sha256 (digest_text spec bytes entry own))

  abbrev pub sealed_words : List ℕ
  sealed_words =
      joined type_word version_head version_body entry map_head map_body (header HASH_DEF 2 1) hash_count
      (header HASH_VALUE 9 0) value_body

  -- the item words of a new block, one item after another
  pub items_joined : sealed_items spec bytes entry loads ≡ sealed_words
  unfolding sealed_items hashed_items
  items_joined =
      four_joined (type_word ∷ version_head ∷ version_body) entry (map_head ∷ map_body)
      (header HASH_DEF 2 1 ∷ hash_count ∷ []) (header HASH_VALUE 9 0 ∷ value_body)

  eight : length value_body ≡ 8
  eight = length-words_of (sha256 (digest_text spec bytes entry own))
      ∙ ap (λ n. n / 4) (length-sha256 (digest_text spec bytes entry own))

  long : length sealed_words ≡ 14 + length version_body + length entry + 3 * length own
  long =
      let a = length-append version_body (entry ++ (map_head ∷ map_body ++ (header HASH_DEF 2 1 ∷ hash_count
      ∷ header HASH_VALUE 9 0 ∷ value_body))) in
      let b = length-append entry (map_head ∷ map_body ++ (header HASH_DEF 2 1 ∷ hash_count ∷ header HASH_VALUE 9 0
      ∷ value_body)) in
      let d = length-append map_body (header HASH_DEF 2 1 ∷ hash_count ∷ header HASH_VALUE 9 0 ∷ value_body) in
      let e = length-entries map_offset_of own in
      omega (arith, a, b, d, e, eight)

  module _ (right : IsRightSpec spec) (copied : IsCopied entry)
      (few : length (sealed_items spec bytes entry loads) ≤ 156) where
    pub few_own : 14 + length version_body + length entry + 3 * length own ≤ 156
    few_own = let same = ap length items_joined in omega (arith, few, same, long)

    pub version_size : version_words rows_of ≡ 1 + length version_body
    version_size = let size = length-halves spec.rollback spec.rows.items in omega (arith, size)

    pub are_parts : AreParts type_word version_head version_body entry map_head map_body (header HASH_DEF 2 1)
        hash_count (header HASH_VALUE 9 0) value_body
    are_parts =
        let type = says_type spec.cpu spec.trial in
        let entries = length-entries map_offset_of own in record {
          image_kind = type.kind;
          image = type.size;
          version_kind = type_is 0x48 (version_words rows_of) rows_of (omega arith);
          version =
              size_is 0x48 (version_words rows_of) rows_of (omega arith) (omega (arith, version_size, few_own))
              ∙ version_size;
          copied = copied;
          map_kind = type_is 0x06 (1 + 3 * length own) (length own) (omega arith);
          map = size_is 0x06 (1 + 3 * length own) (length own) (omega arith) (omega (arith, few_own))
              ∙ (let same : 1 + 3 * length own ≡ 1 + length map_body = omega (arith, entries) in same);
          hash_kind = type_is 0x47 2 1 (omega arith);
          hash = size_is 0x47 2 1 (omega arith) (omega arith);
          value_kind = type_is 0x4b 9 0 (omega arith);
          value = size_is 0x4b 9 0 (omega arith) (omega arith)
              ∙ (let same : 9 ≡ 1 + length value_body = omega (arith, eight) in same);
        }

    copied_words : (ws : List ℕ) → IsCopied ws → AreWords ws
    copied_words [] is = tt
    copied_words (h ∷ body) is = is.2

    pub are_words : IsHalves spec.version → AreStoredIn MOST_FLASH_BYTES loads → length bytes ≤ MOST_FLASH_BYTES
        → AreWords (sealed_items spec bytes entry loads)
    are_words halves stored small =
        let front = length-append version_body entry in
        let all = length-append (front_items spec spec.trial entry) (load_map_item map_offset_of own) in
        let entries = length-entries map_offset_of own in
        let near : map_offset_of ≤ 2 ^ 30 = omega (arith, small, few_own, front) in
        let counts : hash_count < 2 ^ 32 = omega (arith, few_own, front, all, entries) in
        let version : AreWords version_body = (
          omega (arith, halves.major, halves.minor),
          packed_words (row_halves spec.rollback spec.rows.items) (halves_are spec right),
        ) in
        let map_words : AreWords map_body = (
          place_small map_offset_of (Some 0) near (omega arith),
          (omega arith, (omega (arith, small), entries_words map_offset_of loads near stored)),
        ) in
        let last : AreWords (header HASH_VALUE 9 0 ∷ value_body) = (
          omega arith,
          AreWords-words_of (sha256 (digest_text spec bytes entry own))
              (sha256_is_bytes (digest_text spec bytes entry own)),
        ) in
        subst AreWords (sym items_joined) (
          (says_type spec.cpu spec.trial).small,
          (
            header_small 0x48 (version_words rows_of) rows_of (omega arith) (omega (arith, version_size, few_own))
                (omega (arith, right.rows.few)),
            AreWords-append version_body _ version
                (AreWords-append entry _ (copied_words entry copied) (
                  header_small 0x06 (1 + 3 * length own) (length own) (omega arith) (omega (arith, few_own))
                      (omega (arith, few_own)),
                  AreWords-append map_body _ map_words (omega arith, (counts, last)),
                )),
          ),
        )
