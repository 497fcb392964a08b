-- The block that is written for a table is read as the table.
use Rattle.std.proofs.Common.{◌≡◌, ℕ, zero, suc, ◌+◌, ◌-◌, ◌*◌, ◌/◌, ◌%◌, ◌<◌, ◌≤◌, Bool, true, false, nat_le, nat_lt, ◌==◌, if◌then◌else◌, List, [], ◌∷◌, ◌++◌, length, take, drop, get_or, refl, sym, ◌∙◌, ap, arith, None, Some, append_assoc, length-append, pos, not, bytes_eq, option_map, is_some}
use Rattle.std.specs.List.{flat_map, slice_index, slice_range}
use Rattle.std.specs.Int.{to_be_bytes, w32, cast_unsigned}
use Rattle.std.proofs.lemmas.Bool.Decides.{nat_tests}
use Rattle.std.proofs.lemmas.List.{take_at, drop_at, get_or-append-add, append-nil}
use Rattle.std.proofs.Math.Seq.{drop-append-add, take-append-add}
use Rattle.std.proofs.lemmas.Slice.Eq.{bytes_eq-Decides}
use Rattle.sha2.specs.Sha256.{sha256, digest_bytes}
use Rattle.sha2.proofs.Facts256.{length-sha256}
use Rattle.block_codec.specs.declared.items.Item.{Item}
use Rattle.block_codec.specs.FirstFault.{ok_unless}
use Rattle.block_codec.specs.Blocks.{frame, start_word, end_word, last_item}
use Rattle.block_codec.specs.declared.kinds.TheConstants.{PARTITION_TABLE}
use Rattle.block_codec.specs.Kinds.{item_of_kind}
use Rattle.block_codec.specs.Items.{size_of, item_at, items_from, items_of}
use Rattle.block_codec.specs.Words.{bytes_of, words_of, low_half, high_half}
use Rattle.block_codec.proofs.ItemLemmas.{items_from-skip}
use Rattle.block_codec.proofs.WordLemmas.{AreBytes, length-words_of}
use Rattle.part_table.specs.declared.table.Table.{Table}
use Rattle.part_table.specs.Contents.{table_from, table_of_items, has_wrong_hash}
use Rattle.part_table.specs.Fields.{has_bit}
use Rattle.part_table.specs.Faults.{table_fault}
use Rattle.part_table.specs.Partitions.{partitions_in}
use Rattle.part_table.specs.TableOf.{has_table, table_or_fault, wrong_hash_fault, table_of}
use Rattle.part_table.specs.declared.partition.Partition.{Partition}
use Rattle.part_table.specs.declared.table.TableFault.TheVariants.{Hash}
use Rattle.block_codec.specs.declared.versions.Version.{Version}
use Rattle.std.specs.Option.{option_or}
use Rattle.part_table.specs.Written.{IsReadableTable, header, table_item, table_body, bare_version_item, hash_def_item, hashed_table_items, written_partition, written_items, written_size}
use Rattle.part_table.proofs.WrittenLemmas.{bytes_behind, bytes_back, partitions_back}

-- a digest has bytes
word_digest : (n : ℕ) → AreBytes (to_be_bytes w32 n)
word_digest n zero = omega arith
word_digest n (suc zero) = omega arith
word_digest n (suc (suc zero)) = omega arith
word_digest n (suc (suc (suc zero))) = omega arith
word_digest n (suc (suc (suc (suc i)))) = omega arith

digest_is_bytes : (h : List ℕ) (n : ℕ) → AreBytes (digest_bytes h n)
unfolding digest_bytes
digest_is_bytes h zero i = omega arith
digest_is_bytes h (suc n) i =
    bytes_behind (digest_bytes h n) (to_be_bytes w32 (slice_index h n)) (digest_is_bytes h n)
    (word_digest (slice_index h n)) i

pub sha256_is_bytes : (m : List ℕ) → AreBytes (sha256 m)
unfolding sha256
sha256_is_bytes m = digest_is_bytes _ 8

-- items of equal parts are equal
abbrev item_of : ℕ → ℕ → ℕ → ℕ → ℕ → Item
item_of place size type low_part high_part =
    record { first = place; words = size; kind = type; low = low_part; high = high_part }

same_items : (place a b c d e f g h : ℕ) → a ≡ b → c ≡ d → e ≡ f → g ≡ h → item_of place a c e g ≡ item_of place b d f h
same_items place a b c d e f g h one two three four =
    ap (λ x. item_of place x c e g) one ∙ ap (λ x. item_of place b x e g) two ∙ ap (λ x. item_of place b d x g) three
    ∙ ap (λ x. item_of place b d f x) four

-- the header of an item with a size of one byte, part by part
pub type_is : (kind size part : ℕ) → kind < 128 → (kind + 256 * size + 16777216 * part) % 256 ≡ kind
type_is kind size part small = omega arith

size_if : (yes : Bool) (h size : ℕ) → yes ≡ false → h / 256 % 256 ≡ size
    → (if yes then h / 256 % 65536 else h / 256 % 256) ≡ size
size_if true h size is e = cc
size_if false h size is e = e

below : (b n : ℕ) → b < n → nat_le n b ≡ false
below b n lt = grind (arith, nat_tests)

pub size_is : (kind size part : ℕ) → kind < 128 → size < 256 → size_of (header kind size part) ≡ size
unfolding size_of
size_is kind size part a b =
    let type : (kind + 256 * size + 16777216 * part) % 256 ≡ kind = type_is kind size part a in
    size_if (nat_le 128 ((kind + 256 * size + 16777216 * part) % 256)) (kind + 256 * size + 16777216 * part) size
    (ap (λ b. nat_le 128 b) type ∙ below kind 128 a) (omega arith)

item_is : (place kind size part : ℕ) → kind < 128 → size < 256 → part < 256
    → item_at place (header kind size part) ≡ item_of place size kind 0 part
item_is place kind size part a b c =
    same_items place (size_of (header kind size part)) size (header kind size part % 256) kind
    (header kind size part / 65536 % 256) 0
    (header kind size part / 16777216 % 256) part (size_is kind size part a b) (type_is kind size part a) (omega arith)
    (omega arith)

-- the items of a list that begins with one whole item
front_item : (place kind size part : ℕ) (body rest : List ℕ) → kind < 128 → size < 256 → part < 256
    → size ≡ 1 + length body
    → items_from place 0 (header kind size part ∷ body ++ rest) ≡ item_of place size kind 0 part
    ∷ items_from (place + size) 0 rest
front_item place kind size part body rest a b c long =
    let left : size_of (header kind size part) - 1 ≡ length body = omega (arith, size_is kind size part a b) in
    let past : drop (length body) (body ++ rest) ≡ rest = drop_at body rest (length body) refl in
    let places : place + 1 + length body ≡ place + size = omega arith in
    ap (λ x. x ∷ items_from (place + 1) (size_of (header kind size part) - 1) (body ++ rest))
    (item_is place kind size part a b c)
    ∙ ap (λ n. item_of place size kind 0 part ∷ items_from (place + 1) n (body ++ rest)) left
    ∙ ap (λ xs. item_of place size kind 0 part ∷ xs) (items_from-skip (place + 1) (length body) (body ++ rest))
    ∙ ap (λ xs. item_of place size kind 0 part ∷ items_from (place + 1 + length body) 0 xs) past
    ∙ ap (λ n. item_of place size kind 0 part ∷ items_from n 0 rest) places

-- the items of four, one behind the other, the last with nine words
abbrev four_items : ℕ → ℕ → List Item
four_items size part =
    item_of 1 size 0x0a 0 part ∷ item_of (1 + size) 2 0x48 0 0 ∷ item_of (1 + size + 2) 2 0x47 0 1
    ∷ item_of (1 + size + 2 + 2) 9 0x4b 0 0 ∷ []

last_item_is : (place : ℕ) (dw : List ℕ) → length dw ≡ 8
    → items_from place 0 (header 0x4b 9 0 ∷ dw) ≡ item_of place 9 0x4b 0 0 ∷ []
last_item_is place dw eight =
    ap (λ ws. items_from place 0 (header 0x4b 9 0 ∷ ws)) (sym (append-nil dw))
    ∙ front_item place 0x4b 9 0 dw [] (omega arith) (omega arith) (omega arith) (omega arith)

four_are : (size part vw c : ℕ) (body dw : List ℕ) → size < 256 → part < 256 → size ≡ 1 + length body → length dw ≡ 8
    → items_of (header 0x0a size part ∷ body ++ (header 0x48 2 0 ∷ vw ∷ header 0x47 2 1 ∷ c ∷ header 0x4b 9 0 ∷ dw))
    ≡ four_items size part
four_are size part vw c body dw a b long eight =
    front_item 1 0x0a size part body (header 0x48 2 0 ∷ vw ∷ header 0x47 2 1 ∷ c ∷ header 0x4b 9 0 ∷ dw)
    (omega arith) a b long
    ∙ ap (λ xs. item_of 1 size 0x0a 0 part ∷ xs)
    (front_item (1 + size) 0x48 2 0 (vw ∷ []) (header 0x47 2 1 ∷ c ∷ header 0x4b 9 0 ∷ dw) (omega arith) (omega arith)
    (omega arith) refl
    ∙ ap (λ xs. item_of (1 + size) 2 0x48 0 0 ∷ xs)
    (front_item (1 + size + 2) 0x47 2 1 (c ∷ []) (header 0x4b 9 0 ∷ dw) (omega arith) (omega arith) (omega arith) refl
    ∙ ap (λ xs. item_of (1 + size + 2) 2 0x47 0 1 ∷ xs) (last_item_is (1 + size + 2 + 2) dw eight)))

-- what follows the table's item
abbrev after_item : ℕ → ℕ → List ℕ → List ℕ → List ℕ
after_item vw c dw end = header 0x48 2 0 ∷ vw ∷ header 0x47 2 1 ∷ c ∷ header 0x4b 9 0 ∷ dw ++ end

module _ (first : ℕ) (body : List ℕ) (vw c : ℕ) (dw end : List ℕ) (size : ℕ) (long : size ≡ 1 + length body) where
  abbrev whole : List ℕ
  whole = start_word ∷ (first ∷ body ++ after_item vw c dw end)

  -- a word behind the table's item
  word_after : (n k : ℕ) → n ≡ size + 1 + k → slice_index whole n ≡ get_or (after_item vw c dw end) k 0
  word_after n k at =
      let place : n ≡ suc (length (first ∷ body) + k) = omega arith in
      ap (λ m. slice_index whole m) place ∙ get_or-append-add (first ∷ body) (after_item vw c dw end) k 0

  body_inside : slice_range whole (1 + 1) (1 + size) ≡ body
  body_inside =
      let count : 1 + size - (1 + 1) ≡ length body = omega arith in
      ap (λ n. take n (body ++ after_item vw c dw end)) count ∙ take_at body (after_item vw c dw end) (length body) refl

  digest_inside : length dw ≡ 8 → (n m : ℕ) → n ≡ size + 6 → m ≡ n + 8 → slice_range whole n m ≡ dw
  digest_inside eight n m from to =
      let count : m - n ≡ 8 = omega arith in
      let place : n ≡ suc (length (first ∷ body) + 5) = omega arith in
      ap (λ k. take k (drop n whole)) count
      ∙ ap (λ k. take 8 (drop k whole)) place
      ∙ ap (λ ws. take 8 ws) (drop-append-add (first ∷ body) (after_item vw c dw end) 5)
      ∙ take_at dw end 8 eight

  before_digest : (n : ℕ) → n ≡ size + 5
      → take n whole ≡ start_word ∷ (first ∷ body ++ (header 0x48 2 0 ∷ vw ∷ header 0x47 2 1 ∷ c ∷ []))
  before_digest n count =
      let place : n ≡ suc (length (first ∷ body) + 4) = omega arith in
      ap (λ k. take k whole) place
      ∙ ap (λ ws. start_word ∷ ws) (take-append-add (first ∷ body) (after_item vw c dw end) 4)

-- what four items say
read_four : (words : List ℕ) (size part : ℕ)
    → table_of_items words (four_items size part)
    ≡ (if nat_lt (1 + size + 2 + 2) (low_half (slice_index words (1 + size + 2 + 1))) then None
    else table_from
    (record {
      major = high_half (slice_index words (1 + size + 1));
      minor = low_half (slice_index words (1 + size + 1));
    })
    part (slice_range words (1 + 1) (1 + size)))
read_four words size part = refl

wrong_four : (words : List ℕ) (size part : ℕ)
    → has_wrong_hash words (four_items size part)
    ≡ not (bytes_eq (bytes_of (slice_range words (1 + size + 2 + 2 + 1) (1 + size + 2 + 2 + 9)))
    (sha256 (bytes_of (take (low_half (slice_index words (1 + size + 2 + 1))) words))))
wrong_four words size part = refl

pub four_joined : (a b c d e : List ℕ) → (((a ++ b) ++ c) ++ d) ++ e ≡ a ++ (b ++ (c ++ (d ++ e)))
four_joined a b c d e = simp append_assoc

pub three_joined : (a b c d : List ℕ) → ((a ++ b) ++ c) ++ d ≡ a ++ (b ++ (c ++ d))
three_joined a b c d = simp append_assoc

not_below : (a b : ℕ) → b ≤ a → nat_lt a b ≡ false
not_below a b le = grind (arith, nat_tests)

-- the two values of the fourth byte of a table's header
singleton_back : (yes : Bool) (count : ℕ) → count ≤ 15 → has_bit ((if yes then 128 else 0) + count) 7 ≡ yes
singleton_back true count few = let one : (128 + count) / 128 % 2 ≡ 1 = omega arith in ap (λ k. k == 1) one
singleton_back false count few = let none : (0 + count) / 128 % 2 ≡ 0 = omega arith in ap (λ k. k == 1) none

count_back : (yes : Bool) (count : ℕ) → count ≤ 15 → ((if yes then 128 else 0) + count) % 16 ≡ count
count_back true count few = omega arith
count_back false count few = omega arith

pub small_part : (yes : Bool) (count : ℕ) → count ≤ 15 → (if yes then 128 else 0) + count < 256
small_part true count few = omega arith
small_part false count few = omega arith

version_parts : (high low : ℕ) (v : Version) → high ≡ v.major → low ≡ v.minor → record { major = high; minor = low } ≡ v
version_parts high low v one two = ap (λ x. record { major = x; minor = low }) one
    ∙ ap (λ x. record { major = v.major; minor = x }) two

module _ (t : Table) (writable : IsReadableTable t) where
  abbrev count_of : ℕ
  count_of = length t.parts.items

  abbrev part_of : ℕ
  part_of = (if t.singleton then 128 else 0) + count_of

  abbrev size_of_item : ℕ
  size_of_item = 1 + length (table_body t)

  abbrev version_word : ℕ
  version_word = t.version.minor + 65536 * t.version.major

  abbrev hashed_count : ℕ
  hashed_count = length (table_item t) + 5

  abbrev digest_words : List ℕ
  digest_words = words_of (sha256 (bytes_of (start_word ∷ hashed_table_items t)))

  small_size : size_of_item < 144
  small_size = let fits : written_size t ≤ 640 = writable.fits in omega arith

  eight : length digest_words ≡ 8
  eight = length-words_of (sha256 (bytes_of (start_word ∷ hashed_table_items t)))
      ∙ ap (λ n. n / 4) (length-sha256 (bytes_of (start_word ∷ hashed_table_items t)))

  -- the items of the block
  items_are : items_of (written_items t) ≡ four_items size_of_item part_of
  items_are =
      ap (λ ws. items_of (header 0x0a size_of_item part_of ∷ ws))
      (three_joined (table_body t) (bare_version_item t.version) (hash_def_item hashed_count)
      (header 0x4b 9 0 ∷ digest_words))
      ∙ four_are size_of_item part_of version_word hashed_count (table_body t) digest_words (omega (arith, small_size))
      (small_part t.singleton count_of writable.few) refl eight

  -- the words of the block, up to those behind its items
  words_are : (end : List ℕ) → start_word ∷ (written_items t ++ end)
      ≡ whole (header 0x0a size_of_item part_of)
      (table_body t) version_word hashed_count digest_words end size_of_item refl
  words_are end =
      ap (λ ws. start_word ∷ header 0x0a size_of_item part_of ∷ ws)
      (four_joined (table_body t) (bare_version_item t.version) (hash_def_item hashed_count)
      (header 0x4b 9 0 ∷ digest_words) end)

  -- what stands in the block, whatever stands behind its items
  module _ (end : List ℕ) where
    abbrev all : List ℕ
    all = whole (header 0x0a size_of_item part_of)
        (table_body t) version_word hashed_count digest_words end size_of_item refl

    version_there : slice_index all (1 + size_of_item + 1) ≡ version_word
    version_there =
        word_after (header 0x0a size_of_item part_of)
        (table_body t) version_word hashed_count digest_words end size_of_item refl
        (1 + size_of_item + 1) 1 (omega arith)

    count_there : slice_index all (1 + size_of_item + 2 + 1) ≡ hashed_count
    count_there =
        word_after (header 0x0a size_of_item part_of)
        (table_body t) version_word hashed_count digest_words end size_of_item refl
        (1 + size_of_item + 2 + 1) 3 (omega arith)

    count_low : low_half (slice_index all (1 + size_of_item + 2 + 1)) ≡ hashed_count
    count_low = ap (λ w. w % 65536) count_there ∙ omega (arith, small_size)

    version_back : low_half (slice_index all (1 + size_of_item + 1)) ≡ t.version.minor
    version_back = ap (λ w. w % 65536) version_there ∙ omega (arith, writable.minor)

    version_high : high_half (slice_index all (1 + size_of_item + 1)) ≡ t.version.major
    version_high = ap (λ w. w / 65536) version_there ∙ omega (arith, writable.minor)

    -- the table's fields are read as the table
    abbrev rebuilt : Bool → List Partition → Table
    rebuilt single ps =
        record {
          version = t.version;
          singleton = single;
          unpartitioned = t.unpartitioned;
          parts = record { items = ps };
        }

    fields_back : table_from t.version part_of (table_body t) ≡ Some t
    fields_back =
        ap (λ k. option_map (λ ps. rebuilt (has_bit part_of 7) ps)
        (partitions_in k (flat_map written_partition t.parts.items)))
        (count_back t.singleton count_of writable.few)
        ∙ ap (λ o. option_map (λ ps. rebuilt (has_bit part_of 7) ps) o) (partitions_back t.parts.items writable.parts)
        ∙ ap (λ yes. Some (rebuilt yes t.parts.items)) (singleton_back t.singleton count_of writable.few)

    same_version : record {
      major = high_half (slice_index all (1 + size_of_item + 1));
      minor = low_half (slice_index all (1 + size_of_item + 1));
    } ≡ t.version
    same_version = version_parts _ _ t.version version_high version_back

    placed : nat_lt (1 + size_of_item + 2 + 2) (low_half (slice_index all (1 + size_of_item + 2 + 1))) ≡ false
    placed = ap (λ k. nat_lt (1 + size_of_item + 2 + 2) k) count_low
        ∙ not_below (1 + size_of_item + 2 + 2) hashed_count (omega arith)

    table_there : table_of_items all (four_items size_of_item part_of) ≡ Some t
    table_there =
        read_four all size_of_item part_of
        ∙ ap (λ yes. if yes then None else table_from
        (record {
          major = high_half (slice_index all (1 + size_of_item + 1));
          minor = low_half (slice_index all (1 + size_of_item + 1));
        })
        part_of (slice_range all (1 + 1) (1 + size_of_item))) placed
        ∙ ap (λ v. table_from v part_of (slice_range all (1 + 1) (1 + size_of_item))) same_version
        ∙ ap (λ ws. table_from t.version part_of ws)
        (body_inside (header 0x0a size_of_item part_of)
        (table_body t) version_word hashed_count digest_words end size_of_item refl)
        ∙ fields_back

    -- the digest is that of the words before it
    abbrev digest : List ℕ
    digest = sha256 (bytes_of (start_word ∷ hashed_table_items t))

    kept_digest : bytes_of (slice_range all (1 + size_of_item + 2 + 2 + 1) (1 + size_of_item + 2 + 2 + 9)) ≡ digest
    kept_digest =
        ap (λ ws. bytes_of ws)
        (digest_inside (header 0x0a size_of_item part_of)
        (table_body t) version_word hashed_count digest_words end size_of_item refl eight
        (1 + size_of_item + 2 + 2 + 1) (1 + size_of_item + 2 + 2 + 9) (omega arith) (omega arith))
        ∙ bytes_back 8 digest (length-sha256 (bytes_of (start_word ∷ hashed_table_items t)))
        (sha256_is_bytes (bytes_of (start_word ∷ hashed_table_items t)))

    same_hashed : start_word
        ∷ (header 0x0a size_of_item part_of ∷ table_body t
        ++ (header 0x48 2 0 ∷ version_word ∷ header 0x47 2 1 ∷ hashed_count ∷ []))
        ≡ start_word ∷ hashed_table_items t
    same_hashed = ap (λ ws. start_word ∷ header 0x0a size_of_item part_of ∷ ws)
        (sym (append_assoc (table_body t) (bare_version_item t.version) (hash_def_item hashed_count)))

    made_digest : sha256 (bytes_of (take (low_half (slice_index all (1 + size_of_item + 2 + 1))) all)) ≡ digest
    made_digest =
        ap (λ k. sha256 (bytes_of (take k all))) count_low
        ∙ ap (λ ws. sha256 (bytes_of ws))
        (before_digest (header 0x0a size_of_item part_of)
        (table_body t) version_word hashed_count digest_words end size_of_item refl hashed_count (omega arith)
        ∙ same_hashed)

    digest_there : has_wrong_hash all (four_items size_of_item part_of) ≡ false
    digest_there =
        wrong_four all size_of_item part_of
        ∙ ap (λ ws. not
        (bytes_eq ws
        (sha256 (bytes_of (take (low_half (slice_index all (1 + size_of_item + 2 + 1))) all))))) kept_digest
        ∙ ap (λ ws. not (bytes_eq digest ws)) made_digest
        ∙ ap (λ yes. not yes) ((bytes_eq-Decides digest digest).1 refl)

    -- words and items that are those of the block are judged as the table
    judged_as : (words : List ℕ) (items : List Item) (n m : ℕ) → words ≡ all
        → items ≡ four_items size_of_item part_of
        → table_or_fault (table_of_items words items) n m (wrong_hash_fault words items)
        ≡ ok_unless (option_or (table_fault t n m) None) t
    judged_as words items n m same_words same_items =
        ap (λ ws. table_or_fault (table_of_items ws items) n m (wrong_hash_fault ws items)) same_words
        ∙ ap (λ is. table_or_fault (table_of_items all is) n m (wrong_hash_fault all is)) same_items
        ∙ ap (λ o. table_or_fault o n m (wrong_hash_fault all (four_items size_of_item part_of))) table_there
        ∙ ap (λ yes. table_or_fault (Some t) n m (if yes then Some Hash else None)) digest_there

-- a table that was written is read to its own first fault, in each flash
pub table_judged : (t : Table) (at n m : ℕ) → IsReadableTable t
    → table_of (record { at = at; items = written_items t; link = pos 0 }) n m
    ≡ ok_unless (option_or (table_fault t n m) None) t
unfolding frame
table_judged t at n m writable =
    judged_as t writable (last_item (length (written_items t)) ∷ cast_unsigned w32 (pos 0) ∷ end_word ∷ [])
    (frame (written_items t) (pos 0)) (items_of (written_items t)) n m
    (words_are t writable (last_item (length (written_items t)) ∷ cast_unsigned w32 (pos 0) ∷ end_word ∷ []))
    (items_are t writable)

-- the block has a table
pub table_stands : (t : Table) (at : ℕ) → IsReadableTable t
    → has_table (record { at = at; items = written_items t; link = pos 0 }) ≡ true
table_stands t at readable = ap (λ items. is_some (item_of_kind PARTITION_TABLE items)) (items_are t readable)

hashed_size : (t : Table) → length (hashed_table_items t) ≡ length (table_item t) + 4
hashed_size t =
    let two : length (table_item t ++ bare_version_item t.version ++ hash_def_item (length (table_item t) + 5))
    ≡ length (table_item t ++ bare_version_item t.version) + 2 =
    length-append (table_item t ++ bare_version_item t.version) (hash_def_item (length (table_item t) + 5)) in
    let one : length (table_item t ++ bare_version_item t.version) ≡ length (table_item t) + 2 =
    length-append (table_item t) (bare_version_item t.version) in
    omega arith

-- the size of the block that is written for a table
pub size_written : (t : Table) → 4 * length (written_items t) + 16 ≡ written_size t
size_written t =
    let long : length (words_of (sha256 (bytes_of (start_word ∷ hashed_table_items t)))) ≡ 8 =
    length-words_of (sha256 (bytes_of (start_word ∷ hashed_table_items t)))
    ∙ ap (λ n. n / 4) (length-sha256 (bytes_of (start_word ∷ hashed_table_items t))) in
    let all : length (written_items t)
    ≡ length (hashed_table_items t) + length
    (header 0x4b 9 0 ∷ words_of (sha256 (bytes_of (start_word ∷ hashed_table_items t)))) =
    length-append (hashed_table_items t) (header 0x4b 9 0
    ∷ words_of (sha256 (bytes_of (start_word ∷ hashed_table_items t)))) in
    let hashed : length (hashed_table_items t) ≡ length (table_item t) + 4 = hashed_size t in
    omega arith
