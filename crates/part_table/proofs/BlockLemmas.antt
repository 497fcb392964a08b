-- What is written for a table is a block.
use Rattle.std.proofs.Common.{◌≡◌, ℕ, ◌+◌, ◌-◌, ◌*◌, ◌/◌, ◌%◌, ◌^◌, ◌<◌, ◌≤◌, if◌then◌else◌, List, [], ◌∷◌, ◌++◌, length, refl, sym, ◌∙◌, ap, subst, arith, Option, None, Some, IfSome, pos, length-append}
use Rattle.std.specs.List.{flat_map, slice_index, AllByRecursion}
use Rattle.std.proofs.lemmas.List.{append-nil, drop_at}
use Rattle.arrayvec.specs.ArrayVec.{ArrayVec}
use Rattle.sha2.specs.Sha256.{sha256}
use Rattle.sha2.proofs.Facts256.{length-sha256}
use Rattle.block_codec.specs.Blocks.{IsBlock, start_word, frame}
use Rattle.block_codec.specs.Reading.{block_at}
use Rattle.block_codec.specs.Items.{size_of, AreItems, AreItemsAfter}
use Rattle.block_codec.specs.Words.{bytes_of, words_of, AreWords}
use Rattle.block_codec.proofs.BlockLemmas.{front_block-found}
use Rattle.block_codec.proofs.FrameLemmas.{length-frame}
use Rattle.block_codec.proofs.AtLemmas.{block_at-aligned}
use Rattle.block_codec.proofs.ItemLemmas.{AreItemsAfter-back}
use Rattle.block_codec.proofs.WordLemmas.{AreWords-words_of, length-words_of, length-bytes_of}
use Rattle.part_table.specs.declared.partition.Partition.{Partition}
use Rattle.part_table.specs.declared.table.Table.{Table}
use Rattle.std.specs.Option.{option_or}
use Rattle.block_codec.specs.FirstFault.{ok_unless}
use Rattle.part_table.specs.declared.table.TableFault.{TableFault}
use Rattle.part_table.specs.Faults.{table_fault}
use Rattle.part_table.specs.Judged.{IsJudgedAs}
use Rattle.part_table.specs.Written.{IsWritablePartition, IsReadableTable, IsWritableTable, IsReadAs, written_id, written_name, padded_name, written_partition, header, table_item, table_body, bare_version_item, hash_def_item, hashed_table_items, written_items, written_table, written_size}
use Rattle.part_table.proofs.WrittenLemmas.{padded_bytes}
use Rattle.part_table.proofs.RoundTripLemmas.{type_is, size_is, three_joined, small_part, sha256_is_bytes, size_written, table_judged, table_stands}

-- a whole item before whole items
whole_item : (kind size part : ℕ) (body rest : List ℕ) → kind < 128 → size < 256 → size ≡ 1 + length body
    → AreItems rest
    → AreItems (header kind size part ∷ body ++ rest)
whole_item kind size part body rest a b long items =
    let type : (kind + 256 * size + 16777216 * part) % 256 ≡ kind = type_is kind size part a in
    let is : size_of (header kind size part) ≡ size = size_is kind size part a b in
    let left : size_of (header kind size part) - 1 ≡ length body = omega arith in
    let all : length (body ++ rest) ≡ length body + length rest = length-append body rest in (
      (λ last. omega (arith, type, last)),
      omega arith,
      subst (λ k. AreItemsAfter k (body ++ rest)) (sym left)
          (AreItemsAfter-back (length body) (body ++ rest) (omega arith)
          (subst AreItems (sym (drop_at body rest (length body) refl)) items)),
    )

last_whole : (dw : List ℕ) → length dw ≡ 8 → AreItems (header 0x4b 9 0 ∷ dw)
last_whole dw eight =
    subst (λ ws. AreItems (header 0x4b 9 0 ∷ ws)) (append-nil dw)
    (whole_item 0x4b 9 0 dw [] (omega arith) (omega arith) (omega arith) tt)

-- the words of a digest are eight
eight_words : (m : List ℕ) → length (words_of (sha256 m)) ≡ 8
eight_words m = length-words_of (sha256 m) ∙ ap (λ n. n / 4) (length-sha256 m)

-- the item words of a table's block are whole items
pub are_whole : (t : Table) → length (table_item t) ≤ 143 → length t.parts.items ≤ 15 → AreItems (written_items t)
are_whole t few parts =
    let digest : List ℕ = words_of (sha256 (bytes_of (start_word ∷ hashed_table_items t))) in
    let high : ℕ = (if t.singleton then 128 else 0) + length t.parts.items in
    let count : ℕ = length (table_item t) + 5 in
    subst (λ ws. AreItems (header 0x0a (1 + length (table_body t)) high ∷ ws))
    (sym (three_joined (table_body t) (bare_version_item t.version) (hash_def_item count) (header 0x4b 9 0 ∷ digest)))
    (whole_item 0x0a (1 + length (table_body t)) high (table_body t)
    (bare_version_item t.version ++ (hash_def_item count ++ (header 0x4b 9 0 ∷ digest)))
    (omega arith) (omega arith) refl
    (whole_item 0x48 2 0 ((t.version.minor + 65536 * t.version.major) ∷ [])
    (hash_def_item count ++ (header 0x4b 9 0 ∷ digest)) (omega arith) (omega arith) refl
    (whole_item 0x47 2 1 (count ∷ []) (header 0x4b 9 0 ∷ digest) (omega arith) (omega arith) refl
    (last_whole digest (eight_words (bytes_of (start_word ∷ hashed_table_items t)))))))

-- words and words
words_joined : (xs ys : List ℕ) → AreWords xs → AreWords ys → AreWords (xs ++ ys)
words_joined [] ys one two = two
words_joined (x ∷ xs) ys one two = (one.0, words_joined xs ys one.1 two)

id_are_words : (id : Option ℕ) → IfSome id (λ n. n < 2 ^ 64) → AreWords (written_id id)
id_are_words None small = tt
id_are_words (Some n) small = (omega arith, (omega arith, tt))

name_are_words : (name : Option (ArrayVec ℕ)) → IfSome name (λ n. length n.items < 128)
    → IfSome name (λ n. (i : ℕ) → slice_index n.items i < 256)
    → AreWords (written_name name)
name_are_words None short bytes = tt
name_are_words (Some n) short bytes = AreWords-words_of (padded_name n.items) (padded_bytes n.items short bytes)

partition_are_words : (p : Partition) → IsWritablePartition p → AreWords (written_partition p)
partition_are_words p ok = (
  ok.location,
  (
    ok.flags,
    words_joined (written_id p.id ++ p.families.items) (written_name p.name)
        (words_joined (written_id p.id) p.families.items (id_are_words p.id ok.id) ok.families)
        (name_are_words p.name ok.readable.short ok.readable.bytes),
  ),
)

partitions_are_words : (parts : List Partition) → AllByRecursion IsWritablePartition parts
    → AreWords (flat_map written_partition parts)
partitions_are_words [] ok = tt
partitions_are_words (p ∷ parts) ok =
    words_joined (written_partition p) (flat_map written_partition parts) (partition_are_words p ok.0)
    (partitions_are_words parts ok.1)

header_small : (kind size part : ℕ) → kind < 128 → size < 256 → part < 256 → header kind size part < 2 ^ 32
header_small kind size part a b c = omega arith

module _ (t : Table) (ok : IsWritableTable t) where
  few_words : length (table_item t) ≤ 143
  few_words = let fits : written_size t ≤ 640 = ok.readable.fits in omega arith

  -- the item words of a table's block are words
  are_words : AreWords (written_items t)
  are_words =
      words_joined (hashed_table_items t) (header 0x4b 9 0
      ∷ words_of (sha256 (bytes_of (start_word ∷ hashed_table_items t))))
      (words_joined (table_item t ++ bare_version_item t.version) (hash_def_item (length (table_item t) + 5))
      (words_joined (table_item t) (bare_version_item t.version) (
        header_small 0x0a (1 + length (table_body t)) ((if t.singleton then 128 else 0) + length t.parts.items)
            (omega arith) (omega (arith, few_words))
            (small_part t.singleton (length t.parts.items) ok.readable.few),
        (ok.unpartitioned, partitions_are_words t.parts.items ok.parts),
      )
      (omega arith, (omega (arith, ok.readable.minor, ok.readable.major), tt)))
      (omega arith, (omega (arith, few_words), tt))) (
        omega arith,
        AreWords-words_of (sha256 (bytes_of (start_word ∷ hashed_table_items t)))
            (sha256_is_bytes (bytes_of (start_word ∷ hashed_table_items t))),
      )

  -- what is written for a table is a block
  pub is_block : IsBlock (written_table t) (written_items t) (pos 0)
  is_block = record {
    spelled = refl;
    whole = are_whole t few_words ok.readable.few;
    few = let size : 4 * length (written_items t) + 16 ≡ written_size t =
        size_written t in omega (arith, size, ok.readable.fits);
    words = are_words;
    fits = record { sfits = omega arith };
  }

no_other : (o : Option TableFault) → option_or o None ≡ o
no_other None = refl
no_other (Some f) = refl

-- a block that is written for a table is read to its own first fault, whatever follows it
pub judged_as : (t : Table) → IsReadableTable t → IsBlock (written_table t) (written_items t) (pos 0) → (n m : ℕ)
    → IsJudgedAs (written_table t) t n m
judged_as t readable block n m at rest = (
  record { at = at; items = written_items t; link = pos 0 },
  front_block-found at (written_table t) (written_items t) rest (pos 0) block,
  table_stands t at readable,
  table_judged t at n m readable ∙ ap (λ f. ok_unless f t) (no_other (table_fault t n m)),
)

-- a block that is written for a table is read as the table where that has no fault
pub read_from_judged : (t : Table) (n m : ℕ) → IsJudgedAs (written_table t) t n m → table_fault t n m ≡ None
    → IsReadAs (written_table t) t n m
read_from_judged t n m judged none at rest =
    let is = judged at rest in (is.0, is.1, is.2, is.3 ∙ ap (λ f. ok_unless f t) none)

-- a block of the words that are written for a table is read to its own first fault, whatever follows it
pub judged_when : (t : Table) (words : List ℕ) → IsReadableTable t → words ≡ written_items t
    → IsBlock (bytes_of (frame words (pos 0))) words (pos 0) → (n m : ℕ) → IsJudgedAs (written_table t) t n m
judged_when t words readable same block =
    judged_as t readable (subst (λ ws. IsBlock (bytes_of (frame ws (pos 0))) ws (pos 0)) same block)

-- a table that can be written is read to its own first fault, whatever follows its block
pub judged_again : (t : Table) (n m : ℕ) → IsWritableTable t → IsJudgedAs (written_table t) t n m
judged_again t n m ok = judged_as t ok.readable (is_block t ok) n m

pub read_again : (t : Table) (n m : ℕ) → IsWritableTable t → table_fault t n m ≡ None → IsReadAs (written_table t) t n m
read_again t n m ok none = read_from_judged t n m (judged_again t n m ok) none

pub stands : (t : Table) (rest : List ℕ) → IsWritableTable t
    → block_at (written_table t ++ rest) 0 ≡ Some (record { at = 0; items = written_items t; link = pos 0 })
stands t rest ok =
    block_at-aligned (written_table t ++ rest) 0 (omega arith)
    ∙ front_block-found 0 (written_table t) (written_items t) rest (pos 0) (is_block t ok)

-- the bytes of the block of these item words, whole or not
framed_size : (items : List ℕ) → length (bytes_of (frame items (pos 0))) ≡ 4 * length items + 16
framed_size items =
    length-bytes_of (frame items (pos 0)) ∙ (let long = length-frame items (pos 0) in omega (arith, long))

pub size_told : (t : Table) → length (written_table t) ≡ written_size t
size_told t = framed_size (written_items t) ∙ size_written t
