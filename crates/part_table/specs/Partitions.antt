-- The partitions of a list of words. The order and the layout of the id, the extra families and
-- the name are this project's own.
use Rattle.std.specs.Prelude.{ℕ, zero, suc, ◌+◌, ◌*◌, ◌/◌, ◌%◌, ◌^◌, List, [], ◌∷◌, length, take, drop, slice_index, slice_index_or, nat_le, if◌then◌else◌}
use Rattle.std.specs.Prelude.{Option, None, Some, option_map, option_and_then}
use Rattle.arrayvec.specs.ArrayVec.{ArrayVec}
use Rattle.block_codec.specs.Words.{bytes_of}
use Rattle.part_table.specs.declared.partition.Partition.{Partition}
use Rattle.part_table.specs.Fields.{has_id, family_count, has_name}

-- an id takes two words where there is one
abbrev pub id_words : ℕ → ℕ
id_words flags = if has_id flags then 2 else 0

-- the words before a name are those of the id and of the extra families
abbrev pub name_at : ℕ → ℕ
name_at flags = id_words flags + family_count flags

-- the length of a name is the low seven bits of its first byte, the low byte of its first word
abbrev pub name_length : ℕ → List ℕ → ℕ
name_length flags ws = slice_index ws (name_at flags) % 128

-- a name takes as many words as hold its length byte and its bytes
abbrev pub name_words : ℕ → List ℕ → ℕ
name_words flags ws = if has_name flags then (name_length flags ws + 4) / 4 else 0

-- the words of a partition after its flag word are its id, its extra families and its name
abbrev pub tail_words : ℕ → List ℕ → ℕ
tail_words flags ws = name_at flags + name_words flags ws

-- an id is two words, the low one first
abbrev pub id_of : ℕ → List ℕ → Option ℕ
id_of flags ws = if has_id flags then Some (slice_index ws 0 + 2 ^ 32 * slice_index ws 1) else None

-- the extra families of a partition are the words after its id
abbrev pub families_of : ℕ → List ℕ → List ℕ
families_of flags ws = take (family_count flags) (drop (id_words flags) ws)

-- a name is the bytes that follow its length byte
abbrev pub name_of : ℕ → List ℕ → Option (ArrayVec ℕ)
name_of flags ws =
    if has_name flags then Some
    (record {
      items = take (name_length flags ws)
          (drop 1 (bytes_of (drop (name_at flags) ws)));
    }) else None

-- a partition is its location word, its flag word, and what the words after these say
abbrev pub partition_of : ℕ → ℕ → List ℕ → Partition
partition_of at flag_word ws = record {
  location = at;
  flags = flag_word;
  id = id_of flag_word ws;
  families = record { items = families_of flag_word ws };
  name = name_of flag_word ws;
}

-- how many words the partition at the front of a list of words takes: its two words and those of
-- its id, its extra families and its name; None where these are not all there
abbrev pub partition_words : List ℕ → Option ℕ
partition_words [] = None
partition_words (location ∷ []) = None
partition_words (location ∷ flags ∷ ws) =
    if nat_le (tail_words flags ws) (length ws) then Some (2 + tail_words flags ws) else None

-- the partition at the front of a list of words
abbrev pub partition_from : List ℕ → Partition
partition_from ws = partition_of (slice_index ws 0) (slice_index ws 1) (drop 2 ws)

-- a list of words is read as n partitions, one after the other, where these fill it exactly;
-- otherwise it is refused
abbrev pub partitions_in : ℕ → List ℕ → Option (List Partition)
partitions_in zero [] = Some []
partitions_in zero (w ∷ ws) = None
partitions_in (suc n) ws =
    option_and_then
    (λ size. option_map (λ parts. partition_from ws ∷ parts) (partitions_in n (drop size ws)))
    (partition_words ws)

-- past a table's end stands a partition of no right, no link and no family
abbrev pub no_partition : Partition
no_partition =
    record { location = 0; flags = 0; id = None; families = record { items = [] }; name = None }

-- the partition of a number is the one at that place of the table, counted from 0 (RP2350
-- Datasheet, chapter 5, Bootrom)
abbrev pub part_at : List Partition → ℕ → Partition
part_at parts i = slice_index_or parts i no_partition
