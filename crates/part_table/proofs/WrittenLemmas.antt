-- What was written for partitions is read as them.
use Rattle.std.proofs.Common.{◌≡◌, ℕ, zero, suc, ◌+◌, ◌-◌, ◌*◌, ◌/◌, ◌%◌, ◌^◌, ◌<◌, ◌≤◌, true, nat_le, if◌then◌else◌, List, [], ◌∷◌, ◌++◌, length, take, drop, get_or, replicate, refl, sym, ◌∙◌, ap, subst, arith, Option, None, Some, is_some, option_map, option_and_then, append_assoc, length-append, get_or-drop, add-zero, IfSome}
use Rattle.std.specs.List.{flat_map, slice_index, AllByRecursion}
use Rattle.std.proofs.lemmas.Grind.{flat_map-append}
use Rattle.std.proofs.lemmas.Bool.Decides.{nat_tests}
use Rattle.std.proofs.lemmas.List.{length-replicate, take_at, drop_at, take_all, get_or_append_left}
use Rattle.arrayvec.specs.ArrayVec.{ArrayVec}
use Rattle.block_codec.specs.Words.{bytes_of, word_of, words_of}
use Rattle.block_codec.proofs.WordLemmas.{AreBytes, AreBytes-tail, length-words_of, get_or-words_of, bytes_of-words_of}
use Rattle.part_table.specs.declared.partition.Partition.{Partition}
use Rattle.part_table.specs.Fields.{has_id, family_count, has_name}
use Rattle.part_table.specs.Partitions.{id_words, name_at, name_length, name_words, tail_words, id_of, families_of, name_of, partition_of, partitions_in}
use Rattle.part_table.specs.Written.{IsReadablePartition, padded_name, written_id, written_name, written_partition}

-- bytes behind bytes, and bytes 0
pub bytes_behind : (xs ys : List ℕ) → AreBytes xs → AreBytes ys → AreBytes (xs ++ ys)
bytes_behind [] ys one two i = two i
bytes_behind (x ∷ xs) ys one two zero = one 0
bytes_behind (x ∷ xs) ys one two (suc i) = bytes_behind xs ys (AreBytes-tail x xs one) two i

zeros : (n : ℕ) → AreBytes (replicate n 0)
zeros zero i = omega arith
zeros (suc n) zero = omega arith
zeros (suc n) (suc i) = zeros n i

-- the bytes of a name, with its length before them and bytes 0 behind
abbrev padded : List ℕ → List ℕ
padded name = padded_name name

padded_length : (name : List ℕ) → length (padded name) ≡ 4 * ((length name + 4) / 4)
padded_length name = simp (length-append, length-replicate) (omega arith)

pub padded_bytes : (name : List ℕ) → length name < 128 → AreBytes name → AreBytes (padded name)
padded_bytes name short bytes zero = omega arith
padded_bytes name short bytes (suc i) =
    bytes_behind name (replicate (3 - length name % 4) 0) bytes (zeros (3 - length name % 4)) i

pub padded_words : (name : List ℕ) → length (words_of (padded name)) ≡ (length name + 4) / 4
padded_words name = let long : length (padded name) ≡ 4 * ((length name + 4) / 4) =
    padded_length name in length-words_of (padded name) ∙ omega arith

-- bytes of whole words are those of their words
pub bytes_back : (n : ℕ) (bs : List ℕ) → length bs ≡ 4 * n → AreBytes bs → bytes_of (words_of bs) ≡ bs
bytes_back n bs long bytes =
    let all : take (4 * n) bs ≡ bs = take_all (4 * n) bs (omega arith) in
    let words : take n (words_of bs) ≡ words_of bs = take_all n (words_of bs) (rw length-words_of (omega arith)) in
    let e : bytes_of (take n (words_of bs)) ≡ take (4 * n) bs =
    bytes_of-words_of n bs (omega arith) (subst (λ ys. AreBytes ys) (sym all) bytes) in
    ap (λ ws. bytes_of ws) (sym words) ∙ e ∙ all

-- the low seven bits of a word are those of its first byte
low_bits : (a : ℕ) (bs : List ℕ) → a < 128 → word_of (a ∷ bs) % 128 ≡ a
unfolding word_of
low_bits a bs small = omega arith

-- the first word behind which others stand
first_word : (bs ws : List ℕ) → 4 ≤ length bs → get_or (words_of bs ++ ws) 0 0 ≡ word_of bs
first_word bs ws room =
    let some : 0 < length (words_of bs) = rw length-words_of (omega arith) in
    get_or_append_left (words_of bs) ws 0 0 some ∙ get_or-words_of bs 0 (omega arith)

-- a name's length, its words and its bytes, read from its text
named_length : (name ws : List ℕ) → length name < 128 → get_or (words_of (padded name) ++ ws) 0 0 % 128 ≡ length name
named_length name ws short =
    let long : length (padded name) ≡ 4 * ((length name + 4) / 4) = padded_length name in
    ap (λ w. w % 128) (first_word (padded name) ws (omega arith))
    ∙ low_bits (length name) (name ++ replicate (3 - length name % 4) 0) short

named_bytes : (name ws : List ℕ) → length name < 128 → AreBytes name
    → take (length name) (drop 1 (bytes_of (words_of (padded name) ++ ws))) ≡ name
named_bytes name ws short bytes =
    let back : bytes_of (words_of (padded name)) ≡ padded name =
    bytes_back ((length name + 4) / 4) (padded name) (padded_length name) (padded_bytes name short bytes) in
    let joined : bytes_of (words_of (padded name) ++ ws) ≡ padded name ++ bytes_of ws =
    flat_map-append _ (words_of (padded name)) ws ∙ ap (λ ys. ys ++ bytes_of ws) back in
    ap (λ ys. take (length name) (drop 1 ys)) joined
    ∙ ap (λ ys. take (length name) ys) (append_assoc name (replicate (3 - length name % 4) 0) (bytes_of ws))
    ∙ take_at name (replicate (3 - length name % 4) 0 ++ bytes_of ws) (length name) refl

-- the id's words, and the id that they are read as
id_size : (flags : ℕ) (id : Option ℕ) → has_id flags ≡ is_some id → id_words flags ≡ length (written_id id)
id_size flags None e = ap (λ yes. if yes then 2 else 0) e
id_size flags (Some x) e = ap (λ yes. if yes then 2 else 0) e

id_back : (flags : ℕ) (id : Option ℕ) (ws : List ℕ) → has_id flags ≡ is_some id → id_of flags (written_id id ++ ws) ≡ id
id_back flags None ws e = ap (λ yes. if yes then Some (slice_index ws 0 + 2 ^ 32 * slice_index ws 1) else None) e
id_back flags (Some x) ws e =
    let whole : x % 2 ^ 32 + 2 ^ 32 * (x / 2 ^ 32) ≡ x = omega arith in
    ap (λ yes. if yes then Some (x % 2 ^ 32 + 2 ^ 32 * (x / 2 ^ 32)) else None) e ∙ ap (λ y. Some y) whole

-- the extra families behind an id
families_back : (flags : ℕ) (before families ws : List ℕ) → id_words flags ≡ length before
    → family_count flags ≡ length families
    → families_of flags (before ++ (families ++ ws)) ≡ families
families_back flags before families ws one two =
    ap (λ ys. take (family_count flags) ys) (drop_at before (families ++ ws) (id_words flags) (sym one))
    ∙ take_at families ws (family_count flags) (sym two)

-- the first word behind others
word_behind : (ws : List ℕ) (k : ℕ) (ys : List ℕ) → drop k ws ≡ ys → slice_index ws k ≡ get_or ys 0 0
word_behind ws k ys at = ap (λ n. get_or ws n 0) (sym (add-zero k)) ∙ sym (get_or-drop k ws 0 0)
    ∙ ap (λ zs. get_or zs 0 0) at

-- the name behind both
name_length_back : (flags : ℕ) (name ws rest : List ℕ) → length name < 128
    → drop (name_at flags) ws ≡ words_of (padded name) ++ rest
    → name_length flags ws ≡ length name
name_length_back flags name ws rest short at =
    ap (λ w. w % 128) (word_behind ws (name_at flags) (words_of (padded name) ++ rest) at)
    ∙ named_length name rest short

name_size : (flags : ℕ) (name : Option (ArrayVec ℕ)) (ws rest : List ℕ) → has_name flags ≡ is_some name
    → IfSome name (λ n. length n.items < 128)
    → drop (name_at flags) ws ≡ written_name name ++ rest → name_words flags ws ≡ length (written_name name)
name_size flags None ws rest e short at = ap (λ yes. if yes then (name_length flags ws + 4) / 4 else 0) e
name_size flags (Some name) ws rest e short at =
    ap (λ yes. if yes then (name_length flags ws + 4) / 4 else 0) e
    ∙ ap (λ n. (n + 4) / 4) (name_length_back flags name.items ws rest short at) ∙ sym (padded_words name.items)

name_back : (flags : ℕ) (name : Option (ArrayVec ℕ)) (ws rest : List ℕ) → has_name flags ≡ is_some name
    → IfSome name (λ n. length n.items < 128)
    → IfSome name (λ n. AreBytes n.items) → drop (name_at flags) ws ≡ written_name name ++ rest
    → name_of flags ws ≡ name
name_back flags None ws rest e short bytes at =
    ap (λ yes. if yes then Some
    (record { items = take (name_length flags ws) (drop 1 (bytes_of (drop (name_at flags) ws))) }) else None) e
name_back flags (Some name) ws rest e short bytes at =
    ap (λ yes. if yes then Some
    (record { items = take (name_length flags ws) (drop 1 (bytes_of (drop (name_at flags) ws))) }) else None) e
    ∙ ap (λ n. Some (record { items = take n (drop 1 (bytes_of (drop (name_at flags) ws))) }))
    (name_length_back flags name.items ws rest short at)
    ∙ ap (λ ys. Some (record { items = take (length name.items) (drop 1 (bytes_of ys)) })) at
    ∙ ap (λ ys. Some (record { items = ys })) (named_bytes name.items rest short bytes)

abbrev partition_with : ℕ → ℕ → Option ℕ → List ℕ → Option (ArrayVec ℕ) → Partition
partition_with at flag_word i f n =
    record { location = at; flags = flag_word; id = i; families = record { items = f }; name = n }

-- partitions of equal parts are equal
same_parts : (at flag_word : ℕ) (i j : Option ℕ) (f g : List ℕ) (n m : Option (ArrayVec ℕ)) → i ≡ j → f ≡ g → n ≡ m
    → partition_with at flag_word i f n ≡ partition_with at flag_word j g m
same_parts at flag_word i j f g n m one two three =
    ap (λ x. partition_with at flag_word x f n) one ∙ ap (λ x. partition_with at flag_word j x n) two
    ∙ ap (λ x. partition_with at flag_word j g x) three

-- what follows the flag word of a partition, and others behind it
abbrev tail_text : Partition → List ℕ
tail_text p = written_id p.id ++ p.families.items ++ written_name p.name

module _ (p : Partition) (writable : IsReadablePartition p) (rest : List ℕ) where
  abbrev behind : List ℕ
  behind = tail_text p ++ rest

  -- where the name stands
  name_begins : length (written_id p.id ++ p.families.items) ≡ name_at p.flags
  name_begins =
      let before : id_words p.flags ≡ length (written_id p.id) = id_size p.flags p.id writable.agrees.id in
      let families : family_count p.flags ≡ length p.families.items = writable.agrees.families in
      length-append (written_id p.id) p.families.items ∙ omega arith

  name_here : drop (name_at p.flags) behind ≡ written_name p.name ++ rest
  name_here =
      ap (λ ys. drop (name_at p.flags) ys) (append_assoc (written_id p.id ++ p.families.items)
      (written_name p.name) rest)
      ∙ drop_at (written_id p.id ++ p.families.items) (written_name p.name ++ rest) (name_at p.flags) name_begins

  -- the words behind the flag word are all of the partition's
  tail_size : tail_words p.flags behind ≡ length (tail_text p)
  tail_size =
      let size : name_words p.flags behind ≡ length (written_name p.name) =
      name_size p.flags p.name behind rest writable.agrees.name writable.short name_here in
      let begins : length (written_id p.id ++ p.families.items) ≡ name_at p.flags = name_begins in
      sym (length-append (written_id p.id ++ p.families.items) (written_name p.name) ∙ omega arith)

  -- the parts stand one behind the other
  in_turn : behind ≡ written_id p.id ++ (p.families.items ++ (written_name p.name ++ rest))
  in_turn = append_assoc (written_id p.id ++ p.families.items) (written_name p.name) rest
      ∙ append_assoc (written_id p.id) p.families.items (written_name p.name ++ rest)

  id_read : id_of p.flags behind ≡ p.id
  id_read = ap (λ ys. id_of p.flags ys) in_turn
      ∙ id_back p.flags p.id (p.families.items ++ (written_name p.name ++ rest)) writable.agrees.id

  families_read : families_of p.flags behind ≡ p.families.items
  families_read =
      ap (λ ys. families_of p.flags ys) in_turn
      ∙ families_back p.flags (written_id p.id) p.families.items (written_name p.name ++ rest)
      (id_size p.flags p.id writable.agrees.id) writable.agrees.families

  name_read : name_of p.flags behind ≡ p.name
  name_read = name_back p.flags p.name behind rest writable.agrees.name writable.short writable.bytes name_here

  partition_back : partition_of p.location p.flags behind ≡ p
  partition_back =
      same_parts p.location p.flags (id_of p.flags behind) p.id (families_of p.flags behind) p.families.items
      (name_of p.flags behind) p.name
      id_read families_read name_read

le_true : (a b : ℕ) → a ≤ b → nat_le a b ≡ true
le_true a b le = grind (arith, nat_tests)

-- what stands behind two words and so many more
drop_two : (k first second : ℕ) (ws : List ℕ) → drop (2 + k) (first ∷ second ∷ ws) ≡ drop k ws
drop_two k first second ws = let e : 2 + k ≡ suc (suc k) = omega arith in ap (λ n. drop n (first ∷ second ∷ ws)) e

-- one partition and those behind it
one_more : (n at flag_word : ℕ) (ws : List ℕ) (k : ℕ) (p : Partition) (parts : List Partition) (rest : List ℕ)
    → tail_words flag_word ws ≡ k → k ≤ length ws
    → drop k ws ≡ rest → partition_of at flag_word ws ≡ p → partitions_in n rest ≡ Some parts
    → partitions_in (suc n) (at ∷ flag_word ∷ ws) ≡ Some (p ∷ parts)
one_more n at flag_word ws k p parts rest size room past one more =
    ap (λ fits. option_and_then
    (λ m. option_map (λ ps. partition_of at flag_word ws ∷ ps) (partitions_in n (drop m (at ∷ flag_word ∷ ws))))
    (if fits then Some (2 + tail_words flag_word ws) else None))
    (le_true (tail_words flag_word ws) (length ws) (omega arith))
    ∙ ap (λ ys. option_map (λ ps. partition_of at flag_word ws ∷ ps) (partitions_in n ys))
    (drop_two (tail_words flag_word ws) at flag_word ws)
    ∙ ap (λ m. option_map (λ ps. partition_of at flag_word ws ∷ ps) (partitions_in n (drop m ws))) size
    ∙ ap (λ ys. option_map (λ ps. partition_of at flag_word ws ∷ ps) (partitions_in n ys)) past
    ∙ ap (λ o. option_map (λ ps. partition_of at flag_word ws ∷ ps) o) more
    ∙ ap (λ q. Some (q ∷ parts)) one

-- partitions that were written are read again, where they fill the list
pub partitions_back : (parts : List Partition) → AllByRecursion IsReadablePartition parts
    → partitions_in (length parts) (flat_map written_partition parts) ≡ Some parts
partitions_back [] all = refl
partitions_back (p ∷ parts) all =
    one_more (length parts) p.location p.flags (tail_text p ++ flat_map written_partition parts)
    (length (tail_text p)) p parts (flat_map written_partition parts)
    (tail_size p all.0 (flat_map written_partition parts))
    (let long : length (tail_text p ++ flat_map written_partition parts)
    ≡ length (tail_text p) + length (flat_map written_partition parts) =
    length-append (tail_text p) (flat_map written_partition parts) in omega arith)
    (drop_at (tail_text p) (flat_map written_partition parts) (length (tail_text p)) refl)
    (partition_back p all.0 (flat_map written_partition parts))
    (partitions_back parts all.1)
