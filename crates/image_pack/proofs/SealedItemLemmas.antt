-- The item words of a new block, by its parts: which items they are, and where they stand.
use Rattle.std.proofs.Common.{◌≡◌, ℕ, suc, ◌+◌, ◌<◌, ◌==◌, true, false, List, [], ◌∷◌, ◌++◌, length, refl, sym, ap, ◌∙◌, inl, inr, arith, None, Some, length-append, append_assoc, ℤ}
use Rattle.std.specs.List.{slice_get, slice_index, position}
use Rattle.std.specs.Option.{option_and_then}
use Rattle.std.specs.Int.{cast_unsigned, w32}
use Rattle.std.proofs.lemmas.List.{get_or-append-add, get_or_append_left}
use Rattle.std.proofs.lemmas.Option.{none-some}
use Rattle.block_codec.specs.declared.items.Item.{Item}
use Rattle.block_codec.specs.declared.kinds.TheConstants.{ENTRY_POINT, HASH_VALUE, IMAGE_TYPE, LOAD_MAP, VECTOR_TABLE, VERSION}
use Rattle.block_codec.specs.Blocks.{end_word, frame, last_item, start_word}
use Rattle.block_codec.specs.Items.{AreItems, item_at, items_from, items_of, size_of, type_byte}
use Rattle.block_codec.specs.Kinds.{first_spelling, is_of_kind, item_of_kind}
use Rattle.part_table.proofs.TestLemmas.{search_of}
use Rattle.image_pack.proofs.OneItemLemmas.{IsCopied, IsOneItem, copied_items, copied_list, copied_then, find_copied, find_first, find_next, item_alone, item_then, items_alone, items_then, of_kind}

module _ (iw vh : ℕ) (vb entry : List ℕ) (lh : ℕ) (lb : List ℕ) (hh hc dh : ℕ) (db : List ℕ) where
  -- the words one item after another
  abbrev pub joined : List ℕ
  joined = iw ∷ vh ∷ vb ++ (entry ++ (lh ∷ lb ++ (hh ∷ hc ∷ dh ∷ db)))

  -- the parts are items of their kinds
  pub record AreParts : Type 0 where
    pub image_kind : type_byte iw ≡ 0x42
    pub image : size_of iw ≡ 1
    pub version_kind : type_byte vh ≡ 0x48
    pub version : size_of vh ≡ 1 + length vb
    pub copied : IsCopied entry
    pub map_kind : type_byte lh ≡ 0x06
    pub map : size_of lh ≡ 1 + length lb
    pub hash_kind : type_byte hh ≡ 0x47
    pub hash : size_of hh ≡ 2
    pub value_kind : type_byte dh ≡ 0x4b
    pub value : size_of dh ≡ 1 + length db

  -- where the items behind the VERSION item stand
  abbrev pub copied_at : ℕ
  copied_at = 2 + (1 + length vb)

  abbrev pub map_at : ℕ
  map_at = copied_at + length entry

  abbrev pub hash_at : ℕ
  hash_at = map_at + (1 + length lb)

  abbrev pub value_at : ℕ
  value_at = hash_at + 2

  abbrev last_three : List Item
  last_three = item_at map_at lh ∷ item_at hash_at hh ∷ item_at value_at dh ∷ []

  abbrev behind_version : List Item
  behind_version = copied_items copied_at entry ++ last_three

  abbrev pub all_items : List Item
  all_items = item_at 1 iw ∷ item_at 2 vh ∷ behind_version

  module _ (are : AreParts) where
    abbrev one : (h k : ℕ) (body : List ℕ) → type_byte h ≡ k → k < 255 → size_of h ≡ 1 + length body → IsOneItem h body
    one h k body kind low size = record { kind = λ last. omega (arith, kind, low, last); size = size }

    pub are_whole : AreItems joined
    are_whole =
        item_then iw [] (vh ∷ vb ++ (entry ++ (lh ∷ lb ++ (hh ∷ hc ∷ dh ∷ db))))
        (one iw 0x42 [] are.image_kind (omega arith) are.image)
        (item_then vh vb (entry ++ (lh ∷ lb ++ (hh ∷ hc ∷ dh ∷ db)))
        (one vh 0x48 vb are.version_kind (omega arith) are.version)
        (copied_then entry (lh ∷ lb ++ (hh ∷ hc ∷ dh ∷ db)) are.copied
        (item_then lh lb (hh ∷ hc ∷ dh ∷ db) (one lh 0x06 lb are.map_kind (omega arith) are.map)
        (item_then hh (hc ∷ []) (dh ∷ db) (one hh 0x47 (hc ∷ []) are.hash_kind (omega arith) are.hash)
        (item_alone dh db (one dh 0x4b db are.value_kind (omega arith) are.value))))))

    three_are : items_from map_at 0 (lh ∷ lb ++ (hh ∷ hc ∷ dh ∷ db)) ≡ last_three
    three_are =
        items_then map_at lh lb (hh ∷ hc ∷ dh ∷ db) are.map
        ∙ ap (λ xs. item_at map_at lh ∷ xs)
        (items_then hash_at hh (hc ∷ []) (dh ∷ db) are.hash
        ∙ ap (λ xs. item_at hash_at hh ∷ xs) (items_alone value_at dh db are.value))

    pub items_are : items_of joined ≡ all_items
    items_are =
        items_then 1 iw [] (vh ∷ vb ++ (entry ++ (lh ∷ lb ++ (hh ∷ hc ∷ dh ∷ db)))) are.image
        ∙ ap (λ xs. item_at 1 iw ∷ xs)
        (items_then 2 vh vb (entry ++ (lh ∷ lb ++ (hh ∷ hc ∷ dh ∷ db))) are.version
        ∙ ap (λ xs. item_at 2 vh ∷ xs)
        (copied_list copied_at entry (lh ∷ lb ++ (hh ∷ hc ∷ dh ∷ db)) are.copied
        ∙ ap (λ xs. copied_items copied_at entry ++ xs) three_are))

    -- the item of each kind
    pub image_sought : item_of_kind IMAGE_TYPE all_items ≡ Some (item_at 1 iw)
    image_sought =
        find_first IMAGE_TYPE (item_at 1 iw) (item_at 2 vh ∷ behind_version)
        (of_kind 0x42 IMAGE_TYPE (item_at 1 iw) are.image_kind)

    pub version_sought : item_of_kind VERSION all_items ≡ Some (item_at 2 vh)
    version_sought =
        find_next VERSION (item_at 1 iw) (item_at 2 vh ∷ behind_version)
        (of_kind 0x42 VERSION (item_at 1 iw) are.image_kind)
        ∙ find_first VERSION (item_at 2 vh) behind_version (of_kind 0x48 VERSION (item_at 2 vh) are.version_kind)

    behind : (kind : ℕ) → is_of_kind kind (item_at 1 iw) ≡ false → is_of_kind kind (item_at 2 vh) ≡ false
        → item_of_kind kind all_items ≡ item_of_kind kind behind_version
    behind kind a b =
        find_next kind (item_at 1 iw) (item_at 2 vh ∷ behind_version) a
        ∙ find_next kind (item_at 2 vh) behind_version b

    -- the copied item is the one of its kind, and of another kind there is none
    abbrev Elsewhere : ℕ → Type 0
    Elsewhere kind = ((0x42 == kind) ≡ false) × ((0x48 == kind) ≡ false)

    pub copied_sought : (kind h : ℕ) (body : List ℕ) → Elsewhere kind → entry ≡ h ∷ body
        → (first_spelling (type_byte h) == kind) ≡ true → item_of_kind kind all_items ≡ Some (item_at copied_at h)
    copied_sought kind h body front is here =
        behind kind (of_kind 0x42 kind (item_at 1 iw) are.image_kind ∙ front.0)
        (of_kind 0x48 kind (item_at 2 vh) are.version_kind ∙ front.1)
        ∙ ap (λ ws. item_of_kind kind (copied_items copied_at ws ++ last_three)) is
        ∙ find_first kind (item_at copied_at h) last_three here

    none_behind : (kind : ℕ) → (6 == kind) ≡ false → (0x47 == kind) ≡ false → (0x4b == kind) ≡ false
        → item_of_kind kind last_three ≡ None
    none_behind kind a b d =
        find_next kind (item_at map_at lh) (item_at hash_at hh ∷ item_at value_at dh ∷ [])
        (of_kind 0x06 kind (item_at map_at lh) are.map_kind ∙ a)
        ∙ find_next kind (item_at hash_at hh) (item_at value_at dh ∷ [])
        (of_kind 0x47 kind (item_at hash_at hh) are.hash_kind ∙ b)
        ∙ find_next kind (item_at value_at dh) [] (of_kind 0x4b kind (item_at value_at dh) are.value_kind ∙ d)

    no_entry : (rest : List ℕ) → entry ≡ rest
        → item_of_kind ENTRY_POINT (copied_items copied_at rest ++ last_three) ≡ item_of_kind ENTRY_POINT last_three
        → item_of_kind ENTRY_POINT all_items ≡ None
    no_entry rest is passed =
        behind ENTRY_POINT (of_kind 0x42 ENTRY_POINT (item_at 1 iw) are.image_kind)
        (of_kind 0x48 ENTRY_POINT (item_at 2 vh) are.version_kind)
        ∙ ap (λ ws. item_of_kind ENTRY_POINT (copied_items copied_at ws ++ last_three)) is ∙ passed
        ∙ none_behind ENTRY_POINT refl refl refl

    pub no_entry_alone : entry ≡ [] → item_of_kind ENTRY_POINT all_items ≡ None
    no_entry_alone is = no_entry [] is refl

    pub no_entry_beside : (h : ℕ) (body : List ℕ) → entry ≡ h ∷ body → type_byte h ≡ 3
        → item_of_kind ENTRY_POINT all_items ≡ None
    no_entry_beside h body is kind =
        no_entry (h ∷ body) is
        (find_next ENTRY_POINT (item_at copied_at h) last_three (of_kind 3 ENTRY_POINT (item_at copied_at h) kind))

    pub no_vector_alone : entry ≡ [] → item_of_kind VECTOR_TABLE all_items ≡ None
    no_vector_alone is =
        behind VECTOR_TABLE (of_kind 0x42 VECTOR_TABLE (item_at 1 iw) are.image_kind)
        (of_kind 0x48 VECTOR_TABLE (item_at 2 vh) are.version_kind)
        ∙ ap (λ ws. item_of_kind VECTOR_TABLE (copied_items copied_at ws ++ last_three)) is
        ∙ none_behind VECTOR_TABLE refl refl refl

    map_sought : item_of_kind LOAD_MAP all_items ≡ Some (item_at map_at lh)
    map_sought =
        behind LOAD_MAP (of_kind 0x42 LOAD_MAP (item_at 1 iw) are.image_kind)
        (of_kind 0x48 LOAD_MAP (item_at 2 vh) are.version_kind)
        ∙ find_copied LOAD_MAP copied_at entry last_three are.copied refl refl
        ∙ find_first LOAD_MAP (item_at map_at lh) (item_at hash_at hh ∷ item_at value_at dh ∷ [])
        (of_kind 0x06 LOAD_MAP (item_at map_at lh) are.map_kind)

    pub value_sought : item_of_kind HASH_VALUE all_items ≡ Some (item_at value_at dh)
    value_sought =
        behind HASH_VALUE (of_kind 0x42 HASH_VALUE (item_at 1 iw) are.image_kind)
        (of_kind 0x48 HASH_VALUE (item_at 2 vh) are.version_kind)
        ∙ find_copied HASH_VALUE copied_at entry last_three are.copied refl refl
        ∙ find_next HASH_VALUE (item_at map_at lh) (item_at hash_at hh ∷ item_at value_at dh ∷ [])
        (of_kind 0x06 HASH_VALUE (item_at map_at lh) are.map_kind)
        ∙ find_next HASH_VALUE (item_at hash_at hh) (item_at value_at dh ∷ [])
        (of_kind 0x47 HASH_VALUE (item_at hash_at hh) are.hash_kind)
        ∙ find_first HASH_VALUE (item_at value_at dh) [] (of_kind 0x4b HASH_VALUE (item_at value_at dh) are.value_kind)

    -- the LOAD_MAP item, by its index
    pub map_found : option_and_then (slice_get all_items) (position (is_of_kind LOAD_MAP) all_items)
        ≡ Some (item_at map_at lh)
    map_found = elim (search_of (is_of_kind LOAD_MAP) all_items) [
      | inl absent ↦ absurd (none-some (item_at map_at lh) (sym absent.unfound ∙ map_sought))
      | inr found ↦
          ap (option_and_then (slice_get all_items)) found.2.place ∙ found.2.at ∙ sym found.2.sought ∙ map_sought
    ]

  -- the words of a block with these items
  pub words_are : (items : List ℕ) (link : ℤ) → items ≡ joined
      → frame items link ≡ start_word ∷ iw ∷ vh
      ∷ vb ++ (entry ++ (lh ∷ lb ++ (hh ∷ hc ∷ dh ∷ db)))
      ++ (last_item (length items) ∷ cast_unsigned w32 link ∷ end_word ∷ [])
  unfolding frame
  words_are items link is =
      ap (λ ws. start_word ∷ (ws ++ (last_item (length items) ∷ cast_unsigned w32 link ∷ end_word ∷ []))) is

  -- what stands behind the header of the LOAD_MAP item
  pub map_word : (items : List ℕ) (link : ℤ) (k : ℕ) → items ≡ joined → k < length lb
      → slice_index (frame items link) (map_at + 1 + k) ≡ slice_index lb k
  map_word items link k is lt =
      let front : List ℕ = start_word ∷ iw ∷ vh ∷ vb ++ entry in
      let last : List ℕ = last_item (length items) ∷ cast_unsigned w32 link ∷ end_word ∷ [] in
      let rest : List ℕ = (hh ∷ hc ∷ dh ∷ db) ++ last in
      let count : length front ≡ map_at = (let long = length-append vb entry in omega (arith, long)) in
      let parts : vb ++ (entry ++ (lh ∷ lb ++ (hh ∷ hc ∷ dh ∷ db))) ++ last ≡ (vb ++ entry) ++ (lh ∷ lb ++ rest) =
      append_assoc vb (entry ++ (lh ∷ lb ++ (hh ∷ hc ∷ dh ∷ db))) last
      ∙ ap (λ ws. vb ++ ws) (append_assoc entry (lh ∷ lb ++ (hh ∷ hc ∷ dh ∷ db)) last)
      ∙ ap (λ ws. vb ++ (entry ++ lh ∷ ws)) (append_assoc lb (hh ∷ hc ∷ dh ∷ db) last)
      ∙ sym (append_assoc vb entry (lh ∷ lb ++ rest)) in
      let place : map_at + 1 + k ≡ length front + suc k = omega (arith, count) in
      ap (λ ws. slice_index ws (map_at + 1 + k)) (words_are items link is)
      ∙ ap (λ ws. slice_index (start_word ∷ iw ∷ vh ∷ ws) (map_at + 1 + k)) parts
      ∙ ap (λ n. slice_index (front ++ (lh ∷ lb ++ rest)) n) place
      ∙ get_or-append-add front (lh ∷ lb ++ rest) (suc k) 0
      ∙ get_or_append_left lb rest 0 k lt

  -- the words of the copied item
  pub copied_word : (items : List ℕ) (link : ℤ) (k : ℕ) → items ≡ joined → k < length entry
      → slice_index (frame items link) (copied_at + k) ≡ slice_index entry k
  copied_word items link k is lt =
      let front : List ℕ = start_word ∷ iw ∷ vh ∷ vb in
      let last : List ℕ = last_item (length items) ∷ cast_unsigned w32 link ∷ end_word ∷ [] in
      let rest : List ℕ = lh ∷ lb ++ (hh ∷ hc ∷ dh ∷ db) in
      let parts : vb ++ (entry ++ rest) ++ last ≡ vb ++ (entry ++ (rest ++ last)) =
      append_assoc vb (entry ++ rest) last ∙ ap (λ ws. vb ++ ws) (append_assoc entry rest last) in
      let place : copied_at + k ≡ length front + k = omega arith in
      ap (λ ws. slice_index ws (copied_at + k)) (words_are items link is)
      ∙ ap (λ ws. slice_index (start_word ∷ iw ∷ vh ∷ ws) (copied_at + k)) parts
      ∙ ap (λ n. slice_index (front ++ (entry ++ (rest ++ last))) n) place
      ∙ get_or-append-add front (entry ++ (rest ++ last)) k 0
      ∙ get_or_append_left entry (rest ++ last) 0 k lt
