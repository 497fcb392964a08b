-- A sealed image as it is read back: its new block stands behind the bytes before it, and defines the image.
use Rattle.std.proofs.Common.{◌≡◌, ◌⊎◌, ℕ, zero, suc, ◌+◌, ◌-◌, ◌*◌, ◌<◌, ◌≤◌, ◌==◌, if◌then◌else◌, true, false, List, [], ◌∷◌, ◌++◌, length, get_or, take, drop, ℤ, refl, sym, ap, subst, ◌∙◌, inl, inr, arith, Option, Some, None, Ok, length-drop, append_assoc, nat_le}
use Rattle.std.specs.Prelude.{unwrap_or, option_and_then, slice_get}
use Rattle.std.specs.List.{slice_index, slice_range, position}
use Rattle.std.specs.Option.{option_map_or, option_or}
use Rattle.std.specs.Int.{cast_unsigned, w32}
use Rattle.std.proofs.lemmas.Bool.Decides.{nat_tests}
use Rattle.std.proofs.lemmas.Grind.{common_steps}
use Rattle.std.proofs.lemmas.List.{drop_at, get_or-drop, length-take-le}
use Rattle.arrayvec.specs.ArrayVec.{ArrayVec}
use Rattle.pico_board.specs.declared.boot.Cpu.{Cpu}
use Rattle.block_codec.specs.declared.definition.Def.{Def}
use Rattle.block_codec.specs.declared.items.Item.{Item}
use Rattle.block_codec.specs.declared.kinds.TheConstants.{ENTRY_POINT, HASH_DEF, HASH_VALUE, IMAGE_TYPE, LOAD_MAP, VECTOR_TABLE, VERSION}
use Rattle.block_codec.specs.Blocks.{BlockAt, BlockView, IsBlock, block_words, end_word, last_item, start_word}
use Rattle.block_codec.specs.Items.{high_byte, item_at, items_of, size_of, type_byte}
use Rattle.block_codec.specs.Kinds.{digest_of, is_of_kind, item_of_kind, version_of, version_words}
use Rattle.block_codec.specs.Words.{AreWords, bytes_of}
use Rattle.block_codec.proofs.ExactLemmas.{AreWords-drop, AreWords-take}
use Rattle.block_codec.proofs.FrameLemmas.{AreWords-frame, length-frame, word-item}
use Rattle.block_codec.proofs.ItemLemmas.{IsItemOf-from_contains, get_at_drop}
use Rattle.image_def.specs.Definition.{def_of, def_record, no_version}
use Rattle.image_def.specs.Flags.{flags_of, is_trial}
use Rattle.image_def.specs.Rows.{rollback_in, rows_in}
use Rattle.load_map.specs.declared.load.Load.{Load}
use Rattle.part_table.specs.Written.{header}
use Rattle.part_table.proofs.RoundTripLemmas.{size_is}
use Rattle.part_table.proofs.SearchLemmas.{contained}
use Rattle.part_table.proofs.TestLemmas.{found_place}
use Rattle.image_check.specs.declared.examining.Defined.{Defined}
use Rattle.image_check.specs.Valid.{IsDefined}
use Rattle.image_pack.specs.declared.spec.SealSpec.{SealSpec}
use Rattle.image_pack.specs.Faults.{IsRightSpec}
use Rattle.image_pack.specs.ReadBack.{IsHalves}
use Rattle.image_pack.specs.Sealing.{copied_words, item_words_of, packed, row_halves, sealed_items}
use Rattle.image_pack.proofs.OneItemLemmas.{IsCopied}
use Rattle.image_pack.proofs.SealedDefLemmas.{def_is, rollback_says, version_says}
use Rattle.image_pack.proofs.SealedItemLemmas.{all_items, image_sought, items_are, map_at, map_found, value_at, value_sought, version_sought, words_are}
use Rattle.image_pack.proofs.SealedPartLemmas.{are_parts, few_own, halves_are, hash_count, header_high, items_joined, map_body, map_head, rows_of, says_type, sealed_words, type_word, value_body, version_body, version_head, version_size}

-- the copied item is one of its kind, and whole
sought_kind : (kind : ℕ) (item : Item) → (kind ≡ 0x44) ⊎ (kind ≡ 0x03) → is_of_kind kind item ≡ true
    → (item.kind ≡ 0x44) ⊎ (item.kind ≡ 0x03)
sought_kind kind item (inl one) is = inl (grind (arith, nat_tests, common_steps))
sought_kind kind item (inr two) is = inr (grind (arith, nat_tests, common_steps))

copied_from : (ws : List ℕ) (n h : ℕ) → get_or ws 0 0 ≡ h → 1 ≤ n → n ≤ length ws
    → (type_byte h ≡ 0x44) ⊎ (type_byte h ≡ 0x03) → size_of h ≡ n → AreWords ws → IsCopied (take n ws)
copied_from [] n h is some room kind size words = absurd (omega (arith, some, room))
copied_from (x ∷ ws) zero h is some room kind size words = absurd (omega (arith, some))
copied_from (x ∷ ws) (suc n) h is some room kind size words =
    let long = length-take-le n ws (omega (arith, room)) in (
      subst (λ w. (type_byte w ≡ 0x44) ⊎ (type_byte w ≡ 0x03)) (sym is) kind,
      subst (λ w. size_of w ≡ 1 + length (take n ws)) (sym is) (omega (arith, size, long)),
      (words.0, AreWords-take n ws words.1),
    )

module _ (b : BlockView) (p : List ℕ) (block : IsBlock p b.items b.link) where
  copied_item : (kind : ℕ) (item : Item) → (kind ≡ 0x44) ⊎ (kind ≡ 0x03)
      → item_of_kind kind (items_of b.items) ≡ Some item → IsCopied (item_words_of b (Some item))
  copied_item kind item one is =
      let found = found_place (is_of_kind kind) (items_of b.items) item is in
      let inside = IsItemOf-from_contains b.items item block.whole
      (contained (items_of b.items) found.0 item found.1) in
      let here = sought_kind kind item one found.2 in
      let h = get_or b.items (item.first - 1) 0 in
      let long = length-frame b.items b.link in
      let rest = length-drop item.first (block_words b) in
      let kind_is : item.kind ≡ type_byte h = ap (λ (i : Item). i.kind) inside.is in
      let size_is : item.words ≡ size_of h = ap (λ (i : Item). i.words) inside.is in
      let count : item.first + item.words - item.first ≡ item.words = omega arith in
      subst (λ n. IsCopied (take n (drop item.first (block_words b)))) (sym count)
      (copied_from (drop item.first (block_words b)) item.words h
      (get_or-drop item.first (block_words b) 0 0
      ∙ (let same : item.first + 0 ≡ item.first = omega arith in ap (λ n. get_or (block_words b) n 0) same)
      ∙ sym (word-item b.items b.link item.first (λ none. omega (arith, none, inside.first))
      (omega (arith, inside.inside, inside.some))))
      inside.some (omega (arith, inside.inside, long, rest))
      (subst (λ k. (k ≡ 0x44) ⊎ (k ≡ 0x03)) kind_is here) (sym size_is)
      (AreWords-drop item.first (block_words b) (AreWords-frame b.items b.link block.few block.words block.fits)))

  pub copied_is : IsCopied (copied_words b)
  copied_is = go (item_of_kind ENTRY_POINT (items_of b.items)) (item_of_kind VECTOR_TABLE (items_of b.items)) refl refl
    where
      go : (one two : Option Item) → item_of_kind ENTRY_POINT (items_of b.items) ≡ one
          → item_of_kind VECTOR_TABLE (items_of b.items) ≡ two → IsCopied (item_words_of b (option_or one two))
      go (Some item) two is other = copied_item ENTRY_POINT item (inl refl) is
      go None (Some item) is other = copied_item VECTOR_TABLE item (inr refl) other
      go None None is other = tt

-- the definition stands in the window
pub definition_stands : (cpu : Cpu) (w : List ℕ) (loop : List BlockView) (image : Defined) → IsDefined cpu w loop image
    → BlockAt w image.block.at image.block
definition_stands cpu w loop image d =
    let last = d.defines in
    let behind : drop (length last.before) loop ≡ image.block ∷ last.behind =
    ap (drop (length last.before)) last.whole
    ∙ drop_at last.before (image.block ∷ last.behind) (length last.before) refl in
    d.closes.chain.stand (length last.before) image.block
    (get_at_drop loop (length last.before) image.block last.behind behind)

below_limit : (n : ℕ) → n < 128 → nat_le 128 n ≡ false
below_limit n lt = grind (arith, nat_tests)

-- what the new block's definition says
pub record SaysSealed (spec : SealSpec) (def : Def) : Type 0 where
  pub version : def.version ≡ spec.version
  pub rollback : def.rollback ≡ spec.rollback
  pub rows : def.rows ≡ spec.rows
  pub trial : is_trial def.flags ≡ spec.trial
  pub value : (d : List ℕ) × (def.digest ≡ Some d)

module _ (spec : SealSpec) (bytes entry : List ℕ) (loads : List Load) (at : ℕ) (link : ℤ) (right : IsRightSpec spec)
    (copied : IsCopied entry) (few : length (sealed_items spec bytes entry loads) ≤ 156) where
  abbrev pub sealed_block : BlockView
  sealed_block = record { at = at; items = sealed_items spec bytes entry loads; link = link }

  abbrev type_of : ℕ
  type_of = type_word spec bytes entry loads

  abbrev version_of_block : ℕ
  version_of_block = version_head spec bytes entry loads

  abbrev version_rest : List ℕ
  version_rest = version_body spec bytes entry loads

  abbrev map_of : ℕ
  map_of = map_head spec bytes entry loads

  abbrev map_rest : List ℕ
  map_rest = map_body spec bytes entry loads

  abbrev counted : ℕ
  counted = hash_count spec bytes entry loads

  abbrev value_rest : List ℕ
  value_rest = value_body spec bytes entry loads

  abbrev pub items_listed : List Item
  items_listed =
      all_items type_of version_of_block version_rest entry map_of map_rest (header HASH_DEF 2 1) counted
      (header HASH_VALUE 9 0) value_rest

  abbrev pub words : List ℕ
  words = block_words sealed_block

  pub items_there : items_of (sealed_items spec bytes entry loads) ≡ items_listed
  items_there = ap items_of (items_joined spec bytes entry loads)
      ∙ items_are _ _ _ _ _ _ _ _ _ _ (are_parts spec bytes entry loads right copied few)

  abbrev map_place : ℕ
  map_place =
      map_at type_of version_of_block version_rest entry map_of map_rest (header HASH_DEF 2 1) counted
      (header HASH_VALUE 9 0) value_rest

  abbrev value_place : ℕ
  value_place =
      value_at type_of version_of_block version_rest entry map_of map_rest (header HASH_DEF 2 1) counted
      (header HASH_VALUE 9 0) value_rest

  image_there : item_of_kind IMAGE_TYPE (items_of sealed_block.items) ≡ Some (item_at 1 type_of)
  image_there =
      ap (item_of_kind IMAGE_TYPE) items_there
      ∙ image_sought _ _ _ _ _ _ _ _ _ _ (are_parts spec bytes entry loads right copied few)

  version_there : item_of_kind VERSION (items_of sealed_block.items) ≡ Some (item_at 2 version_of_block)
  version_there =
      ap (item_of_kind VERSION) items_there
      ∙ version_sought _ _ _ _ _ _ _ _ _ _ (are_parts spec bytes entry loads right copied few)

  value_there : item_of_kind HASH_VALUE (items_of sealed_block.items)
      ≡ Some (item_at value_place (header HASH_VALUE 9 0))
  value_there =
      ap (item_of_kind HASH_VALUE) items_there
      ∙ value_sought _ _ _ _ _ _ _ _ _ _ (are_parts spec bytes entry loads right copied few)

  map_there : option_and_then (slice_get (items_of sealed_block.items))
      (position (is_of_kind LOAD_MAP) (items_of sealed_block.items))
      ≡ Some (item_at map_place map_of)
  map_there =
      ap (λ (xs : List Item). option_and_then (slice_get xs) (position (is_of_kind LOAD_MAP) xs)) items_there
      ∙ map_found _ _ _ _ _ _ _ _ _ _ (are_parts spec bytes entry loads right copied few)

  -- the words behind the header of the VERSION item
  words_whole : words ≡ start_word ∷ (sealed_words spec bytes entry loads
      ++ (last_item (length sealed_block.items) ∷ cast_unsigned w32 link ∷ end_word ∷ []))
  words_whole =
      words_are type_of version_of_block version_rest entry map_of map_rest (header HASH_DEF 2 1) counted
      (header HASH_VALUE 9 0) value_rest sealed_block.items link (items_joined spec bytes entry loads)

  version_word : slice_index words 3 ≡ spec.version.minor + 65536 * spec.version.major
  version_word = ap (λ ws. slice_index ws 3) words_whole

  abbrev behind_rows : List ℕ
  behind_rows =
      (entry ++ (map_of ∷ map_rest ++ (header HASH_DEF 2 1 ∷ counted ∷ header HASH_VALUE 9 0 ∷ value_rest)))
      ++ (last_item (length sealed_block.items) ∷ cast_unsigned w32 link ∷ end_word ∷ [])

  rows_there : drop 4 words ≡ packed (row_halves spec.rollback spec.rows.items) ++ behind_rows
  rows_there =
      ap (drop 4) words_whole
      ∙ append_assoc (packed (row_halves spec.rollback spec.rows.items))
      (entry ++ (map_of ∷ map_rest ++ (header HASH_DEF 2 1 ∷ counted ∷ header HASH_VALUE 9 0 ∷ value_rest)))
      (last_item (length sealed_block.items) ∷ cast_unsigned w32 link ∷ end_word ∷ [])

  abbrev listed : List ℕ → ArrayVec ℕ
  listed xs = record { items = xs }

  version_item_size : size_of version_of_block ≡ version_words (rows_of spec bytes entry loads)
  version_item_size =
      size_is 0x48 (version_words (rows_of spec bytes entry loads)) (rows_of spec bytes entry loads) (omega arith)
      (omega (
        arith,
        version_size spec bytes entry loads right copied few,
        few_own spec bytes entry loads right copied few,
      ))

  version_item_high : high_byte version_of_block ≡ rows_of spec bytes entry loads
  version_item_high =
      header_high 0x48 (version_words (rows_of spec bytes entry loads)) (rows_of spec bytes entry loads) (omega arith)
      (omega (
        arith,
        version_size spec bytes entry loads right copied few,
        few_own spec bytes entry loads right copied few,
      ))
      (omega (arith, right.rows.few))

  module _ (halves : IsHalves spec.version) (def : Def) (is : def_of sealed_block ≡ Ok def) where
    abbrev has : {X : Type 0} (field : Def → X) → field (def_record words (items_of sealed_block.items)) ≡ field def
    has field = ap field (def_is sealed_block def is)

    pub says_sealed : SaysSealed spec def
    says_sealed =
        let rows =
        rollback_says words version_of_block spec.version spec.rollback spec.rows.items version_item_size
        version_item_high behind_rows right.rollback (halves_are spec right) rows_there in
        let version =
        version_says words version_of_block spec.version spec.rollback spec.rows.items version_item_size
        version_item_high halves version_word in
        let nine : (size_of (header HASH_VALUE 9 0) == 9) ≡ true =
        ap (λ n. n == 9) (size_is 0x4b 9 0 (omega arith) (omega arith)) in
        let value = bytes_of (slice_range words (value_place + 1) (value_place + 9)) in record {
          version =
              sym (has (λ (d : Def). d.version))
              ∙ ap (λ o. unwrap_or (option_and_then (version_of words) o) no_version) version_there
              ∙ ap (λ o. unwrap_or o no_version) version;
          rollback =
              sym (has (λ (d : Def). d.rollback)) ∙ ap (option_and_then (rollback_in words)) version_there ∙ rows.0;
          rows =
              sym (has (λ (d : Def). d.rows))
              ∙ ap (λ o. listed (option_map_or (rows_in words) o [])) version_there ∙ ap listed rows.1;
          trial =
              sym (has (λ (d : Def). is_trial d.flags))
              ∙ ap (λ o. is_trial (option_map_or flags_of o 0)) image_there ∙ (says_type spec.cpu spec.trial).trial_is;
          value = (
            value,
            sym (has (λ (d : Def). d.digest)) ∙ ap (option_and_then (digest_of words)) value_there
                ∙ ap (λ t. if t then Some value else None) nine,
          );
        }

    pub map_item_there : option_and_then (slice_get (items_of sealed_block.items)) def.map_item
        ≡ Some (item_at map_place map_of)
    map_item_there =
        sym (has (λ (d : Def). option_and_then (slice_get (items_of sealed_block.items)) d.map_item)) ∙ map_there
