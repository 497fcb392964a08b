-- A sealed image keeps the ENTRY_POINT of its binary, or else its VECTOR_TABLE.
use Rattle.std.proofs.Common.{◌≡◌, ℕ, ◌+◌, ◌-◌, ◌<◌, ◌≤◌, ◌==◌, Bool, true, false, cond, List, [], ◌∷◌, length, get_or, take, drop, ℤ, refl, sym, ap, subst, ◌∙◌, arith, Option, Some, None, Ok, option_map, get_or-drop, length-drop}
use Rattle.std.specs.Option.{option_or}
use Rattle.std.proofs.lemmas.Bool.{eqb-true}
use Rattle.std.proofs.lemmas.Bool.Decides.{nat_tests}
use Rattle.std.proofs.lemmas.Grind.{common_steps}
use Rattle.std.proofs.lemmas.List.{get_or-take, length-take-le}
use Rattle.std.proofs.lemmas.Option.{none-some}
use Rattle.block_codec.specs.declared.definition.Def.{Def}
use Rattle.block_codec.specs.declared.definition.EntryPoint.{EntryPoint}
use Rattle.block_codec.specs.declared.items.Item.{Item}
use Rattle.block_codec.specs.declared.kinds.TheConstants.{ENTRY_POINT, HASH_DEF, HASH_VALUE, VECTOR_TABLE}
use Rattle.block_codec.specs.Blocks.{BlockView, IsBlock, block_words}
use Rattle.block_codec.specs.Items.{items_of, size_of, type_byte}
use Rattle.block_codec.specs.Kinds.{first_spelling, is_of_kind, item_of_kind}
use Rattle.block_codec.proofs.FrameLemmas.{length-frame, word-item}
use Rattle.block_codec.proofs.ItemLemmas.{IsItemOf-from_contains}
use Rattle.image_def.specs.Definition.{def_of, entry_point_in, second_word}
use Rattle.image_def.proofs.FaultLemmas.{in_range, sound_item}
use Rattle.image_def.proofs.RelationLemmas.{faultless_from_ok}
use Rattle.load_map.specs.declared.load.Load.{Load}
use Rattle.part_table.proofs.SearchLemmas.{contained}
use Rattle.part_table.proofs.TestLemmas.{found_place}
use Rattle.part_table.specs.Written.{header}
use Rattle.image_pack.specs.declared.spec.SealSpec.{SealSpec}
use Rattle.image_pack.specs.Faults.{IsRightSpec}
use Rattle.image_pack.specs.Sealing.{copied_words, item_words_of, sealed_items}
use Rattle.image_pack.specs.Starts.{KeepsStart}
use Rattle.image_pack.proofs.OneItemLemmas.{IsCopied}
use Rattle.image_pack.proofs.SealedBackLemmas.{items_there, sealed_block}
use Rattle.image_pack.proofs.SealedDefLemmas.{def_is}
use Rattle.image_pack.proofs.SealedItemLemmas.{copied_sought, copied_word, no_entry_alone, no_entry_beside, no_vector_alone}
use Rattle.image_pack.proofs.SealedPartLemmas.{are_parts, hash_count, items_joined, map_body, map_head, type_word, value_body, version_body, version_head}

-- what the words of an ENTRY_POINT item say, header first
abbrev said_by : List ℕ → EntryPoint
said_by e = record {
  pc = get_or e 1 0;
  sp = get_or e 2 0;
  limit = cond (length e == 4) (get_or e 3 0) 0;
}

module _ (ws e : List ℕ) (f n : ℕ) (long : length e ≡ n)
    (word : (k : ℕ) → k < n → get_or ws (f + k) 0 ≡ get_or e k 0) where
  says-entry : 3 ≤ n
      → record { pc = get_or ws (f + 1) 0; sp = get_or ws (f + 2) 0; limit = cond (n == 4) (get_or ws (f + 3) 0) 0 }
      ≡ said_by e
  says-entry some =
      let one = word 1 (omega (arith, some)) in
      let two = word 2 (omega (arith, some)) in
      let three = limit (n == 4) refl ∙ ap (λ m. cond (m == 4) (get_or e 3 0) 0) (sym long) in
      λ t. record { pc = one t; sp = two t; limit = three t }
    where
      limit : (four : Bool) → (n == 4) ≡ four → cond four (get_or ws (f + 3) 0) 0 ≡ cond four (get_or e 3 0) 0
      limit true is = word 3 (let same = eqb-true n 4 is in omega (arith, same))
      limit false is = refl

-- the words of an item of a block
module _ (b : BlockView) (p : List ℕ) (block : IsBlock p b.items b.link) (def : Def) (read : def_of b ≡ Ok def) where
  record Stands (kind least : ℕ) (item : Item) : Type 0 where
    long : length (item_words_of b (Some item)) ≡ item.words
    least_words : least ≤ item.words
    word : (k : ℕ) → k < item.words
        → get_or (block_words b) (item.first + k) 0 ≡ get_or (item_words_of b (Some item)) k 0
    kind_of : type_byte (get_or (item_words_of b (Some item)) 0 0) ≡ kind

  entry_kind : (k : ℕ) → (first_spelling k == ENTRY_POINT) ≡ true → k ≡ 0x44
  entry_kind k e = grind (arith, nat_tests, common_steps)

  table_kind : (k : ℕ) → (first_spelling k == VECTOR_TABLE) ≡ true → k ≡ 3
  table_kind k e = grind (arith, nat_tests, common_steps)

  item_stands : (kind least : ℕ) (item : Item) → item_of_kind kind (items_of b.items) ≡ Some item → 1 ≤ least
      → least ≤ item.words → ((k : ℕ) → (first_spelling k == kind) ≡ true → k ≡ kind) → Stands kind least item
  item_stands kind least item is some enough named =
      let found = found_place (is_of_kind kind) (items_of b.items) item is in
      let inside = IsItemOf-from_contains b.items item block.whole
      (contained (items_of b.items) found.0 item found.1) in
      let size = length-frame b.items b.link in
      let rest = length-drop item.first (block_words b) in
      let count : item.first + item.words - item.first ≡ item.words = omega arith in
      let taken : item_words_of b (Some item) ≡ take item.words (drop item.first (block_words b)) =
      ap (λ n. take n (drop item.first (block_words b))) count in
      let word : (k : ℕ) → k < item.words
      → get_or (block_words b) (item.first + k) 0 ≡ get_or (item_words_of b (Some item)) k 0 =
      λ k lt. sym (get_or-drop item.first (block_words b) k 0)
      ∙ sym (get_or-take item.words (drop item.first (block_words b)) k 0 lt)
      ∙ sym (ap (λ xs. get_or xs k 0) taken) in
      let same : item.first + 0 ≡ item.first = omega arith in
      let head : get_or (item_words_of b (Some item)) 0 0 ≡ get_or b.items (item.first - 1) 0 =
      sym (word 0 (omega (arith, some, enough))) ∙ ap (λ n. get_or (block_words b) n 0) same
      ∙ sym (word-item b.items b.link item.first (λ none. omega (arith, none, inside.first))
      (omega (arith, inside.inside, inside.some))) in
      record {
        long = ap length taken
            ∙ length-take-le item.words (drop item.first (block_words b)) (omega (arith, inside.inside, size, rest));
        least_words = enough;
        word = word;
        kind_of = ap type_byte head ∙ sym (ap (λ (i : Item). i.kind) inside.is) ∙ named item.kind found.2;
      }

  entry_stands : (item : Item) → item_of_kind ENTRY_POINT (items_of b.items) ≡ Some item → Stands ENTRY_POINT 3 item
  entry_stands item is =
      let s = sound_item (block_words b) (items_of b.items) ENTRY_POINT item (faultless_from_ok b def read).0.items
      refl is in
      item_stands ENTRY_POINT 3 item is (omega arith) (in_range item 3 4 true s.right).0.0 entry_kind

  table_stands : (item : Item) → item_of_kind VECTOR_TABLE (items_of b.items) ≡ Some item → Stands VECTOR_TABLE 2 item
  table_stands item is =
      let s = sound_item (block_words b) (items_of b.items) VECTOR_TABLE item (faultless_from_ok b def read).0.items
      refl is in
      item_stands VECTOR_TABLE 2 item is (omega arith) (in_range item 2 2 true s.right).0.0 table_kind

  -- what the definition says by its copied item
  own_entry : (one : Option Item) → item_of_kind ENTRY_POINT (items_of b.items) ≡ one
      → def.entry_point ≡ option_map (entry_point_in (block_words b)) one
  own_entry one is =
      sym (ap (λ (d : Def). d.entry_point) (def_is b def read)) ∙ ap (option_map (entry_point_in (block_words b))) is

  own_vector : (two : Option Item) → item_of_kind VECTOR_TABLE (items_of b.items) ≡ two
      → def.vector ≡ option_map (second_word (block_words b)) two
  own_vector two is =
      sym (ap (λ (d : Def). d.vector) (def_is b def read)) ∙ ap (option_map (second_word (block_words b))) is

  -- the words of the copied item, and what they say
  pub data Copied (e : List ℕ) : Type 0 where
    as_entry : (h : ℕ) (body : List ℕ) (is : e ≡ h ∷ body) (kind : type_byte h ≡ 0x44) (size : 3 ≤ length e)
        (says : def.entry_point ≡ Some (said_by e)) → Copied e
    as_table : (h : ℕ) (body : List ℕ) (is : e ≡ h ∷ body) (kind : type_byte h ≡ 3) (size : 2 ≤ length e)
        (none : def.entry_point ≡ None) (says : def.vector ≡ Some (get_or e 1 0)) → Copied e
    as_none : (is : e ≡ []) (none : def.entry_point ≡ None) (no_table : def.vector ≡ None) → Copied e

  headed : (e : List ℕ) → 1 ≤ length e → e ≡ get_or e 0 0 ∷ drop 1 e
  headed [] some = absurd (omega (arith, some))
  headed (h ∷ body) some = refl

  pub copied_of : Copied (copied_words b)
  copied_of = go (item_of_kind ENTRY_POINT (items_of b.items)) (item_of_kind VECTOR_TABLE (items_of b.items)) refl refl
    where
      go : (one two : Option Item) → item_of_kind ENTRY_POINT (items_of b.items) ≡ one
          → item_of_kind VECTOR_TABLE (items_of b.items) ≡ two → Copied (item_words_of b (option_or one two))
      go (Some item) two is other =
          let s = entry_stands item is in
          let e = item_words_of b (Some item) in
          as_entry (get_or e 0 0) (drop 1 e) (headed e (omega (arith, s.long, s.least_words))) s.kind_of
          (omega (arith, s.long, s.least_words))
          (own_entry (Some item) is
          ∙ ap Some (says-entry (block_words b) e item.first item.words s.long s.word s.least_words))
      go None (Some item) is other =
          let s = table_stands item other in
          let e = item_words_of b (Some item) in
          as_table (get_or e 0 0) (drop 1 e) (headed e (omega (arith, s.long, s.least_words))) s.kind_of
          (omega (arith, s.long, s.least_words)) (own_entry None is)
          (own_vector (Some item) other ∙ ap Some (s.word 1 (omega (arith, s.least_words))))
      go None None is other = as_none refl (own_entry None is) (own_vector None other)

-- a new block with the words of a copied item says the same
module _ (spec : SealSpec) (bytes entry : List ℕ) (loads : List Load) (at : ℕ) (link : ℤ) (right : IsRightSpec spec)
    (copied : IsCopied entry) (few : length (sealed_items spec bytes entry loads) ≤ 156) (def : Def)
    (read : def_of (sealed_block spec bytes entry loads at link right copied few) ≡ Ok def) where
  abbrev new_block : BlockView
  new_block = sealed_block spec bytes entry loads at link right copied few

  abbrev new_words : List ℕ
  new_words = block_words new_block

  sealed_entry : (one : Option Item) → item_of_kind ENTRY_POINT (items_of new_block.items) ≡ one
      → def.entry_point ≡ option_map (entry_point_in new_words) one
  sealed_entry one is =
      sym (ap (λ (d : Def). d.entry_point) (def_is new_block def read)) ∙ ap (option_map (entry_point_in new_words)) is

  sealed_vector : (two : Option Item) → item_of_kind VECTOR_TABLE (items_of new_block.items) ≡ two
      → def.vector ≡ option_map (second_word new_words) two
  sealed_vector two is =
      sym (ap (λ (d : Def). d.vector) (def_is new_block def read)) ∙ ap (option_map (second_word new_words)) is

  -- where the copied item stands
  abbrev place : ℕ
  place = 2 + (1 + length (version_body spec bytes entry loads))

  there_word : (k : ℕ) → k < length entry → get_or new_words (place + k) 0 ≡ get_or entry k 0
  there_word k lt =
      copied_word (type_word spec bytes entry loads) (version_head spec bytes entry loads)
      (version_body spec bytes entry loads) entry (map_head spec bytes entry loads) (map_body spec bytes entry loads)
      (header HASH_DEF 2 1) (hash_count spec bytes entry loads) (header HASH_VALUE 9 0)
      (value_body spec bytes entry loads) new_block.items link k (items_joined spec bytes entry loads) lt

  copied_size : (h : ℕ) (body : List ℕ) → entry ≡ h ∷ body → length entry ≡ size_of h
  copied_size h body is =
      let whole = subst IsCopied is copied in
      let long = ap length is in
      omega (arith, whole.1, long)

  pub keeps : (b : BlockView) (p : List ℕ) (block : IsBlock p b.items b.link) (own : Def) (own_read : def_of b ≡ Ok own)
      → Copied b p block own own_read entry → KeepsStart own def
  keeps b p block own own_read (as_entry h body is kind size says) =
      let are = are_parts spec bytes entry loads right copied few in
      let item = ap (item_of_kind ENTRY_POINT) (items_there spec bytes entry loads at link right copied few)
      ∙ copied_sought _ _ _ _ _ _ _ _ _ _ are ENTRY_POINT h body (refl, refl) is
      (ap (λ k. first_spelling k == ENTRY_POINT) kind) in
      let long = copied_size h body is in
      let enough : 3 ≤ size_of h = omega (arith, size, long) in
      let inside : (k : ℕ) → k < size_of h → k < length entry = λ k lt. omega (arith, lt, long) in
      let same = says-entry new_words entry place (size_of h) long (λ k lt. there_word k (inside k lt)) enough in
      record {
        entry = sealed_entry _ item ∙ ap Some same ∙ sym says;
        vector = λ none. absurd (none-some _ (sym none ∙ says));
      }
  keeps b p block own own_read (as_table h body is kind size none says) =
      let are = are_parts spec bytes entry loads right copied few in
      let there = items_there spec bytes entry loads at link right copied few in
      let no_item = ap (item_of_kind ENTRY_POINT) there ∙ no_entry_beside _ _ _ _ _ _ _ _ _ _ are h body is kind in
      let item = ap (item_of_kind VECTOR_TABLE) there
      ∙ copied_sought _ _ _ _ _ _ _ _ _ _ are VECTOR_TABLE h body (refl, refl) is
      (ap (λ k. first_spelling k == VECTOR_TABLE) kind) in
      let second : 1 < length entry = omega (arith, size) in
      let word = there_word 1 second in record {
        entry = sealed_entry None no_item ∙ sym none;
        vector = λ _. sealed_vector _ item ∙ ap Some word ∙ sym says;
      }
  keeps b p block own own_read (as_none is none no_table) =
      let are = are_parts spec bytes entry loads right copied few in
      let there = items_there spec bytes entry loads at link right copied few in
      let no_item = ap (item_of_kind ENTRY_POINT) there ∙ no_entry_alone _ _ _ _ _ _ _ _ _ _ are is in
      let no_vector = ap (item_of_kind VECTOR_TABLE) there ∙ no_vector_alone _ _ _ _ _ _ _ _ _ _ are is in record {
        entry = sealed_entry None no_item ∙ sym none;
        vector = λ _. sealed_vector None no_vector ∙ sym no_table;
      }
