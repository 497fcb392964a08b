-- The binary of segments in SRAM has one block in its loop, whose map has the segments' loads.
use Rattle.std.proofs.Common.{◌≡◌, ℕ, suc, ◌+◌, ◌*◌, ◌%◌, ◌<◌, ◌≤◌, ◌&&◌, true, false, nat_le, nat_lt, pos, List, [], ◌∷◌, ◌++◌, length, refl, sym, ap, subst, ◌∙◌, inl, inr, arith, length-append, Some, Ok, slice_get}
use Rattle.std.specs.Prelude.{slice_index, position, ◌+ℤ◌}
use Rattle.std.specs.List.{AllByRecursion}
use Rattle.std.specs.Option.{option_and_then}
use Rattle.std.specs.Int.{cast_unsigned, w32}
use Rattle.std.proofs.lemmas.Bool.{cases_lt, lt-ltb, true≢false}
use Rattle.std.proofs.lemmas.Bool.Decides.{nat_tests}
use Rattle.std.proofs.lemmas.Int.{ints}
use Rattle.std.proofs.lemmas.List.{get_or_append_left}
use Rattle.std.proofs.lemmas.Option.{none-some}
use Rattle.pico_board.specs.declared.boot.Cpu.{Cpu}
use Rattle.block_codec.specs.declared.definition.Def.{Def}
use Rattle.block_codec.specs.declared.items.Item.{Item}
use Rattle.block_codec.specs.declared.kinds.TheConstants.{LOAD_MAP}
use Rattle.block_codec.specs.Blocks.{BlockAt, BlockView, block_size, block_words, end_word, frame, last_item}
use Rattle.block_codec.specs.Items.{item_at, items_of}
use Rattle.block_codec.specs.Kinds.{is_of_kind, item_of_kind}
use Rattle.block_codec.proofs.AtLemmas.{BlockAt-unique}
use Rattle.block_loop.specs.Loop.{IsFirstBlock, IsLoop, shares, target}
use Rattle.image_def.specs.Definition.{def_of}
use Rattle.load_map.specs.declared.load.Load.{Load}
use Rattle.part_table.proofs.TestLemmas.{search_of}
use Rattle.image_check.specs.Addressing.{in_flash}
use Rattle.image_check.specs.Rules.{item_loads, map_loads}
use Rattle.image_pack.proofs.LoadsBackLemmas.{IsReadable, loads-back}
use Rattle.image_pack.proofs.OneItemLemmas.{find_first, find_next, items_alone, items_then, of_kind}
use Rattle.image_pack.proofs.SealedDefLemmas.{def_is}
use Rattle.image_pack.proofs.SealedPartLemmas.{length-entries, header_high, says_type}
use Rattle.part_table.proofs.RoundTripLemmas.{type_is}
use Rattle.elf_pack.specs.declared.segment.Segment.{Segment}
use Rattle.elf_pack.specs.Binaries.{first_stack, loads_from, sram_items, first_storage}
use Rattle.elf_pack.proofs.StoredLemmas.{block}
use Rattle.elf_pack.proofs.StoringLemmas.{entry_head, entry_item, length-loads, map_body, map_head, map_item, type_item, type_word}

-- a block at 0 that links to itself is the whole loop
module _ (w : List ℕ) (b : BlockView) (start : b.at ≡ 0) (self : b.link ≡ pos 0) (stands : BlockAt w 0 b) where
  first-is : (a : BlockView) → IsFirstBlock w a → a ≡ b
  first-is a first =
      let at_0 : a.at ≡ 0 = elim (cases_lt 0 a.at) [
        | inl lt ↦ absurd (first.least 0 b lt stands)
        | inr le ↦ omega (arith, le)
      ] in
      BlockAt-unique w 0 a b (subst (λ x. BlockAt w x a) at_0 first.stands) stands

  second-not : (c : BlockView) → target b ≡ pos c.at → shares b c ≡ false → ⊥
  second-not c leads apart =
      let none : pos 0 ≡ pos c.at = sym (ap (λ x. pos x) start ∙ refl) ∙ at_b ∙ leads in
      let c_at : c.at ≡ 0 = omega (arith, ints, none) in
      true≢false (sym (over b.at c.at (block_size b) (block_size c) (omega (arith, start, c_at))
      (omega (arith, start, c_at))) ∙ apart)
    where
      at_b : pos b.at ≡ target b
      at_b = let h : pos b.at ≡ pos b.at +ℤ pos 0 = omega (arith, ints) in h ∙ ap (λ z. pos b.at +ℤ z) (sym self)

      over : (x y m n : ℕ) → x < y + n → y < x + m → (nat_lt x (y + n) && nat_lt y (x + m)) ≡ true
      over x y m n one two = rw (lt-ltb x (y + n) one, lt-ltb y (x + m) two) refl

  pub loop-one : (loop : List BlockView) → IsLoop w loop → loop ≡ b ∷ []
  loop-one [] is = absurd (omega (arith, is.chain.some))
  loop-one (a ∷ []) is = ap (λ x. x ∷ []) (first-is a (is.chain.first a refl))
  loop-one (a ∷ c ∷ rest) is =
      let same = first-is a (is.chain.first a refl) in
      absurd (second-not c (subst (λ x. target x ≡ pos c.at) same (is.chain.linked 0 a c refl refl))
      (subst (λ x. shares x c ≡ false) same (is.chain.apart 0 1 a c (omega arith) refl refl)))

-- the last of one element
pub last-of-one : {X : Type 0} (before behind : List X) (b x : X) → b ∷ [] ≡ before ++ x ∷ behind → x ≡ b
last-of-one [] behind b x is = cc
last-of-one (y ∷ ys) behind b x is =
    let long = ap length is in
    let sum = length-append ys (x ∷ behind) in
    absurd (omega (arith, long, sum))

below-limit : (n : ℕ) → n < 128 → nat_le 128 n ≡ false
below-limit n lt = grind (arith, nat_tests)

module _ (cpu : Cpu) (entry : ℕ) (xs : List Segment) (few : length xs ≤ 29) where
  abbrev b : BlockView
  b = block cpu entry xs few

  abbrev loads : List Load
  loads = loads_from first_storage xs

  abbrev head : ℕ
  head = map_head cpu entry xs few

  abbrev body : List ℕ
  body = map_body cpu entry xs few

  abbrev the_map : Item
  the_map = item_at 5 head

  abbrev the_items : List Item
  the_items = item_at 1 (type_word cpu entry xs few) ∷ item_at 2 (entry_head cpu entry xs few) ∷ the_map ∷ []

  items-are : items_of (sram_items cpu entry xs) ≡ the_items
  unfolding sram_items
  items-are =
      items_then 1 (type_word cpu entry xs few) [] (entry_head cpu entry xs few ∷ entry ∷ first_stack ∷ head ∷ body)
      (type_item cpu entry xs few).size
      ∙ ap (λ ys. item_at 1 (type_word cpu entry xs few) ∷ ys)
      (items_then 2 (entry_head cpu entry xs few) (entry ∷ first_stack ∷ []) (head ∷ body)
      (entry_item cpu entry xs few).size
      ∙ ap (λ ys. item_at 2 (entry_head cpu entry xs few) ∷ ys)
      (items_alone 5 head body (map_item cpu entry xs few).size))

  map-sought : item_of_kind LOAD_MAP the_items ≡ Some the_map
  map-sought =
      find_next LOAD_MAP (item_at 1 (type_word cpu entry xs few))
      (item_at 2 (entry_head cpu entry xs few) ∷ the_map ∷ [])
      (of_kind 0x42 LOAD_MAP (item_at 1 (type_word cpu entry xs few)) (says_type cpu false).kind)
      ∙ find_next LOAD_MAP (item_at 2 (entry_head cpu entry xs few)) (the_map ∷ [])
      (of_kind 0x44 LOAD_MAP (item_at 2 (entry_head cpu entry xs few)) (type_is 0x44 3 0 (omega arith)))
      ∙ find_first LOAD_MAP the_map []
      (of_kind 0x06 LOAD_MAP the_map (type_is 0x06 (1 + 3 * length loads) (length loads) (omega arith)))

  map-found : option_and_then (slice_get the_items) (position (is_of_kind LOAD_MAP) the_items) ≡ Some the_map
  map-found = elim (search_of (is_of_kind LOAD_MAP) the_items) [
    | inl absent ↦ absurd (none-some the_map (sym absent.unfound ∙ map-sought))
    | inr found ↦
        ap (option_and_then (slice_get the_items)) found.2.place
        ∙ found.2.at ∙ sym found.2.sought ∙ map-sought
  ]

  count_few : length loads ≤ 29
  count_few = omega (arith, few, length-loads first_storage xs)

  map-high : the_map.high ≡ length loads
  map-high =
      header_high 0x06 (1 + 3 * length loads) (length loads) (omega arith) (omega (arith, count_few))
      (omega (arith, count_few))

  words-there : (j : ℕ) → j < 3 * length loads → slice_index (block_words b) (5 + 1 + j) ≡ slice_index body j
  unfolding frame sram_items
  words-there j lt =
      let rest : List ℕ =
      last_item (length (sram_items cpu entry xs)) ∷ cast_unsigned w32 (pos 0) ∷ end_word ∷ [] in
      let place : 5 + 1 + j ≡ suc (suc (suc (suc (suc (suc j))))) = omega arith in
      ap (slice_index (block_words b)) place
      ∙ get_or_append_left body rest 0 j (omega (arith, lt, length-entries 20 loads))

  module _ (def : Def) (is : def_of b ≡ Ok def) where
    map-there : option_and_then (slice_get (items_of b.items)) def.map_item ≡ Some the_map
    map-there =
        sym (ap (λ (d : Def). option_and_then (slice_get (items_of b.items)) d.map_item) (def_is b def is))
        ∙ ap (λ (ys : List Item). option_and_then (slice_get ys) (position (is_of_kind LOAD_MAP) ys)) items-are
        ∙ map-found

    -- the loads of the block's map
    pub block-loads : (n : ℕ) (given : List Load) → AllByRecursion (IsReadable 20 n) loads
        → map_loads in_flash n b def ≡ Ok given → given ≡ loads
    block-loads n given all mapped =
        loads-back in_flash.base n in_flash.in_place b the_map 20 refl (omega arith) loads given all
        (ap (λ k. k % 128) map-high ∙ omega (arith, count_few))
        (ap (λ k. nat_le 128 k) map-high ∙ below-limit (length loads) (omega (arith, count_few))) words-there
        (sym (ap (item_loads in_flash n b) map-there) ∙ mapped)
