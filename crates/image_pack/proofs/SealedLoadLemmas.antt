-- The loads of a sealed image are those that its new block was written for.
use Rattle.std.proofs.Common.{◌≡◌, ℕ, ◌+◌, ◌*◌, ◌%◌, ◌^◌, ◌<◌, ◌≤◌, Bool, true, false, nat_le, if◌then◌else◌, ℤ, List, [], ◌∷◌, length, map, refl, sym, ap, subst, ◌∙◌, inl, inr, arith, length-append, Option, Some, None, Ok}
use Rattle.std.specs.List.{AllByRecursion}
use Rattle.std.specs.Option.{option_map_or}
use Rattle.std.proofs.lemmas.Bool.{cases_eq, eq-eqb, ne_eqb}
use Rattle.std.proofs.lemmas.Bool.Decides.{nat_tests}
use Rattle.pico_board.specs.declared.window.TheConstants.{MOST_FLASH_BYTES}
use Rattle.block_codec.specs.declared.definition.Def.{Def}
use Rattle.block_codec.specs.declared.items.Item.{Item}
use Rattle.block_codec.specs.declared.kinds.TheConstants.{HASH_DEF, HASH_VALUE}
use Rattle.block_codec.specs.Blocks.{BlockView}
use Rattle.block_codec.specs.Items.{item_at}
use Rattle.image_def.specs.Definition.{def_of}
use Rattle.load_map.specs.declared.load.Load.{Load}
use Rattle.load_map.specs.Addresses.{in_sram}
use Rattle.load_map.specs.Loads.{entry_count, is_absolute}
use Rattle.load_map.specs.Stored.{AreStoredIn, IsStoredIn}
use Rattle.part_table.specs.Written.{header}
use Rattle.image_check.specs.Addressing.{in_flash}
use Rattle.image_check.specs.Rules.{item_loads, map_loads}
use Rattle.image_pack.specs.declared.spec.SealSpec.{SealSpec}
use Rattle.image_pack.specs.Faults.{IsRightSpec}
use Rattle.image_pack.specs.ReadBack.{IsHalves, map_place}
use Rattle.image_pack.specs.Sealing.{copied_loads, own_load, own_storage, sealed_items, sram_loads}
use Rattle.image_pack.proofs.LoadsBackLemmas.{IsReadable, IsStorageReadable, loads-back}
use Rattle.image_pack.proofs.OneItemLemmas.{IsCopied}
use Rattle.image_pack.proofs.SealedBackLemmas.{map_item_there, sealed_block}
use Rattle.image_pack.proofs.SealedItemLemmas.{map_at, map_word}
use Rattle.image_pack.proofs.SealedPartLemmas.{few_own, hash_count, header_high, items_joined, length-entries, map_body, map_head, map_offset_of, own, type_word, value_body, version_body, version_head}

below-limit : (n : ℕ) → n < 128 → nat_le 128 n ≡ false
below-limit n lt = grind (arith, nat_tests)

module _ (spec : SealSpec) (bytes entry : List ℕ) (loads : List Load) (at : ℕ) (link : ℤ) (right : IsRightSpec spec)
    (copied : IsCopied entry) (few : length (sealed_items spec bytes entry loads) ≤ 156)
    (halves : IsHalves spec.version) (def : Def)
    (is : def_of (sealed_block spec bytes entry loads at link right copied few) ≡ Ok def) where
  abbrev b : BlockView
  b = sealed_block spec bytes entry loads at link right copied few

  abbrev all : List Load
  all = own spec bytes entry loads

  abbrev mo : ℕ
  mo = map_offset_of spec bytes entry loads

  abbrev head : ℕ
  head = map_head spec bytes entry loads

  abbrev body : List ℕ
  body = map_body spec bytes entry loads

  abbrev place : ℕ
  place =
      map_at (type_word spec bytes entry loads) (version_head spec bytes entry loads)
      (version_body spec bytes entry loads) entry head body (header HASH_DEF 2 1)
      (hash_count spec bytes entry loads) (header HASH_VALUE 9 0)
      (value_body spec bytes entry loads)

  -- where the LOAD_MAP item stands
  map-stands : at ≡ length bytes → at + 4 * place ≡ mo
  map-stands at_is =
      let front = length-append (version_body spec bytes entry loads) entry in omega (arith, at_is, front)

  pub map_place-is : at ≡ length bytes → map_place (record { block = b; def = def }) ≡ mo
  map_place-is at_is =
      ap (λ (o : Option Item). option_map_or (λ (item : Item). at + 4 * item.first) o 0)
      (map_item_there spec bytes entry loads at link right copied few halves def is)
      ∙ map-stands at_is

  pub map_place-behind : length bytes < mo
  map_place-behind = omega arith

  pub sealed-loads : (n : ℕ) (given : List Load) → AllByRecursion (IsReadable mo n) all
      → map_loads in_flash n b def ≡ Ok given → at ≡ length bytes → length bytes ≤ MOST_FLASH_BYTES → given ≡ all
  sealed-loads n given readable mapped at_is small =
      let item = item_at place head in
      let fewer = few_own spec bytes entry loads right copied few in
      let front = length-append (version_body spec bytes entry loads) entry in
      let near : mo ≤ 2 ^ 30 = omega (arith, small, fewer, front) in
      let high = header_high 0x06 (1 + 3 * length all) (length all) (omega arith) (omega (arith, fewer))
      (omega (arith, fewer)) in
      let count : entry_count item ≡ length all = ap (λ k. k % 128) high ∙ omega (arith, fewer) in
      let relative : is_absolute item ≡ false =
      ap (λ k. nat_le 128 k) high ∙ below-limit (length all) (omega (arith, fewer)) in
      loads-back in_flash.base n in_flash.in_place b item mo (map-stands at_is) near all given readable count relative
      (λ j lt. map_word (type_word spec bytes entry loads) (version_head spec bytes entry loads)
      (version_body spec bytes entry loads) entry head body (header HASH_DEF 2 1) (hash_count spec bytes entry loads)
      (header HASH_VALUE 9 0) (value_body spec bytes entry loads) b.items link j
      (items_joined spec bytes entry loads) (omega (arith, lt, length-entries mo all)))
      (sym (ap (item_loads in_flash n b)
      (map_item_there spec bytes entry loads at link right copied few halves def is)) ∙ mapped)

-- a load that is stored in the binary can be read back as it is copied
module _ (at n c : ℕ) (fewer : c ≤ n) (near : c ≤ 2 ^ 30) where
  storage-readable : (storage : Option ℕ) (size : ℕ) → IsStoredIn c storage size
      → IsStorageReadable at n (own_storage at storage) size
  storage-readable None size is = tt
  storage-readable (Some x) size is = elim (cases_eq x at) [
    | inl same ↦
        subst (λ t. IsStorageReadable at n (if t then None else Some x) size) (sym (eq-eqb x at same)) tt
    | inr other ↦
        subst (λ t. IsStorageReadable at n (if t then None else Some x) size) (sym (ne_eqb x at other))
        (other, omega (arith, is, fewer), omega (arith, is, near))
  ]

  pub copied-readable : (loads : List Load) → AreStoredIn c loads
      → AllByRecursion (IsReadable at n) (copied_loads at loads)
  copied-readable [] stored = tt
  copied-readable (load ∷ loads) stored = go (in_sram load.runtime load.size) (copied-readable loads stored.1)
    where
      go : (t : Bool) → AllByRecursion (IsReadable at n) (copied_loads at loads)
          → AllByRecursion (IsReadable at n)
          (map (own_load at) (if t then load ∷ sram_loads loads else sram_loads loads))
      go true rest = (storage-readable load.storage load.size stored.0, rest)
      go false rest = rest

-- a copied load is stored where the binary's is
module _ (at e : ℕ) where
  storage-kept : (storage : Option ℕ) (size : ℕ) → IsStoredIn e storage size
      → IsStoredIn e (own_storage at storage) size
  storage-kept None size is = tt
  storage-kept (Some x) size is = elim (cases_eq x at) [
    | inl same ↦ subst (λ t. IsStoredIn e (if t then None else Some x) size) (sym (eq-eqb x at same)) tt
    | inr other ↦ subst (λ t. IsStoredIn e (if t then None else Some x) size) (sym (ne_eqb x at other)) is
  ]

  pub copied-stored : (loads : List Load) → AreStoredIn e loads → AreStoredIn e (copied_loads at loads)
  copied-stored [] stored = tt
  copied-stored (load ∷ loads) stored = go (in_sram load.runtime load.size) (copied-stored loads stored.1)
    where
      go : (t : Bool) → AreStoredIn e (copied_loads at loads)
          → AreStoredIn e (map (own_load at) (if t then load ∷ sram_loads loads else sram_loads loads))
      go true rest = (storage-kept load.storage load.size stored.0, rest)
      go false rest = rest

  -- a load's storage is the same in the new map where it is stored before the LOAD_MAP item
  storage-same : e < at → (storage : Option ℕ) (size : ℕ) → IsStoredIn e storage size
      → own_storage at storage ≡ storage
  storage-same before None size is = refl
  storage-same before (Some x) size is =
      ap (λ t. if t then None else Some x) (ne_eqb x at (λ same. omega (arith, same, is, before)))

  pub copied-same : e < at → (loads : List Load) → AreStoredIn e loads → copied_loads at loads ≡ sram_loads loads
  copied-same before [] stored = refl
  copied-same before (load ∷ loads) stored =
      go (in_sram load.runtime load.size) (copied-same before loads stored.1)
    where
      go : (t : Bool) → copied_loads at loads ≡ sram_loads loads
          → map (own_load at) (if t then load ∷ sram_loads loads else sram_loads loads)
          ≡ (if t then load ∷ sram_loads loads else sram_loads loads)
      go true rest =
          ap (λ (o : Option ℕ). record { storage = o; runtime = load.runtime; size = load.size }
          ∷ map (own_load at) (sram_loads loads))
          (storage-same before load.storage load.size stored.0)
          ∙ ap (λ ls. load ∷ ls) rest
      go false rest = rest
