-- A relative load map whose entries were written for loads has these loads.
use Rattle.std.proofs.Common.{◌≡◌, ◌≢◌, ℕ, suc, ◌+◌, ◌*◌, ◌^◌, ◌<◌, ◌≤◌, ◌==◌, Bool, false, if◌then◌else◌, pos, List, [], ◌∷◌, length, refl, sym, ap, ◌∙◌, arith, Option, Some, None, Ok}
use Rattle.std.specs.Prelude.{◌+ℤ◌, ◌-ℤ◌, filter_map, slice_index}
use Rattle.std.specs.List.{AllByRecursion, flat_map}
use Rattle.std.specs.Int.{cast_signed, w32}
use Rattle.std.specs.Option.{option_map}
use Rattle.std.proofs.lemmas.Bool.{le-leb, ne_eqb}
use Rattle.std.proofs.lemmas.Int.{ints, to_z-of_z}
use Rattle.block_codec.specs.declared.items.Item.{Item}
use Rattle.block_codec.specs.Blocks.{BlockView, block_words}
use Rattle.block_codec.specs.FirstFault.{first_fault}
use Rattle.load_map.specs.declared.load.Load.{Load}
use Rattle.load_map.specs.Loads.{entries_from, entries_of, entry_at, entry_count, is_absolute}
use Rattle.load_map.specs.Reading.{entry_fault, load_of, loads_of, offset_within, setting_of, stored_at}
use Rattle.load_map.proofs.SoundLoadLemmas.{ok_unless-Ok}
use Rattle.image_pack.specs.Sealing.{entry_words, place_word}
use Rattle.image_pack.proofs.SealedPartLemmas.{difference_fits}

-- a storage of an entry of a map at this offset can be read back in a window of n bytes
abbrev pub IsStorageReadable : ℕ → ℕ → Option ℕ → ℕ → Type 0
IsStorageReadable at n None size = Unit {0}
IsStorageReadable at n (Some x) size = (x ≢ at) × (x + size ≤ n) × (x ≤ 2 ^ 30)

-- a load by an entry of a map at this offset can be read back in a window of n bytes
abbrev pub IsReadable : ℕ → ℕ → Load → Type 0
IsReadable at n load = IsStorageReadable at n load.storage load.size

module _ (base n : ℕ) (in_place : Bool) (b : BlockView) (item : Item) (at : ℕ)
    (stands : b.at + 4 * item.first ≡ at) (near : at ≤ 2 ^ 30) where
  -- one entry with a storage
  module _ (words : List ℕ) (k x size : ℕ) (other : x ≢ at) (room : x + size ≤ n) (small : x ≤ 2 ^ 30)
      (place : slice_index words k ≡ place_word at (Some x)) (extent : slice_index words (k + 2) ≡ size) where
    back : cast_signed w32 (slice_index words k) ≡ pos x -ℤ pos at
    back = ap (cast_signed w32) place ∙ to_z-of_z w32 (pos x -ℤ pos at) (difference_fits x at small near)

    not_clear : (slice_index words k == 0) ≡ false
    not_clear = ne_eqb (slice_index words k) 0 (λ none.
        let read : pos 0 ≡ pos x -ℤ pos at = sym (ap (cast_signed w32) none) ∙ back in
        other (omega (arith, ints, read)))

    offset : pos (b.at + 4 * item.first) +ℤ cast_signed w32 (slice_index words k) ≡ pos x
    offset = ap (λ z. pos (b.at + 4 * item.first) +ℤ z) back ∙ ap (λ m. pos m +ℤ (pos x -ℤ pos at)) stands
        ∙ (let same : pos at +ℤ (pos x -ℤ pos at) ≡ pos x = omega (arith, ints) in same)

    one-back : load_of (setting_of base in_place n b item) false (entry_at words k)
        ≡ Some (record { storage = Some x; runtime = slice_index words (k + 1); size = size })
    one-back =
        ap (λ t. if t
        then Some (record { storage = None; runtime = slice_index words (k + 1); size = slice_index words (k + 2) })
        else option_map (stored_at (entry_at words k) (slice_index words (k + 2)))
        (offset_within n (pos (b.at + 4 * item.first) +ℤ cast_signed w32 (slice_index words k))
        (slice_index words (k + 2)))) not_clear
        ∙ ap (λ z. option_map (stored_at (entry_at words k) (slice_index words (k + 2)))
        (offset_within n z (slice_index words (k + 2)))) offset
        ∙ ap (λ m. option_map (stored_at (entry_at words k) m) (offset_within n (pos x) m)) extent
        ∙ ap (λ t. option_map (stored_at (entry_at words k) size) (if t then Some x else None))
        (le-leb (x + size) n room)

  -- one entry, also a clear one
  stored-back : (storage : Option ℕ) (runtime size : ℕ) → IsStorageReadable at n storage size
      → (words : List ℕ) (k : ℕ) → slice_index words k ≡ place_word at storage
      → slice_index words (k + 1) ≡ runtime → slice_index words (k + 2) ≡ size
      → load_of (setting_of base in_place n b item) false (entry_at words k)
      ≡ Some (record { storage = storage; runtime = runtime; size = size })
  stored-back None runtime size is words k place there extent =
      ap (λ t. if t == 0
      then Some (record { storage = None; runtime = slice_index words (k + 1); size = slice_index words (k + 2) })
      else option_map (stored_at (entry_at words k) (slice_index words (k + 2)))
      (offset_within n (pos (b.at + 4 * item.first) +ℤ cast_signed w32 t) (slice_index words (k + 2)))) place
      ∙ ap (λ m. Some (record { storage = None; runtime = m; size = slice_index words (k + 2) })) there
      ∙ ap (λ m. Some (record { storage = None; runtime = runtime; size = m })) extent
  stored-back (Some x) runtime size is words k place there extent =
      one-back words k x size is.0 is.1 is.2 place extent
      ∙ ap (λ m. Some (record { storage = Some x; runtime = m; size = size })) there

  -- the words of the entries stand from place k on
  abbrev StandFrom : List ℕ → ℕ → List Load → Type 0
  StandFrom words k own =
      (j : ℕ) → j < 3 * length own → slice_index words (k + j) ≡ slice_index (flat_map (entry_words at) own) j

  entries-back : (own : List Load) → AllByRecursion (IsReadable at n) own → (words : List ℕ) (k : ℕ)
      → StandFrom words k own
      → filter_map (load_of (setting_of base in_place n b item) false) (entries_from words k (length own)) ≡ own
  entries-back [] all words k there = refl
  entries-back (load ∷ own) all words k there =
      let zero_more : k + 0 ≡ k = omega arith in
      let one : load_of (setting_of base in_place n b item) false (entry_at words k) ≡ Some load =
      stored-back load.storage load.runtime load.size all.0 words k
      (ap (slice_index words) (sym zero_more) ∙ there 0 (omega arith)) (there 1 (omega arith))
      (there 2 (omega arith)) in
      let rest = entries-back own all.1 words (k + 3)
      (λ j lt. let same : k + 3 + j ≡ k + suc (suc (suc j)) = omega arith in
      ap (slice_index words) same ∙ there (suc (suc (suc j))) (omega (arith, lt))) in
      rw one (ap (λ xs. load ∷ xs) rest)

  -- the loads of the map are those that were written
  pub loads-back : (own given : List Load) → AllByRecursion (IsReadable at n) own → entry_count item ≡ length own
      → is_absolute item ≡ false → StandFrom (block_words b) (item.first + 1) own
      → loads_of base in_place n b item ≡ Ok given → given ≡ own
  loads-back own given all counted relative there is =
      let setting = setting_of base in_place n b item in
      let words = block_words b in
      let entries = entries_of words item in
      let found = ok_unless-Ok (first_fault (entry_fault setting b (is_absolute item)) entries)
      (filter_map (load_of setting (is_absolute item)) entries) given is in
      sym found.1 ∙ ap (λ t. filter_map (load_of setting t) entries) relative
      ∙ ap (λ m. filter_map (load_of setting false) (entries_from words (item.first + 1) m)) counted
      ∙ entries-back own all (block_words b) (item.first + 1) there
