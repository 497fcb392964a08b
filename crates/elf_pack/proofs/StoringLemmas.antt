-- The items of the block of segments in SRAM are whole, and few.
use Rattle.std.proofs.Common.{◌≡◌, ℕ, ◌+◌, ◌*◌, ◌<◌, ◌≤◌, false, List, [], ◌∷◌, ◌++◌, length, refl, sym, ap, ◌∙◌, arith}
use Rattle.std.specs.List.{flat_map}
use Rattle.pico_board.specs.declared.boot.Cpu.{Cpu}
use Rattle.block_codec.specs.declared.kinds.TheConstants.{ENTRY_POINT, LOAD_MAP}
use Rattle.block_codec.specs.declared.error.BlockError.{BlockError}
use Rattle.block_codec.specs.declared.error.BlockError.TheVariants.{TooLong, ItemSize, Memory as BlockMemory}
use Rattle.block_codec.specs.Items.{AreItems}
use Rattle.block_codec.specs.Writing.{IsBadAt}
use Rattle.block_codec.proofs.WriteLemmas.{IsBadAt-whole}
use Rattle.load_map.specs.declared.load.Load.{Load}
use Rattle.part_table.specs.Written.{header}
use Rattle.part_table.proofs.RoundTripLemmas.{size_is, type_is}
use Rattle.image_pack.specs.Sealing.{entry_words, image_type_word}
use Rattle.image_pack.proofs.OneItemLemmas.{IsOneItem, item_alone, item_then}
use Rattle.image_pack.proofs.SealedPartLemmas.{length-entries, says_type}
use Rattle.elf_pack.specs.declared.segment.Segment.{Segment}
use Rattle.elf_pack.specs.Binaries.{first_stack, front_words, loads_from, sram_items, first_storage}
use Rattle.image_pack.specs.Filling.{round_up}

pub length-loads : (at : ℕ) (xs : List Segment) → length (loads_from at xs) ≡ length xs
length-loads at [] = refl
length-loads at (s ∷ xs) = let rest = length-loads (at + round_up 4 s.size) xs in omega (arith, rest)

module _ (cpu : Cpu) (entry : ℕ) (xs : List Segment) (few : length xs ≤ 29) where
  abbrev pub own : List Load
  own = loads_from first_storage xs

  abbrev pub map_head : ℕ
  map_head = header LOAD_MAP (1 + 3 * length own) (length own)

  abbrev pub map_body : List ℕ
  map_body = flat_map (entry_words 20) own

  abbrev pub type_word : ℕ
  type_word = image_type_word cpu false

  abbrev pub entry_head : ℕ
  entry_head = header ENTRY_POINT 3 0

  few_own : length own ≤ 29
  few_own = omega (arith, few, length-loads first_storage xs)

  body_long : length map_body ≡ 3 * length own
  body_long = length-entries 20 own

  pub map_item : IsOneItem map_head map_body
  map_item =
      let kind = type_is 0x06 (1 + 3 * length own) (length own) (omega arith) in
      let size = size_is 0x06 (1 + 3 * length own) (length own) (omega arith) (omega (arith, few_own)) in record {
        kind = λ last. omega (arith, kind, last);
        size = size ∙ (let same : 1 + 3 * length own ≡ 1 + length map_body = omega (arith, body_long) in same);
      }

  pub entry_item : IsOneItem entry_head (entry ∷ first_stack ∷ [])
  entry_item =
      let kind = type_is 0x44 3 0 (omega arith) in record {
        kind = λ last. omega (arith, kind, last);
        size = size_is 0x44 3 0 (omega arith) (omega arith);
      }

  pub type_item : IsOneItem type_word []
  type_item =
      let says = says_type cpu false in record { kind = λ last. omega (arith, says.kind, last); size = says.size }

  pub items_whole : AreItems (sram_items cpu entry xs)
  unfolding sram_items
  items_whole =
      item_then type_word [] (entry_head ∷ entry ∷ first_stack ∷ map_head ∷ map_body) type_item
      (item_then entry_head (entry ∷ first_stack ∷ []) (map_head ∷ map_body) entry_item
      (item_alone map_head map_body map_item))

  pub items_few : length (sram_items cpu entry xs) ≡ 5 + 3 * length xs
  unfolding sram_items
  items_few = omega (arith, body_long, length-loads first_storage xs)

-- the one error of a block whose items are right
pub block-memory : (e : BlockError) (items : List ℕ) → length items ≤ 156 → AreItems items
    → ((n : ℕ) → e ≡ TooLong n → 156 < length items) → ((i : ℕ) → e ≡ ItemSize i → IsBadAt items i)
    → e ≡ BlockMemory
block-memory (TooLong n) items few whole long bad = absurd (omega (arith, few, long n refl))
block-memory (ItemSize i) items few whole long bad = absurd (IsBadAt-whole items i whole (bad i refl))
block-memory BlockMemory items few whole long bad = refl

-- the items, as they are pushed
pub items-made : (cpu : Cpu) (entry : ℕ) (xs : List Segment) (front pushed made : List ℕ) (w : ℕ)
    → front ≡ front_words cpu entry → pushed ≡ front ++ w ∷ []
    → made ≡ pushed ++ flat_map (entry_words 20) (loads_from first_storage xs)
    → w ≡ header LOAD_MAP (1 + 3 * length xs) (length xs) → made ≡ sram_items cpu entry xs
unfolding sram_items
items-made cpu entry xs front pushed made w one two three four =
    let body : List ℕ = flat_map (entry_words 20) (loads_from first_storage xs) in
    three ∙ ap (λ ws. ws ++ body) (two ∙ ap (λ ws. ws ++ w ∷ []) one)
    ∙ ap (λ h. image_type_word cpu false ∷ header ENTRY_POINT 3 0 ∷ entry ∷ first_stack ∷ h ∷ body)
    (four ∙ ap (λ n. header LOAD_MAP (1 + 3 * n) n) (sym (length-loads first_storage xs)))
