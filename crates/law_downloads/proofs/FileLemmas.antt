-- The blocks of the file of an image, as those of a download.
use Rattle.std.proofs.Common.{◌≡◌, ℕ, zero, suc, ◌+◌, ◌^◌, ◌<◌, ◌≤◌, nat_eq, List, ◌∷◌, length, map, refl, sym, ap, subst, arith}
use Rattle.std.specs.List.{AllByRecursion, IsDistinct, range_with_len}
use Rattle.std.proofs.lemmas.List.FromFn.{length-map-range_with_len}
use Rattle.pico_board.specs.declared.window.TheConstants.{MOST_FLASH_BYTES}
use Rattle.part_table.specs.declared.Target.{Target}
use Rattle.uf2_place.specs.declared.block.Uf2.{Uf2}
use Rattle.uf2_place.specs.Files.{file_block, file_blocks, page_count}
use Rattle.uf2_place.specs.Placement.{AreBlocks, HasWholeSectors, IsBlockOf, IsPageInside, numbers_of}
use Rattle.uf2_place.proofs.DistinctLemmas.{IsDistinct-range}
use Rattle.uf2_place.proofs.FileLemmas.{file_block-is}

-- what holds of each block of a run of blocks
pub all-blocks : (P : Uf2 → Type 0) (f : ℕ → Uf2) (end : ℕ) → ((i : ℕ) → i < end → P (f i)) → (a n : ℕ) → a + n ≤ end
    → AllByRecursion P (map f (range_with_len a n))
all-blocks P f end each a zero few = tt
all-blocks P f end each a (suc n) few =
    (each a (omega (arith, few)), all-blocks P f end each (a + 1) n (omega (arith, few)))

numbers : (image : List ℕ) (family a n : ℕ)
    → numbers_of (map (file_block image family) (range_with_len a n)) ≡ range_with_len a n
numbers image family a zero = refl
numbers image family a (suc n) = ap (λ ns. a ∷ ns) (numbers image family (a + 1) n)

module _ (image : List ℕ) (family : ℕ) (few : length image ≤ MOST_FLASH_BYTES) (low : family < 2 ^ 32) where
  abbrev pub count : ℕ
  count = page_count (length image)

  abbrev pub blocks : List Uf2
  blocks = file_blocks image family

  pub blocks-long : length blocks ≡ count
  blocks-long = length-map-range_with_len (file_block image family) 0 count

  pub each-block : (P : Uf2 → Type 0) → ((i : ℕ) → i < count → P (file_block image family i)) → AllByRecursion P blocks
  each-block P each = all-blocks P (file_block image family) count each 0 count (omega arith)

  -- the blocks of the file are those of a download
  pub are-blocks : (t : Target) → HasWholeSectors t.window → AreBlocks t family count blocks
  are-blocks t whole = record {
    window = whole;
    each = each-block (IsBlockOf family count)
        (λ i lt. record { is = file_block-is image family i few low lt; same_family = refl; same_count = refl });
    distinct = subst (IsDistinct nat_eq) (sym (numbers image family 0 count)) (IsDistinct-range 0 count);
  }

  -- the pages of the file's blocks lie in a window that the image fits into
  pub block-inside : (t : Target) → HasWholeSectors t.window → length image ≤ t.window.len → (i : ℕ) → i < count
      → IsPageInside t.window (file_block image family i)
  block-inside t whole room i lt =
      let len = whole.len in record { above = omega arith; below = omega (arith, room, lt, len) }
