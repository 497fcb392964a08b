-- Where the bytes of segments in SRAM are stored, and the block in front of them.
use Rattle.std.proofs.Common.{◌≡◌, ◌⊎◌, ℕ, zero, suc, ◌+◌, ◌-◌, ◌*◌, ◌^◌, ◌<◌, ◌≤◌, false, pos, List, [], ◌∷◌, ◌++◌, length, get_or, take, replicate, refl, sym, ap, subst, ◌∙◌, inl, inr, arith, length-append, Some, slice_get}
use Rattle.std.specs.List.{AllByRecursion, flat_map}
use Rattle.std.proofs.lemmas.List.{get_or-append-add, get_or_append_left, length-replicate, take_all, take_at}
use Rattle.std.proofs.lemmas.List.Edits.{get_or-between, length-between}
use Rattle.std.proofs.lemmas.Option.{none-some, same_Some}
use Rattle.pico_board.specs.declared.window.TheConstants.{MOST_FLASH_BYTES}
use Rattle.pico_board.specs.declared.boot.Cpu.{Cpu}
use Rattle.block_codec.specs.Blocks.{BlockAt, BlockView, IsBlock, block_size, frame}
use Rattle.block_codec.specs.Words.{AreWords, bytes_of}
use Rattle.block_codec.proofs.FrameLemmas.{length-frame}
use Rattle.block_codec.proofs.WordLemmas.{length-bytes_of}
use Rattle.image_pack.specs.Filling.{padded, round_up, whole_words}
use Rattle.image_pack.proofs.LoadsBackLemmas.{IsReadable}
use Rattle.image_pack.proofs.SealedPartLemmas.{place_small, says_type}
use Rattle.image_pack.specs.Sealing.{entry_words}
use Rattle.elf_pack.specs.declared.segment.Segment.{Segment}
use Rattle.elf_pack.specs.Binaries.{loads_from, sram_items, first_storage}
use Rattle.elf_pack.specs.Faults.{IsInSram}
use Rattle.elf_pack.specs.Segments.{segment_bytes}
use Rattle.elf_pack.proofs.StoringLemmas.{items_few, items_whole}

-- the bytes of a segment in whole words
abbrev pub stored : List ℕ → Segment → List ℕ
stored elf s = whole_words (segment_bytes elf s)

abbrev pub IsInside : ℕ → Segment → Type 0
IsInside n s = s.offset + s.size ≤ n

module _ (elf : List ℕ) where
  pub long_segment : (s : Segment) → IsInside (length elf) s → length (segment_bytes elf s) ≡ s.size
  long_segment s inside =
      length-between elf s.offset (s.offset + s.size) inside
      ∙ (let e : s.offset + s.size - s.offset ≡ s.size = omega arith in e)

  pub long_stored : (s : Segment) → IsInside (length elf) s → length (stored elf s) ≡ round_up 4 s.size
  long_stored s inside =
      let long = long_segment s inside in
      let sum = length-append (segment_bytes elf s)
      (replicate (round_up 4 (length (segment_bytes elf s)) - length (segment_bytes elf s)) 255) in
      let fill =
      length-replicate {A = ℕ} (round_up 4 (length (segment_bytes elf s)) - length (segment_bytes elf s)) 255 in
      omega (arith, sum, fill, long)

  pub stored-at : (s : Segment) → IsInside (length elf) s → (k : ℕ) → k < s.size
      → get_or (stored elf s) k 0 ≡ get_or elf (s.offset + k) 0
  stored-at s inside k lt =
      get_or_append_left (segment_bytes elf s)
      (replicate (round_up 4 (length (segment_bytes elf s)) - length (segment_bytes elf s)) 255) 0 k
      (omega (arith, lt, long_segment s inside))
      ∙ get_or-between elf s.offset (s.offset + s.size) k 0 (omega (arith, lt))

  -- the bytes of all segments in whole words, one behind the other
  abbrev pub all_stored : List Segment → List ℕ
  all_stored xs = flat_map (stored elf) xs

  -- a segment of those that are stored from an offset on is stored at x
  pub record IsStoredAt (at : ℕ) (xs : List Segment) (i : ℕ) (s : Segment) : Type 0 where
    pub x : ℕ
    pub load : slice_get (loads_from at xs) i
        ≡ Some (record { storage = Some x; runtime = s.address; size = s.size })
    pub behind : at ≤ x
    pub room : x + s.size ≤ at + length (all_stored xs)
    pub gives : (k : ℕ) → k < s.size → get_or (all_stored xs) (x - at + k) 0 ≡ get_or elf (s.offset + k) 0

  pub where-stored : (xs : List Segment) (at i : ℕ) (s : Segment) → AllByRecursion (IsInside (length elf)) xs
      → slice_get xs i ≡ Some s → IsStoredAt at xs i s
  where-stored [] at i s inside here = absurd (none-some s here)
  where-stored (y ∷ ys) at zero s inside here =
      let sum = length-append (stored elf y) (all_stored ys) in
      let long = long_stored y inside.0 in
      subst (IsStoredAt at (y ∷ ys) 0) (same_Some y s here) (record {
        x = at;
        load = refl;
        behind = omega arith;
        room = omega (arith, sum, long);
        gives = λ k lt.
            let none : at - at + k ≡ k = omega arith in
            ap (λ j. get_or (all_stored (y ∷ ys)) j 0) none
            ∙ get_or_append_left (stored elf y) (all_stored ys) 0 k (omega (arith, lt, long))
            ∙ stored-at y inside.0 k lt;
      })
  where-stored (y ∷ ys) at (suc i) s inside here =
      let r = where-stored ys (at + round_up 4 y.size) i s inside.1 here in
      let sum = length-append (stored elf y) (all_stored ys) in
      let long = long_stored y inside.0 in record {
        x = r.x;
        load = r.load;
        behind = omega (arith, r.behind);
        room = omega (arith, r.room, sum, long);
        gives = λ k lt.
            let later : r.x - at + k ≡ length (stored elf y) + (r.x - (at + round_up 4 y.size) + k) =
            omega (arith, r.behind, long) in
            ap (λ j. get_or (all_stored (y ∷ ys)) j 0) later
            ∙ get_or-append-add (stored elf y) (all_stored ys) (r.x - (at + round_up 4 y.size) + k) 0 ∙ r.gives k lt;
      }

  -- the loads of stored segments can be read back, by entries of an item that stands before or behind their bytes
  pub all-readable : (xs : List Segment) (at place n : ℕ) → AllByRecursion (IsInside (length elf)) xs
      → (place < at) ⊎ (at + length (all_stored xs) < place) → at + length (all_stored xs) ≤ n → n ≤ 2 ^ 30
      → AllByRecursion (IsReadable place n) (loads_from at xs)
  all-readable [] at place n inside apart room small = tt
  all-readable (y ∷ ys) at place n inside apart room small =
      let sum = length-append (stored elf y) (all_stored ys) in
      let long = long_stored y inside.0 in (
        (λ same. clear same, omega (arith, room, sum, long), omega (arith, room, small)),
        all-readable ys (at + round_up 4 y.size) place n inside.1 (elim apart [
          | inl before ↦ inl (omega (arith, before))
          | inr behind ↦ inr (omega (arith, behind, sum, long))
        ]) (omega (arith, room, sum, long)) small,
      )
    where
      clear : at ≡ place → ⊥
      clear same = elim apart [
        | inl before ↦ omega (arith, same, before)
        | inr behind ↦ omega (arith, same, behind)
      ]

-- the block in front of them
module _ (cpu : Cpu) (entry : ℕ) (xs : List Segment) (few : length xs ≤ 29) where
  abbrev pub block : BlockView
  block = record { at = 0; items = sram_items cpu entry xs; link = pos 0 }

  pub block_long : length (bytes_of (frame (sram_items cpu entry xs) (pos 0))) ≡ 4 * (9 + 3 * length xs)
  block_long =
      let size = length-bytes_of (frame (sram_items cpu entry xs) (pos 0)) in
      let long = length-frame (sram_items cpu entry xs) (pos 0) in
      omega (arith, size, long, items_few cpu entry xs few)

  pub padded_long : length (padded first_storage (bytes_of (frame (sram_items cpu entry xs) (pos 0)))) ≡ 640
  padded_long =
      let bytes = bytes_of (frame (sram_items cpu entry xs) (pos 0)) in
      let sum = length-append bytes (replicate (640 - length bytes) 255) in
      let fill = length-replicate {A = ℕ} (640 - length bytes) 255 in
      omega (arith, sum, fill, block_long, few)

-- bytes that are cut and filled to a length that they do not pass are filled to it
padded-is : (n : ℕ) (bytes : List ℕ) → length bytes ≤ n
    → take n bytes ++ replicate (n - length bytes) 255 ≡ padded n bytes
padded-is n bytes le = ap (λ ys. ys ++ replicate (n - length bytes) 255) (take_all n bytes le)

-- the block's bytes as they are written, and then filled
pub block-padded : (cpu : Cpu) (entry : ℕ) (xs : List Segment) → length xs ≤ 29
    → (items written filled : List ℕ) → items ≡ sram_items cpu entry xs
    → written ≡ bytes_of (frame items (pos 0))
    → filled ≡ take first_storage written ++ replicate (first_storage - length written) 255
    → filled ≡ padded first_storage (bytes_of (frame (sram_items cpu entry xs) (pos 0)))
block-padded cpu entry xs few items written filled one two three =
    three
    ∙ ap (λ ys. take first_storage ys ++ replicate (first_storage - length ys) 255)
    (two ∙ ap (λ ws. bytes_of (frame ws (pos 0))) one)
    ∙ padded-is first_storage (bytes_of (frame (sram_items cpu entry xs) (pos 0)))
    (omega (arith, block_long cpu entry xs few, few))

entries-words : (at : ℕ) (xs : List Segment) → AllByRecursion IsInSram xs
    → at + 532484 * length xs ≤ MOST_FLASH_BYTES → AreWords (flat_map (entry_words 20) (loads_from at xs))
entries-words at [] sram room = tt
entries-words at (s ∷ xs) sram room = (
  place_small 20 (Some at) (omega arith) (omega (arith, room)),
  (
    omega (arith, sram.0.1),
    (
      omega (arith, sram.0.1),
      entries-words (at + round_up 4 s.size) xs sram.1 (omega (arith, room, sram.0.0, sram.0.1)),
    ),
  ),
)

module _ (cpu : Cpu) (entry : ℕ) (xs : List Segment) (few : length xs ≤ 29) (sram : AllByRecursion IsInSram xs)
    (word : entry < 2 ^ 32) where
  loads_few : (at : ℕ) (ys : List Segment) → length (loads_from at ys) ≡ length ys
  loads_few at [] = refl
  loads_few at (y ∷ ys) = let rest = loads_few (at + round_up 4 y.size) ys in omega (arith, rest)

  items_words : AreWords (sram_items cpu entry xs)
  unfolding sram_items
  items_words = (
    (says_type cpu false).small,
    (
      omega arith,
      (
        word,
        (
          omega arith,
          (omega (arith, few, loads_few first_storage xs), entries-words first_storage xs sram (omega (arith, few))),
        ),
      ),
    ),
  )

  is-block : IsBlock (bytes_of (frame (sram_items cpu entry xs) (pos 0))) (sram_items cpu entry xs) (pos 0)
  is-block = record {
    spelled = refl;
    whole = items_whole cpu entry xs few;
    few = omega (arith, few, items_few cpu entry xs few);
    words = items_words;
    fits = omega arith;
  }

  -- the block stands at the front of each list that begins with its bytes
  pub block-stands : (rest : List ℕ)
      → BlockAt (bytes_of (frame (sram_items cpu entry xs) (pos 0)) ++ rest) 0 (block cpu entry xs few)
  block-stands rest =
      let bytes = bytes_of (frame (sram_items cpu entry xs) (pos 0)) in
      let size : length bytes ≡ block_size (block cpu entry xs few) =
      omega (arith, block_long cpu entry xs few, items_few cpu entry xs few) in record {
        aligned = refl;
        placed = refl;
        stands =
            subst (λ p. IsBlock p (sram_items cpu entry xs) (pos 0))
            (sym (take_at bytes rest (block_size (block cpu entry xs few)) size)) is-block;
      }
