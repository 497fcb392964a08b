-- Segments of a file that has a binary: all in flash or all in SRAM, and apart.
use Rattle.std.proofs.Common.{◌≡◌, ℕ, zero, suc, ◌+◌, ◌-◌, ◌<◌, ◌≤◌, ◌&&◌, nat_le, nat_lt, Bool, true, false, List, [], ◌∷◌, length, get_or, refl, sym, ap, subst, ◌∙◌, inl, inr, arith, Some, slice_get}
use Rattle.std.specs.Prelude.{unwrap_or}
use Rattle.std.specs.List.{AllByRecursion}
use Rattle.std.specs.Option.{option_map}
use Rattle.std.proofs.lemmas.Bool.{le-leb, lt-ltb, true≢false}
use Rattle.std.proofs.lemmas.Bool.Decides.{nat_tests}
use Rattle.std.proofs.lemmas.Grind.{common_steps}
use Rattle.std.proofs.lemmas.Option.{none-some, same_Some}
use Rattle.pico_board.specs.declared.boot.Cpu.{Cpu}
use Rattle.pico_board.specs.Content.{flash_base}
use Rattle.load_map.proofs.LastLoadLemmas.{last-at}
use Rattle.elf_pack.specs.declared.segment.Segment.{Segment}
use Rattle.elf_pack.specs.Binaries.{FitsIn, are_in_flash, byte_in, flash_bytes, greatest_end}
use Rattle.elf_pack.specs.Faults.{AreAllTogether, AreSegmentsApart, AreTogether, HasBinary, HasAddress, IsInFlash, IsInSram, IsPlacedSegment, Share}
use Rattle.elf_pack.specs.Segments.{byte_of, segment_has_address, is_segment_in_flash, segments}
use Rattle.elf_pack.proofs.ListLemmas.{all-at, all-map}
use Rattle.elf_pack.proofs.PlacingLemmas.{flash-at}
use Rattle.elf_pack.proofs.SegmentLemmas.{IsSomewhere, flash-is, in-flash, not-both}

-- all in flash
flash-with : (first : Segment) → IsInFlash first → (s : Segment) → AreTogether first s → IsInFlash s
flash-with first flash s (inl both) = both.1
flash-with first flash s (inr both) = absurd (not-both first flash both.0)

pub all-in-flash : (xs : List Segment) → AreAllTogether xs → are_in_flash xs ≡ true → AllByRecursion IsInFlash xs
all-in-flash [] together is = tt
all-in-flash (s ∷ xs) together is =
    (in-flash s is, all-map (AreTogether s) IsInFlash (flash-with s (in-flash s is)) xs together)

-- all in SRAM
sram-with : (first : Segment) → is_segment_in_flash first ≡ false → (s : Segment) → AreTogether first s → IsInSram s
sram-with first is s (inl both) = absurd (true≢false (sym (flash-is first both.0) ∙ is))
sram-with first is s (inr both) = both.1

first-in-sram : (s : Segment) → is_segment_in_flash s ≡ false → IsSomewhere s → IsInSram s
first-in-sram s is (inl flash) = absurd (true≢false (sym (flash-is s flash) ∙ is))
first-in-sram s is (inr sram) = sram

pub all-in-sram : (n : ℕ) (xs : List Segment) → AllByRecursion (IsPlacedSegment n) xs → AreAllTogether xs
    → are_in_flash xs ≡ false → AllByRecursion IsInSram xs
all-in-sram n [] placed together is = tt
all-in-sram n (s ∷ xs) placed together is =
    (first-in-sram s is placed.0.1, all-map (AreTogether s) IsInSram (sram-with s is) xs together)

pub all-inside : (n : ℕ) (xs : List Segment) → AllByRecursion (IsPlacedSegment n) xs
    → AllByRecursion (λ (s : Segment). s.offset + s.size ≤ n) xs
all-inside n xs placed = all-map (IsPlacedSegment n) (λ (s : Segment). s.offset + s.size ≤ n) (λ s is. is.0) xs placed

-- two segments at different places share no address
pub apart-at : (xs : List Segment) → AreSegmentsApart xs → (i j : ℕ) (s t : Segment) → i < j → slice_get xs i ≡ Some s
    → slice_get xs j ≡ Some t → Share s t → ⊥
apart-at [] apart i j s t lt a b = absurd (none-some s a)
apart-at (x ∷ xs) apart i zero s t lt a b = absurd (omega (arith, lt))
apart-at (x ∷ xs) apart zero (suc j) s t lt a b =
    subst (λ y. Share y t → ⊥) (same_Some x s a) (all-at (λ y. Share x y → ⊥) xs j t b apart.0)
apart-at (x ∷ xs) apart (suc i) (suc j) s t lt a b = apart-at xs apart.1 i j s t (omega (arith, lt)) a b

pub held-true : (a : ℕ) (s : Segment) → segment_has_address a s ≡ true → HasAddress a s
held-true a s is = go s.address (s.address + s.size) is
  where
    go : (low high : ℕ) → (nat_le low a && nat_lt a high) ≡ true → (low ≤ a) × (a < high)
    go low high both = (grind (arith, nat_tests, common_steps), grind (arith, nat_tests, common_steps))

pub held-is : (a : ℕ) (s : Segment) → HasAddress a s → segment_has_address a s ≡ true
held-is a s is = rw (le-leb s.address a is.0, lt-ltb a (s.address + s.size) is.1) refl

pub no_later : (xs : List Segment) → AreSegmentsApart xs → (i : ℕ) (s : Segment) (a : ℕ) → slice_get xs i ≡ Some s
    → HasAddress a s → (j : ℕ) (t : Segment) → i < j → slice_get xs j ≡ Some t → segment_has_address a t ≡ false
no_later xs apart i s a at here j t lt there = go (segment_has_address a t) refl
  where
    go : (b : Bool) → segment_has_address a t ≡ b → segment_has_address a t ≡ false
    go true e = absurd (apart-at xs apart i j s t lt at there (a, here, held-true a t e))
    go false e = e

-- so the byte at each address of a segment is the segment's
pub byte-is : (elf : List ℕ) (xs : List Segment) → AreSegmentsApart xs → (i : ℕ) (s : Segment) (a : ℕ)
    → slice_get xs i ≡ Some s → HasAddress a s → byte_in elf xs a ≡ Some (byte_of elf a s)
byte-is elf xs apart i s a at here =
    ap (option_map (byte_of elf a)) (last-at (segment_has_address a) xs i s at (held-is a s here)
    (no_later xs apart i s a at here))

-- each segment ends at or below the greatest end
pub ends-below : (xs : List Segment) (i : ℕ) (s : Segment) → slice_get xs i ≡ Some s
    → s.address + s.size ≤ greatest_end xs
ends-below [] i s at = absurd (none-some s at)
ends-below (x ∷ xs) zero s at =
    subst (λ (y : Segment). y.address + y.size ≤ greatest_end (x ∷ xs)) (same_Some x s at) (omega arith)
ends-below (x ∷ xs) (suc i) s at = let rest = ends-below xs i s at in omega (arith, rest)

all-placed : (n end_ : ℕ) (xs : List Segment) → AllByRecursion IsInFlash xs
    → AllByRecursion (λ (s : Segment). s.offset + s.size ≤ n) xs → greatest_end xs ≤ end_
    → AllByRecursion (FitsIn n (end_ - flash_base)) xs
all-placed n end_ [] flash inside most = tt
all-placed n end_ (s ∷ xs) flash inside most = (
  (inside.0, flash.0.0, omega (arith, flash.0.0, most)),
  all-placed n end_ xs flash.1 inside.1 (omega (arith, most)),
)

-- each segment in flash is placed below the greatest end
pub all-placed-in : (n : ℕ) (xs : List Segment) → AllByRecursion IsInFlash xs
    → AllByRecursion (λ (s : Segment). s.offset + s.size ≤ n) xs
    → AllByRecursion (FitsIn n (greatest_end xs - flash_base)) xs
all-placed-in n xs flash inside = all-placed n (greatest_end xs) xs flash inside (omega arith)

-- the binary of segments in flash has the byte of the segment at each of its addresses
pub flash-byte : (elf : List ℕ) (xs : List Segment) → AreSegmentsApart xs → (i : ℕ) (s : Segment) (a : ℕ)
    → slice_get xs i ≡ Some s → flash_base ≤ a → HasAddress a s
    → get_or (flash_bytes elf xs (greatest_end xs - flash_base)) (a - flash_base) 0 ≡ byte_of elf a s
flash-byte elf xs apart i s a at low here =
    let below = ends-below xs i s at in
    let same : flash_base + (a - flash_base) ≡ a = omega (arith, low) in
    flash-at elf xs (greatest_end xs - flash_base) (a - flash_base) (omega (arith, low, here.1, below))
    ∙ ap (λ k. unwrap_or (byte_in elf xs k) 255) same
    ∙ ap (λ o. unwrap_or o 255) (byte-is elf xs apart i s a at here)

-- what the parts of a binary ask for, of a list that is that of the segments
module _ (cpu : Cpu) (elf : List ℕ) (xs : List Segment) (same : xs ≡ segments elf) (has : HasBinary cpu elf) where
  pub binary-flash : are_in_flash xs ≡ true → AllByRecursion IsInFlash xs
  binary-flash is =
      all-in-flash xs (subst AreAllTogether (sym same) has.all.together) is

  pub binary-sram : are_in_flash xs ≡ false → AllByRecursion IsInSram xs
  binary-sram is =
      all-in-sram (length elf) xs (subst (AllByRecursion (IsPlacedSegment (length elf))) (sym same) has.all.laid.placed)
      (subst AreAllTogether (sym same) has.all.together) is

  pub binary-inside : AllByRecursion (λ (s : Segment). s.offset + s.size ≤ length elf) xs
  binary-inside =
      all-inside (length elf) xs (subst (AllByRecursion (IsPlacedSegment (length elf))) (sym same) has.all.laid.placed)
