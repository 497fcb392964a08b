-- Where segments lie, and which of them share an address.
use Rattle.std.proofs.Common.{◌≡◌, ◌⊎◌, ℕ, ◌+◌, ◌<◌, ◌≤◌, ◌&&◌, ◌||◌, ◌==◌, not, nat_le, nat_lt, Bool, true, false, List, refl, sym, subst, ◌∙◌, inl, inr, arith, None, Some, if◌then◌else◌}
use Rattle.std.specs.List.{AllByRecursion, range_with_len}
use Rattle.std.proofs.lemmas.Bool.{cases_lt, le-leb, lt-ltb, true≢false}
use Rattle.std.proofs.lemmas.Bool.Decides.{nat_tests}
use Rattle.std.proofs.lemmas.Grind.{common_steps}
use Rattle.std.proofs.lemmas.Option.{same_Some, none-some}
use Rattle.load_map.specs.declared.addresses.TheConstants.{SRAM_END, SRAM_START}
use Rattle.pico_board.specs.Content.{flash_base}
use Rattle.elf_pack.specs.declared.segment.Segment.{Segment}
use Rattle.elf_pack.specs.Faults.{AreTogether, IsInFlash, IsInSram, IsPlacedSegment, Share}
use Rattle.elf_pack.specs.Judging.{are_mixed, do_overlap, is_misplaced_segment}
use Rattle.elf_pack.specs.Fields.{header_count, word_at}
use Rattle.elf_pack.specs.Segments.{flash_end, header_at, is_segment_in_flash, is_in_sram, is_segment, segment_at, segment_of, segments}
use Rattle.elf_pack.proofs.ListLemmas.{all-made}

-- a segment has a byte at least
abbrev pub HasBytes : Segment → Type 0
HasBytes s = 0 < s.size

has-bytes : (elf : List ℕ) (k : ℕ) (s : Segment) (t : Bool) → is_segment elf k ≡ t
    → (if t then Some (segment_of elf k) else None) ≡ Some s → HasBytes s
has-bytes elf k s false e is = absurd (none-some s is)
has-bytes elf k s true e is =
    subst HasBytes (same_Some (segment_of elf k) s is)
    (some (word_at elf (header_at elf k)) (word_at elf (header_at elf k + 16)) e)
  where
    some : (kind size : ℕ) → (kind == 1 && nat_lt 0 size) ≡ true → 0 < size
    some kind size both = grind (arith, nat_tests, common_steps)

pub segment-has-bytes : (elf : List ℕ) (k : ℕ) (s : Segment) → segment_at elf k ≡ Some s → HasBytes s
unfolding segment_at
segment-has-bytes elf k s is = has-bytes elf k s (is_segment elf k) refl is

pub all-have-bytes : (elf : List ℕ) → AllByRecursion HasBytes (segments elf)
all-have-bytes elf = all-made HasBytes (segment_at elf) (segment-has-bytes elf) (range_with_len 0 (header_count elf))

range-test : (a b low high : ℕ) → (nat_le low a && nat_le b high) ≡ true → (low ≤ a) × (b ≤ high)
range-test a b low high is = (grind (arith, nat_tests, common_steps), grind (arith, nat_tests, common_steps))

range-true : (a b low high : ℕ) → low ≤ a → b ≤ high → (nat_le low a && nat_le b high) ≡ true
range-true a b low high from to = rw (le-leb low a from, le-leb b high to) refl

pub in-flash : (s : Segment) → is_segment_in_flash s ≡ true → IsInFlash s
in-flash s is = range-test s.address (s.address + s.size) flash_base flash_end is

pub in-sram : (s : Segment) → is_in_sram s ≡ true → IsInSram s
in-sram s is = range-test s.address (s.address + s.size) SRAM_START SRAM_END is

pub flash-is : (s : Segment) → IsInFlash s → is_segment_in_flash s ≡ true
flash-is s is = range-true s.address (s.address + s.size) flash_base flash_end is.0 is.1

pub sram-is : (s : Segment) → IsInSram s → is_in_sram s ≡ true
sram-is s is = range-true s.address (s.address + s.size) SRAM_START SRAM_END is.0 is.1

pub not-both : (s : Segment) → IsInFlash s → IsInSram s → ⊥
not-both s flash sram = omega (arith, flash.1, sram.0)

pub sram-no_flash : (s : Segment) → IsInSram s → (t : Bool) → is_segment_in_flash s ≡ t → is_segment_in_flash s ≡ false
sram-no_flash s sram true e = absurd (not-both s (in-flash s e) sram)
sram-no_flash s sram false e = e

-- where a segment is not misplaced
placed-test : (a f r : Bool) → not (a && (f || r)) ≡ false → (a ≡ true) × ((f ≡ true) ⊎ (r ≡ true))
placed-test true true r is = (refl, inl refl)
placed-test true false true is = (refl, inr refl)
placed-test true false false is = absurd (true≢false is)
placed-test false f r is = absurd (true≢false is)

le-true : (a b : ℕ) → nat_le a b ≡ true → a ≤ b
le-true a b is = grind (arith, nat_tests)

module _ (n : ℕ) where
  pub placed-right : (s : Segment) → is_misplaced_segment n s ≡ false → IsPlacedSegment n s
  placed-right s is =
      let t = placed-test (nat_le (s.offset + s.size) n) (is_segment_in_flash s) (is_in_sram s) is in (
        le-true (s.offset + s.size) n t.0,
        elim t.1 [ inl flash ↦ inl (in-flash s flash) | inr sram ↦ inr (in-sram s sram) ],
      )

  pub placed-wrong : (s : Segment) → is_misplaced_segment n s ≡ true → IsPlacedSegment n s → ⊥
  placed-wrong s is placed =
      elim placed.1 [
        | inl flash ↦ true≢false (sym is ∙ rw (le-leb (s.offset + s.size) n placed.0, flash-is s flash) refl)
        | inr sram ↦
            true≢false
            (sym is ∙ rw (le-leb (s.offset + s.size) n placed.0, sram-is s sram) (all-in (is_segment_in_flash s)))
      ]
    where
      all-in : (f : Bool) → not (true && (f || true)) ≡ false
      all-in true = refl
      all-in false = refl

-- where two segments do not lie together
abbrev pub IsSomewhere : Segment → Type 0
IsSomewhere s = IsInFlash s ⊎ IsInSram s

module _ (first : Segment) (somewhere : IsSomewhere first) where
  together-right-by : (s : Segment) → IsSomewhere s → (f g : Bool) → is_segment_in_flash first ≡ f
      → is_segment_in_flash s ≡ g
      → (if f then not g else g) ≡ false → AreTogether first s
  together-right-by s here true true e h is = inl (in-flash first e, in-flash s h)
  together-right-by s here true false e h is = absurd (true≢false is)
  together-right-by s here false true e h is = absurd (true≢false is)
  together-right-by s here false false e h is = elim somewhere [
    | inl flash ↦ absurd (true≢false (sym (flash-is first flash) ∙ e))
    | inr sram ↦ elim here [
      | inl flash ↦ absurd (true≢false (sym (flash-is s flash) ∙ h))
      | inr also ↦ inr (sram, also)
    ]
  ]

  pub together-right : (s : Segment) → IsSomewhere s → are_mixed first s ≡ false → AreTogether first s
  together-right s here is = together-right-by s here (is_segment_in_flash first) (is_segment_in_flash s) refl refl is

  pub together-wrong : (s : Segment) → IsSomewhere s → are_mixed first s ≡ true → AreTogether first s → ⊥
  together-wrong s here is (inl both) =
      true≢false (sym is ∙ rw (flash-is first both.0, flash-is s both.1) refl)
  together-wrong s here is (inr both) =
      true≢false (sym is
      ∙ rw (
        sram-no_flash first both.0 (is_segment_in_flash first) refl,
        sram-no_flash s both.1
            (is_segment_in_flash s) refl,
      ) refl)

-- where two segments overlap
over-true : (a b m n : ℕ) → (nat_lt a (b + n) && nat_lt b (a + m)) ≡ true → (a < b + n) × (b < a + m)
over-true a b m n is = (grind (arith, nat_tests, common_steps), grind (arith, nat_tests, common_steps))

over-is : (a b m n : ℕ) → a < b + n → b < a + m → (nat_lt a (b + n) && nat_lt b (a + m)) ≡ true
over-is a b m n one two = rw (lt-ltb a (b + n) one, lt-ltb b (a + m) two) refl

module _ (s : Segment) (some : HasBytes s) where
  pub apart-right : (t : Segment) → HasBytes t → do_overlap s t ≡ false → Share s t → ⊥
  apart-right t more is share =
      true≢false (sym (over-is s.address t.address s.size t.size
      (omega (arith, share.1.0, share.2.1)) (omega (arith, share.1.1, share.2.0))) ∙ is)

  pub apart-wrong : (t : Segment) → HasBytes t → do_overlap s t ≡ true → (Share s t → ⊥) → ⊥
  apart-wrong t more is apart =
      let both = over-true s.address t.address s.size t.size is in
      elim (cases_lt s.address t.address) [
        | inl lt ↦ apart (t.address, (omega (arith, lt), both.1), (omega arith, omega (arith, more)))
        | inr le ↦ apart (s.address, (omega arith, omega (arith, some)), (le, both.0))
      ]
