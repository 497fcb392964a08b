-- The binary of segments in flash is an address map, up to the greatest end of the segments.
use Rattle.std.proofs.Common.{◌≡◌, ℕ, suc, ◌+◌, ◌-◌, ◌<◌, ◌≤◌, Bool, true, false, if◌then◌else◌, List, [], ◌∷◌, length, get_or, refl, sym, ap, subst, ◌∙◌, inl, inr, arith, Some, slice_get}
use Rattle.std.specs.Prelude.{unwrap_or}
use Rattle.std.specs.List.{AllByRecursion}
use Rattle.std.specs.Option.{option_map}
use Rattle.std.proofs.lemmas.Bool.{cases_lt}
use Rattle.pico_board.specs.declared.boot.Cpu.{Cpu}
use Rattle.pico_board.specs.Content.{flash_base}
use Rattle.load_map.proofs.LastLoadLemmas.{none-last}
use Rattle.elf_pack.specs.declared.segment.Segment.{Segment}
use Rattle.elf_pack.specs.Binaries.{are_in_flash, elf_binary, flash_binary, greatest_end, sram_binary}
use Rattle.elf_pack.specs.Faults.{HasBinary, HasAddress, IsInFlash}
use Rattle.elf_pack.specs.Segments.{byte_of, segment_has_address, segments}
use Rattle.elf_pack.proofs.ListLemmas.{all-at}
use Rattle.elf_pack.proofs.PlacingLemmas.{flash-at, length-flash}
use Rattle.elf_pack.proofs.TogetherLemmas.{all-in-flash, ends-below, flash-byte, held-true}

-- a segment that ends with the greatest end
abbrev pub IsReached : ℕ → List Segment → Type 0
IsReached end_ xs =
    (i : ℕ) × (s : Segment) × (slice_get xs i ≡ Some s) × (s.address + s.size ≡ end_)

greatest-reached : (x : Segment) (xs : List Segment) → flash_base ≤ x.address
    → AllByRecursion IsInFlash xs → IsReached (greatest_end (x ∷ xs)) (x ∷ xs)
greatest-reached x [] low flash = (0, x, refl, omega (arith, low))
greatest-reached x (y ∷ ys) low flash =
    let rest = greatest-reached y ys flash.0.0 flash.1 in
    elim (cases_lt (x.address + x.size) (greatest_end (y ∷ ys))) [
      | inl lt ↦ (
        suc (rest.0),
        rest.1,
        rest.2,
        rest.3 ∙ (let e : greatest_end (y ∷ ys) ≡ greatest_end (x ∷ y ∷ ys) = omega (arith, lt) in e),
      )
      | inr le ↦ (0, x, refl, omega (arith, le))
    ]

above-base : (xs : List Segment) → AllByRecursion IsInFlash xs → flash_base ≤ greatest_end xs
above-base [] flash = omega arith
above-base (x ∷ xs) flash = let rest = above-base xs flash.1 in omega (arith, rest)

module _ (cpu : Cpu) (elf : List ℕ) (has : HasBinary cpu elf) (flash : are_in_flash (segments elf) ≡ true) where
  abbrev xs : List Segment
  xs = segments elf

  binary-is : elf_binary cpu elf ≡ flash_binary elf xs
  unfolding elf_binary
  binary-is = ap (λ t. if t then flash_binary elf xs else sram_binary cpu elf xs) flash

  in-flash : AllByRecursion IsInFlash xs
  in-flash = all-in-flash xs has.all.together flash

  long : length (elf_binary cpu elf) ≡ greatest_end xs - flash_base
  long = ap length binary-is ∙ length-flash elf xs (greatest_end xs - flash_base)

  pub whole-long : flash_base + length (elf_binary cpu elf) ≡ greatest_end xs
  whole-long = omega (arith, long, above-base xs in-flash)

  pub map-segment : (i : ℕ) (s : Segment) (a : ℕ) → slice_get xs i ≡ Some s → HasAddress a s
      → get_or (elf_binary cpu elf) (a - flash_base) 0 ≡ byte_of elf a s
  map-segment i s a at here =
      let inside = all-at IsInFlash xs i s at in-flash in
      ap (λ ys. get_or ys (a - flash_base) 0) binary-is
      ∙ flash-byte elf xs has.apart i s a at (omega (arith, inside.0, here.0)) here

  pub map-elsewhere : (k : ℕ) → k < length (elf_binary cpu elf)
      → AllByRecursion (λ (s : Segment). HasAddress (flash_base + k) s → ⊥) xs
      → get_or (elf_binary cpu elf) k 0 ≡ 255
  map-elsewhere k lt none =
      ap (λ ys. get_or ys k 0) binary-is
      ∙ flash-at elf xs (greatest_end xs - flash_base) k (omega (arith, lt, long))
      ∙ ap (λ o. unwrap_or (option_map (byte_of elf (flash_base + k)) o) 255)
      (none-last (segment_has_address (flash_base + k)) xs (λ i s at. not-held s (all-at
      (λ (t : Segment). HasAddress (flash_base + k) t → ⊥) xs i s at none)
      (segment_has_address (flash_base + k) s) refl))
    where
      not-held : (s : Segment) → (HasAddress (flash_base + k) s → ⊥) → (t : Bool)
          → segment_has_address (flash_base + k) s ≡ t → segment_has_address (flash_base + k) s ≡ false
      not-held s no_one true e = absurd (no_one (held-true (flash_base + k) s e))
      not-held s no_one false e = e

  pub map-ends : (i : ℕ) (s : Segment) → slice_get xs i ≡ Some s
      → s.address + s.size ≤ flash_base + length (elf_binary cpu elf)
  map-ends i s at = let below = ends-below xs i s at in omega (arith, below, whole-long)

  pub map-reached : IsReached (flash_base + length (elf_binary cpu elf)) xs
  map-reached = subst (λ n. IsReached n xs) (sym whole-long) (go xs has.all.some in-flash)
    where
      go : (ys : List Segment) → (ys ≡ [] → ⊥) → AllByRecursion IsInFlash ys
          → IsReached (greatest_end ys) ys
      go [] some all = absurd (some refl)
      go (y ∷ ys) some all = greatest-reached y ys all.0.0 all.1
