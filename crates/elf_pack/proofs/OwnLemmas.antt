-- The loads of segments, as a sealed image takes them over.
use Rattle.std.proofs.Common.{◌≡◌, ◌≢◌, ℕ, zero, suc, ◌+◌, ◌<◌, if◌then◌else◌, List, [], ◌∷◌, length, filter, map, refl, sym, ap, ◌∙◌, arith, length-append, Some, None, slice_get}
use Rattle.std.specs.List.{AllByRecursion}
use Rattle.std.proofs.lemmas.Bool.{ne_eqb}
use Rattle.std.proofs.lemmas.Option.{none-some, same_Some}
use Rattle.load_map.specs.declared.load.Load.{Load}
use Rattle.load_map.specs.Addresses.{in_sram}
use Rattle.image_pack.specs.Filling.{round_up}
use Rattle.image_pack.specs.Sealing.{own_load}
use Rattle.elf_pack.specs.declared.segment.Segment.{Segment}
use Rattle.elf_pack.specs.Binaries.{loads_from}
use Rattle.elf_pack.specs.Faults.{IsInSram}
use Rattle.elf_pack.proofs.SegmentLemmas.{sram-is}
use Rattle.elf_pack.proofs.StoredLemmas.{IsInside, all_stored, long_stored, stored}

-- the loads of segments in SRAM are all taken over
module _ (elf : List ℕ) where
  own-one : (mo at : ℕ) (s : Segment) → at ≢ mo
      → own_load mo (record { storage = Some at; runtime = s.address; size = s.size })
      ≡ record { storage = Some at; runtime = s.address; size = s.size }
  own-one mo at s other =
      ap (λ t. record { storage = if t then None else Some at; runtime = s.address; size = s.size })
      (ne_eqb at mo other)

  pub own-kept : (xs : List Segment) (at mo : ℕ) → AllByRecursion (IsInside (length elf)) xs
      → AllByRecursion IsInSram xs → at + length (all_stored elf xs) < mo
      → map (own_load mo) (filter (λ (load : Load). in_sram load.runtime load.size) (loads_from at xs))
      ≡ loads_from at xs
  own-kept [] at mo inside sram lt = refl
  own-kept (s ∷ xs) at mo inside sram lt =
      let sum = length-append (stored elf s) (all_stored elf xs) in
      let long = long_stored elf s inside.0 in
      let load : Load = record { storage = Some at; runtime = s.address; size = s.size } in
      ap (λ t. map (own_load mo) (if t
      then load ∷ filter (λ (l : Load). in_sram l.runtime l.size) (loads_from (at + round_up 4 s.size) xs)
      else filter (λ (l : Load). in_sram l.runtime l.size) (loads_from (at + round_up 4 s.size) xs))) (sram-is s sram.0)
      ∙ ap (λ l. l ∷ map (own_load mo)
      (filter (λ (l : Load). in_sram l.runtime l.size) (loads_from (at + round_up 4 s.size) xs)))
      (own-one mo at s (λ same. omega (arith, same, lt)))
      ∙ ap (λ ls. load ∷ ls)
      (own-kept xs (at + round_up 4 s.size) mo inside.1 sram.1 (omega (arith, lt, sum, long)))

-- a load of segments is that of the segment at its place
pub load-from : (xs : List Segment) (at i : ℕ) (load : Load) → slice_get (loads_from at xs) i ≡ Some load
    → (s : Segment) × (slice_get xs i ≡ Some s) × (load.runtime ≡ s.address) × (load.size ≡ s.size)
load-from [] at i load is = absurd (none-some load is)
load-from (s ∷ xs) at zero load is =
    let same = same_Some (record { storage = Some at; runtime = s.address; size = s.size }) load is in
    (s, refl, sym (ap (λ (l : Load). l.runtime) same), sym (ap (λ (l : Load). l.size) same))
load-from (s ∷ xs) at (suc i) load is = load-from xs (at + round_up 4 s.size) i load is
