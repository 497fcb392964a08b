-- Pages that are held in the bytes of a sector, and their programs.
use Rattle.std.proofs.Common.{◌≡◌, ◌≢◌, ◌⊎◌, ℕ, zero, suc, ◌+◌, ◌-◌, ◌*◌, ◌%◌, ◌^◌, ◌<◌, ◌≤◌, false, nat_eq, if◌then◌else◌, Option, Some, List, [], ◌++◌, length, take, drop, bit_or, arith, refl, sym, ap, subst, ◌∙◌, inl, inr}
use Rattle.std.specs.Prelude.{slice_get, slice_range}
use Rattle.std.specs.Int.{bit_at, w16}
use Rattle.std.proofs.Math.Seq.{drop-append_seam, take-append_seam}
use Rattle.std.proofs.lemmas.Bool.{cases_lt}
use Rattle.std.proofs.lemmas.Bool.Decides.{Decides-eqb, nat_tests}
use Rattle.std.proofs.lemmas.List.{get_or-set_same, places, length-append, length-take, length-drop}
use Rattle.std.proofs.lemmas.Nat.Bits.{bit_at_set_same, bit_at_set_other}
use Rattle.std.proofs.lemmas.Option.{slice_get_within, get_or_from_slice_get}
use Rattle.pico_board.proofs.ConfinementLemmas.{slice_range_ext}
use Rattle.pico_board.specs.declared.Step.{Step}
use Rattle.sector_pool.specs.Pool.{Pool, pool_with_sector}
use Rattle.sector_pool.proofs.KeptLemmas.{KeepsOutBut-written}
use Rattle.uf2_place.specs.declared.current.Held.{Held}
use Rattle.uf2_place.specs.Downloads.{pool_sector_bytes, held_page}
use Rattle.uf2_place.specs.Placement.{program_of, programs_in}
use Rattle.uf2_place.specs.Progress.{HoldsPage}
use Rattle.uf2_place.proofs.GatingLemmas.{programs_above}
use Rattle.uf2_place.proofs.SetBitLemmas.{differ}

-- the programs of the pages of a sector from page number `place` of it on
unfoldable pub programs_left : ℕ → ℕ → (ℕ → Option (List ℕ)) → List Step
programs_left s place f = programs_above s place (16 - place) f

pub programs-start : (s : ℕ) (f : ℕ → Option (List ℕ)) → programs_left s 0 f ≡ programs_in s f
unfolding programs_left programs_in
programs-start s f = refl

pub programs-next : (s place : ℕ) (f : ℕ → Option (List ℕ)) → place < 16
    → program_of (16 * s + place) (f place) ++ programs_left s (place + 1) f ≡ programs_left s place f
unfolding programs_left
programs-next s place f low =
    let one_more : 16 - place ≡ suc (16 - (place + 1)) = omega (arith, low) in
    sym (ap (λ n. programs_above s place n f) one_more)

pub programs-end : (s place : ℕ) (f : ℕ → Option (List ℕ)) → 16 ≤ place → programs_left s place f ≡ []
unfolding programs_left
programs-end s place f past =
    let none : 16 - place ≡ 0 = omega (arith, past) in
    ap (λ n. programs_above s place n f) none

above-same : (s a n : ℕ) (f g : ℕ → Option (List ℕ)) → ((i : ℕ) → i < a + n → f i ≡ g i)
    → programs_above s a n f ≡ programs_above s a n g
above-same s a zero f g same = refl
above-same s a (suc n) f g same =
    rw (same a (omega arith)) (ap (λ (rest : List Step). program_of (16 * s + a) (g a) ++ rest)
    (above-same s (a + 1) n f g (λ i low. same i (omega (arith, low)))))

-- a sector with the same pages has the same programs
pub programs-same : (s : ℕ) (f g : ℕ → Option (List ℕ)) → ((i : ℕ) → i < 16 → f i ≡ g i)
    → programs_in s f ≡ programs_in s g
unfolding programs_in
programs-same s f g same = above-same s 0 16 f g (λ i low. same i (omega (arith, low)))

-- the bytes of a sector with a page at `at`
abbrev patched : List ℕ → ℕ → List ℕ → List ℕ
patched xs at page = take at xs ++ (page ++ drop (at + 256) xs)

patched-here : (xs : List ℕ) (at : ℕ) (page : List ℕ) → at ≤ length xs → length page ≡ 256
    → slice_range (patched xs at page) at (at + 256) ≡ page
patched-here xs at page within long =
    let front : length (take at xs) ≡ at = omega (arith, length-take at xs, within) in
    let behind : drop at (patched xs at page) ≡ page ++ drop (at + 256) xs =
    subst (λ k. drop k (patched xs at page) ≡ page ++ drop (at + 256) xs) front
    (drop-append_seam (take at xs) (page ++ drop (at + 256) xs)) in
    let size : at + 256 - at ≡ length page = omega (arith, long) in
    ap (take (at + 256 - at)) behind
    ∙ ap (λ n. take n (page ++ drop (at + 256) xs)) size ∙ take-append_seam page (drop (at + 256) xs)

patched-size : (xs : List ℕ) (at : ℕ) (page : List ℕ) → at + 256 ≤ length xs → length page ≡ 256
    → length (patched xs at page) ≡ length xs
patched-size xs at page within long =
    omega (
      arith,
      length-append (take at xs) (page ++ drop (at + 256) xs),
      length-append page (drop (at + 256) xs),
      length-take at xs,
      length-drop (at + 256) xs,
      within,
      long,
    )

patched-other : (xs : List ℕ) (at other : ℕ) (page : List ℕ) → at + 256 ≤ length xs → length page ≡ 256
    → (other + 256 ≤ at) ⊎ (at + 256 ≤ other) → slice_range (patched xs at page) other (other + 256)
    ≡ slice_range xs other (other + 256)
patched-other xs at other page within long apart =
    slice_range_ext (patched xs at page) xs other (other + 256) (patched-size xs at page within long)
    (λ i low high. grind (arith, places, within, long, apart, low, high))

held-at : (pages : ℕ) (bytes : List ℕ) (i : ℕ) → bit_at pages i ≡ 1
    → held_page pages bytes i ≡ Some (slice_range bytes (256 * i) (256 * i + 256))
held-at pages bytes i one = rw one refl

-- a page is held, the others as they were
pub page-held : (place : ℕ) (page : List ℕ) (old : Held) (pool : Pool) (bytes after : List ℕ) (pages : ℕ) → place < 16
    → slice_get pool.sectors old.lease ≡ Some bytes → length bytes ≡ 4096 → length page ≡ 256
    → pages ≡ bit_or old.pages (1 * 2 ^ place % 65536) → after ≡ patched bytes (256 * place) page
    → HoldsPage place page old pool (record { lease = old.lease; pages = pages })
    (pool_with_sector pool old.lease after)
page-held place page old pool bytes after pages low stood size long set copied = record {
  lease = refl;
  pages = λ i small. elim (differ place i) [
    | inl same ↦ here i same
    | inr other ↦ there i small other
  ];
  kept = KeepsOutBut-written pool old.lease after;
}
  where
    before : pool_sector_bytes pool old.lease ≡ bytes
    before = get_or_from_slice_get pool.sectors old.lease bytes [] stood

    now : pool_sector_bytes (pool_with_sector pool old.lease after) old.lease ≡ patched bytes (256 * place) page
    now = get_or-set_same pool.sectors old.lease after [] (slice_get_within _ _ _ stood) ∙ copied

    here : (i : ℕ) → place ≡ i → held_page pages (pool_sector_bytes (pool_with_sector pool old.lease after) old.lease) i
        ≡ (if nat_eq place i then Some page else held_page old.pages (pool_sector_bytes pool old.lease) i)
    here i same =
        let one : bit_at pages place ≡ 1 = ap (λ w. bit_at w place) set
        ∙ bit_at_set_same w16 old.pages place (omega (arith, low)) in
        let held : held_page pages (pool_sector_bytes (pool_with_sector pool old.lease after) old.lease) place
        ≡ Some page =
        held-at pages (pool_sector_bytes (pool_with_sector pool old.lease after) old.lease) place one
        ∙ ap (λ bs. Some (slice_range bs (256 * place) (256 * place + 256))) now
        ∙ ap Some (patched-here bytes (256 * place) page (omega (arith, size, low)) long) in
        rw ((Decides-eqb place i).1 same)
        (subst (λ k. held_page pages (pool_sector_bytes (pool_with_sector pool old.lease after) old.lease) k
        ≡ Some page) same held)

    there : (i : ℕ) → i < 16 → place ≢ i → held_page pages
        (pool_sector_bytes (pool_with_sector pool old.lease after) old.lease) i
        ≡ (if nat_eq place i then Some page else held_page old.pages (pool_sector_bytes pool old.lease) i)
    there i small other =
        let away : nat_eq place i ≡ false = grind (arith, nat_tests, other) in
        let bit : bit_at pages i ≡ bit_at old.pages i =
        ap (λ w. bit_at w i) set ∙ bit_at_set_other w16 old.pages place (omega (arith, low)) i (λ same. other
        (sym same)) in
        let apart : (256 * i + 256 ≤ 256 * place) ⊎ (256 * place + 256 ≤ 256 * i) =
        elim (cases_lt i place) [
          | inl below ↦ inl (omega (arith, below))
          | inr above ↦ inr (omega
              (arith, above, other))
        ] in
        let same : slice_range (pool_sector_bytes (pool_with_sector pool old.lease after) old.lease) (256 * i)
        (256 * i + 256)
        ≡ slice_range (pool_sector_bytes pool old.lease) (256 * i) (256 * i + 256) =
        ap (λ bs. slice_range bs (256 * i) (256 * i + 256)) now
        ∙ patched-other bytes (256 * place) (256 * i) page (omega (arith, size, low)) long apart
        ∙ ap (λ bs. slice_range bs (256 * i) (256 * i + 256)) (sym before) in
        rw (away, bit, same) refl
