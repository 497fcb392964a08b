-- The events of a load.
use Rattle.std.proofs.Common.{◌≡◌, ℕ, ◌+◌, ◌-◌, ◌*◌, ◌<◌, ◌≤◌, ◌⊎◌, inl, inr, List, [], ◌∷◌, ◌++◌, length, drop, Ok, refl, sym, ◌∙◌, arith, length-append, length-take, length-drop}
use Rattle.std.specs.Prelude.{slice_index, slice_range, replicate}
use Rattle.std.specs.List.{flat_map, range_with_len}
use Rattle.std.proofs.lemmas.Bool.{cases_lt}
use Rattle.std.proofs.lemmas.List.{length-replicate, get_or_past, get_or-replicate, get_or_append_left, get_or-append_right}
use Rattle.std.proofs.lemmas.List.Edits.{get_or-between}
use Rattle.boot_script.specs.Events.{EventView}
use Rattle.boot_script.specs.Scripts.{events}
use Rattle.boot_script.proofs.FollowingLemmas.{whole-script}
use Rattle.script_plan.specs.Commands.{erase_cmd, exclusive_cmd, exit_cmd, sent, update_cmd, write_cmd}
use Rattle.script_plan.specs.Loads.{filled_sector, load_events, load_text, sector_count, sector_events, sector_of}
use Rattle.script_plan.proofs.PlanLaws.{Insides, inside}

-- a part of at most a sector, filled, is a sector
filled-long : (part : List ℕ) → length part ≤ 4096 → length (filled_sector part) ≡ 4096
filled-long part few =
    length-append part (replicate (4096 - length part) 0)
    ∙ let rest = length-replicate {A = ℕ} (4096 - length part) 0 in omega (arith, few, rest)

-- a piece of a list is no longer than it is told
piece-few : (xs : List ℕ) (i n : ℕ) → length (slice_range xs i (i + n)) ≤ n
piece-few xs i n = let e = length-take (i + n - i) (drop i xs) in omega (arith, e)

pub sector-long : (image : List ℕ) (k : ℕ) → length (sector_of image k) ≡ 4096
sector-long image k =
    filled-long (slice_range image (4096 * k) (4096 * k + 4096)) (piece-few image (4096 * k) 4096)

-- zeros are 0, and so is what is past them
zeros : (n i : ℕ) → slice_index (replicate n 0) i ≡ 0
zeros n i = by_place (cases_lt i n)
  where
    by_place : (i < n) ⊎ (n ≤ i) → slice_index (replicate n 0) i ≡ 0
    by_place (inl within) = get_or-replicate n i 0 0 within
    by_place (inr past) = let long = length-replicate {A = ℕ} n 0 in get_or_past (replicate n 0) i 0 (omega (arith, long, past))

pub sector-byte : (image : List ℕ) (k i : ℕ) → i < 4096
    → slice_index (sector_of image k) i ≡ slice_index image (4096 * k + i)
sector-byte image k i here = by_place (cases_lt i (length (slice_range image (4096 * k) (4096 * k + 4096))))
  where
    by_place : (i < length (slice_range image (4096 * k) (4096 * k + 4096)))
        ⊎ (length (slice_range image (4096 * k) (4096 * k + 4096)) ≤ i)
        → slice_index (sector_of image k) i ≡ slice_index image (4096 * k + i)
    by_place (inl within) =
        get_or_append_left (slice_range image (4096 * k) (4096 * k + 4096)) _ 0 i within
        ∙ get_or-between image (4096 * k) (4096 * k + 4096) i 0 (omega (arith, here))
    by_place (inr past) =
        let size = length-take (4096 * k + 4096 - 4096 * k) (drop (4096 * k) image) in
        let rest = length-drop (4096 * k) image in
        let after : length image ≤ 4096 * k + i = omega (arith, here, past, size, rest) in
        get_or-append_right (slice_range image (4096 * k) (4096 * k + 4096)) _ _ i 0 refl past
        ∙ zeros (4096 - length (slice_range image (4096 * k) (4096 * k + 4096))) _
        ∙ sym (get_or_past image (4096 * k + i) 0 after)

-- the events of the sectors, and then others
sectors-inside : (at : ℕ) (image : List ℕ) (ks : List ℕ) (rest : List EventView) → Insides rest
    → Insides (flat_map (sector_events at image) ks ++ rest)
sectors-inside at image [] rest all = all
sectors-inside at image (k ∷ ks) rest all =
    let long = sector-long image k in (
      inside (exit_cmd (3 * k + 2)) [] refl (omega arith),
      (
        inside (erase_cmd (3 * k + 3) (at + 4096 * k) 4096) [] refl (omega arith),
        (
          inside (write_cmd (3 * k + 4) (at + 4096 * k) 4096) (sector_of image k) refl (omega (arith, long)),
          sectors-inside at image ks rest all,
        ),
      ),
    )

pub load-is : (at : ℕ) (image : List ℕ) → events (load_text at image) ≡ Ok (load_events at image)
load-is at image =
    whole-script (load_events at image) [] (
      record { well = tt; more = refl },
      (
        record { well = omega arith; more = refl },
        (
          inside (exclusive_cmd 1) [] refl (omega arith),
          sectors-inside at image (range_with_len 0 (sector_count (length image)))
              (sent (update_cmd (3 * sector_count (length image) + 2) at) [] ∷ [])
              (inside (update_cmd (3 * sector_count (length image) + 2) at) [] refl (omega arith), tt),
        ),
      ),
    )
