-- The script of a load, sector by sector.
use Rattle.std.proofs.Common.{◌≡◌, ℕ, OnOk, Result, subst, zero, suc, ◌+◌, ◌*◌, List, [], ◌∷◌, ◌++◌, length, sym, ap, ◌∙◌, append_assoc, append-nil, arith}
use Rattle.std.specs.List.{flat_map, range_with_len}
use Rattle.std.proofs.lemmas.List.Concat.{flat_map-append}
use Rattle.boot_script.specs.Events.{EventView}
use Rattle.boot_script.specs.Written.{written_event}
use Rattle.script_plan.specs.Loads.{boot_events, sector_count, sector_events, sectors_events, writes_events}

-- one number more
range-more : (a n : ℕ) → range_with_len a (suc n) ≡ range_with_len a n ++ (a + n) ∷ []
range-more a zero = ap (λ k. k ∷ []) (omega arith)
range-more a (suc n) =
    let place : a + 1 + n ≡ a + suc n = omega arith in
    ap (λ ks. a ∷ ks) (range-more (a + 1) n)
    ∙ ap (λ k. a ∷ (range_with_len (a + 1) n ++ k ∷ [])) place

module _ (at : ℕ) (image : List ℕ) where
  -- the events of the first sectors
  abbrev front : ℕ → List EventView
  front k = flat_map (sector_events at image) (range_with_len 0 k)

  -- those of one sector more
  front-more : (k : ℕ) → front (k + 1) ≡ front k ++ sector_events at image k
  front-more k =
      let next : k + 1 ≡ suc k = omega arith in
      let place : 0 + k ≡ k = omega arith in
      ap (λ n. front n) next
      ∙ ap (λ ks. flat_map (sector_events at image) ks) (range-more 0 k)
      ∙ ap (λ j. flat_map (sector_events at image) (range_with_len 0 k ++ j ∷ [])) place
      ∙ flat_map-append (sector_events at image) (range_with_len 0 k) (k ∷ [])
      ∙ ap (λ es. front k ++ es) (append-nil (sector_events at image k))

  -- the bytes after one sector more
  pub bytes-more : (k : ℕ) (old mid new : List ℕ) → mid ≡ old ++ flat_map written_event (front k)
      → new ≡ mid ++ flat_map written_event (sector_events at image k)
      → new ≡ old ++ flat_map written_event (front (k + 1))
  bytes-more k old mid new former is =
      let text = flat_map written_event (front k) in
      let one = flat_map written_event (sector_events at image k) in
      is ∙ ap (λ (m : List ℕ). m ++ one) former ∙ append_assoc old text one
      ∙ ap (λ (t : List ℕ). old ++ t)
      (sym (flat_map-append written_event (front k) (sector_events at image k))
      ∙ ap (λ es. flat_map written_event es) (sym (front-more k)))

  -- the bytes of the sectors and of the reboot behind them
  pub bytes-rest : {T E : Type 0} (r : Result T E) (count : ℕ) (old mid new : List ℕ)
      → count ≡ sector_count (length image)
      → mid ≡ old ++ flat_map written_event (sectors_events at image)
      → OnOk r (new ≡ mid ++ flat_map written_event (boot_events (3 * count + 2) at))
      → OnOk r (new ≡ old ++ flat_map written_event (writes_events at image))
  bytes-rest r count old mid new all former done =
      let boot : ℕ → List EventView = λ n. boot_events (3 * n + 2) at in
      let text = flat_map written_event (sectors_events at image) in
      let joined : mid ++ flat_map written_event (boot count) ≡ old ++ flat_map written_event (writes_events at image) =
      ap (λ (m : List ℕ). m ++ flat_map written_event (boot count)) former
      ∙ append_assoc old text (flat_map written_event (boot count))
      ∙ ap (λ (t : List ℕ). old ++ t) (sym (flat_map-append written_event (sectors_events at image) (boot count)))
      ∙ ap (λ n. old ++ flat_map written_event (sectors_events at image ++ boot n)) all in
      subst (λ (whole : List ℕ). OnOk r (new ≡ whole)) joined done
