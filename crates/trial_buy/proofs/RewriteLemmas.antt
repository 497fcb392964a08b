-- What the rewrite of a sector leaves: the sector with the new bytes, and all else as it was.
use Rattle.std.proofs.Common.{◌≡◌, ◌⊎◌, inl, inr, ℕ, zero, suc, ◌+◌, ◌-◌, ◌*◌, ◌/◌, ◌%◌, ◌<◌, ◌≤◌, List, length, get_or, refl, sym, ap, ◌∙◌, subst, arith}
use Rattle.std.specs.Prelude.{slice_range}
use Rattle.std.specs.Int.Bits.{bit_and}
use Rattle.std.proofs.lemmas.Bool.{cases_eq, cases_lt}
use Rattle.std.proofs.lemmas.Grind.{numeral_and}
use Rattle.std.proofs.lemmas.List.{ext_get_or, get_or-set_other, get_or-set_same, get_or_past, length-set}
use Rattle.std.proofs.lemmas.List.Edits.{get_or-between, length-between}
use Rattle.pico_board.specs.declared.Step.TheVariants.{Erase}
use Rattle.pico_board.specs.Content.{Content, IsContent}
use Rattle.pico_board.specs.Steps.{after, after_all}
use Rattle.pico_board.proofs.ChangedLemmas.{changed-inside, changed-outside}
use Rattle.pico_board.proofs.ContentLemmas.{byte_at, length-after}
use Rattle.trial_buy.specs.Buying.{cleared, cleared_sector, clearing, page_program, rewrite_steps}
use Rattle.trial_buy.proofs.StepLemmas.{programs-all, programs_from, rewrite-otp}

-- a page of erased bytes becomes the bytes that are programmed
and-erased : (d : ℕ) → d < 256 → bit_and 255 d ≡ d
and-erased d lt = let low : bit_and 255 d ≡ d % 256 = numeral_and 254 d refl in omega (arith, low, lt)

module _ (s : ℕ) (bytes : List ℕ) (whole : length bytes ≡ 4096) (small : (k : ℕ) → get_or bytes k 0 < 256) where
  -- a byte elsewhere stays
  outside : (c : Content) (i n k : ℕ) → (k < 4096 * s + 256 * i) ⊎ (4096 * s + 256 * (i + n) ≤ k)
      → get_or (after_all c (programs_from s bytes i n)).flash k 0 ≡ get_or c.flash k 0
  outside c i zero k apart = refl
  outside c i (suc n) k apart =
      outside (after c (page_program s bytes i)) (i + 1) n k (later apart)
      ∙ changed-outside (λ j b. bit_and b (get_or (slice_range bytes (256 * i) (256 * i + 256)) j 0))
      (256 * (16 * s + i)) 256 c.flash k (first apart)
    where
      later : (k < 4096 * s + 256 * i) ⊎ (4096 * s + 256 * (i + suc n) ≤ k)
          → (k < 4096 * s + 256 * (i + 1)) ⊎ (4096 * s + 256 * (i + 1 + n) ≤ k)
      later (inl below) = inl (omega arith)
      later (inr above) = inr (omega arith)

      first : (k < 4096 * s + 256 * i) ⊎ (4096 * s + 256 * (i + suc n) ≤ k)
          → (k < 256 * (16 * s + i)) ⊎ (256 * (16 * s + i) + 256 ≤ k)
      first (inl below) = inl (omega arith)
      first (inr above) = inr (omega arith)

  -- an erased byte of a page becomes the byte that is programmed
  inside : (c : Content) (i n k : ℕ) → i + n ≤ 16 → 4096 * s + 256 * i ≤ k → k < 4096 * s + 256 * (i + n)
      → k < length c.flash
      → get_or c.flash k 0 ≡ 255 → get_or (after_all c (programs_from s bytes i n)).flash k 0
      ≡ get_or bytes (k - 4096 * s) 0
  inside c i zero k few low high within erased = absurd (omega arith)
  inside c i (suc n) k few low high within erased = elim (cases_lt k (4096 * s + 256 * i + 256)) [
    | inl here ↦
        let page = slice_range bytes (256 * i) (256 * i + 256) in
        let at = 256 * (16 * s + i) in
        outside (after c (page_program s bytes i)) (i + 1) n k (inl (omega (arith, here)))
        ∙ changed-inside (λ j b. bit_and b (get_or page j 0)) at 256 c.flash k (omega arith)
        (omega (arith, here)) within
        ∙ ap (λ b. bit_and b (get_or page (k - at) 0)) erased
        ∙ ap (bit_and 255) (get_or-between bytes (256 * i) (256 * i + 256) (k - at) 0 (omega (arith, here))
        ∙ ap (λ j. get_or bytes j 0) (omega (arith, here)))
        ∙ and-erased (get_or bytes (k - 4096 * s) 0) (small (k - 4096 * s))
    | inr behind ↦
        inside (after c (page_program s bytes i)) (i + 1) n k (omega arith) (omega (arith, behind)) (omega arith)
        (let same = length-after c (page_program s bytes i) in omega (arith, same))
        (changed-outside (λ j b. bit_and b (get_or (slice_range bytes (256 * i) (256 * i + 256)) j 0))
        (256 * (16 * s + i)) 256 c.flash k (inr (omega (arith, behind)))
        ∙ erased)
  ]

  -- the sector after its rewrite, and all else
  pub rewritten-inside : (c : Content) (k : ℕ) → 4096 * s ≤ k → k < 4096 * s + 4096 → k < length c.flash
      → get_or (after_all c (rewrite_steps s bytes)).flash k 0 ≡ get_or bytes (k - 4096 * s) 0
  rewritten-inside c k low high within =
      ap (λ steps. get_or (after_all (after c (Erase s)) steps).flash k 0) (programs-all s bytes)
      ∙ inside (after c (Erase s)) 0 16 k (omega arith) (omega arith) (omega arith)
      (let same = length-after c (Erase s) in omega (arith, same))
      (changed-inside (λ i b. 255) (4096 * s) 4096 c.flash k low (omega arith) within)

  pub rewritten-outside : (c : Content) (k : ℕ) → (k < 4096 * s) ⊎ (4096 * s + 4096 ≤ k)
      → get_or (after_all c (rewrite_steps s bytes)).flash k 0 ≡ get_or c.flash k 0
  rewritten-outside c k apart =
      ap (λ steps. get_or (after_all (after c (Erase s)) steps).flash k 0) (programs-all s bytes)
      ∙ outside (after c (Erase s)) 0 16 k (there apart)
      ∙ changed-outside (λ i b. 255) (4096 * s) 4096 c.flash k apart
    where
      there : (k < 4096 * s) ⊎ (4096 * s + 4096 ≤ k) → (k < 4096 * s + 256 * 0) ⊎ (4096 * s + 256 * (0 + 16) ≤ k)
      there (inl below) = inl (omega arith)
      there (inr above) = inr (omega arith)

  length-programs : (c : Content) (i n : ℕ) → length (after_all c (programs_from s bytes i n)).flash ≡ length c.flash
  length-programs c i zero = refl
  length-programs c i (suc n) = length-programs (after c (page_program s bytes i)) (i + 1) n
      ∙ length-after c (page_program s bytes i)

  pub length-rewritten : (c : Content) → length (after_all c (rewrite_steps s bytes)).flash ≡ length c.flash
  length-rewritten c =
      ap (λ steps. length (after_all (after c (Erase s)) steps).flash) (programs-all s bytes)
      ∙ length-programs (after c (Erase s)) 0 16 ∙ length-after c (Erase s)

-- a list with the high bit of a byte cleared
pub cleared-small : (bytes : List ℕ) (place : ℕ) → ((k : ℕ) → get_or bytes k 0 < 256) → (k : ℕ)
    → get_or (cleared bytes place) k 0 < 256
cleared-small bytes place small k = elim (cases_eq k place) [
  | inl same ↦ at-place same (cases_lt place (length bytes))
  | inr other ↦ subst (λ x. x < 256) (sym (get_or-set_other bytes place k (get_or bytes place 0 % 128) 0 other))
      (small k)
]
  where
    at-place : k ≡ place → (place < length bytes) ⊎ (length bytes ≤ place) → get_or (cleared bytes place) k 0 < 256
    at-place same (inl lt) =
        let is : get_or (cleared bytes place) k 0 ≡ get_or bytes place 0 % 128 =
        ap (λ j. get_or (cleared bytes place) j 0) same
        ∙ get_or-set_same bytes place (get_or bytes place 0 % 128) 0 lt in
        omega (arith, is)
    at-place same (inr past) =
        let none : get_or (cleared bytes place) k 0 ≡ 0 =
        get_or_past (cleared bytes place) k 0
        (let long = length-set bytes place (get_or bytes place 0 % 128) in omega (arith, long, past, same)) in
        omega (arith, none)

same-content : (f g o p : List ℕ) → f ≡ g → o ≡ p
    → (let d : Content = record { flash = f; otp = o } in let e : Content = record { flash = g; otp = p } in d ≡ e)
same-content f g o p h k = cc

module _ (c : Content) (right : IsContent c) (place : ℕ) (within : place < length c.flash) where
  abbrev sector : ℕ
  sector = place / 4096

  abbrev old : List ℕ
  old = slice_range c.flash (4096 * sector) (4096 * sector + 4096)

  sector-fits : 4096 * sector + 4096 ≤ length c.flash
  sector-fits = let whole = right.flash_length.whole in omega (arith, whole, within)

  old-length : length old ≡ 4096
  old-length = let long = length-between c.flash (4096 * sector) (4096 * sector + 4096) sector-fits in
      omega (arith, long)

  old-byte : (k : ℕ) → k < 4096 → get_or old k 0 ≡ get_or c.flash (4096 * sector + k) 0
  old-byte k lt = get_or-between c.flash (4096 * sector) (4096 * sector + 4096) k 0 (omega arith)

  old-small : (k : ℕ) → get_or old k 0 < 256
  old-small k = elim (cases_lt k 4096) [
    | inl lt ↦ subst (λ x. x < 256) (sym (old-byte k lt)) (byte_at c.flash right.flash_bytes (4096 * sector + k))
    | inr past ↦ (let none : get_or old k 0 ≡ 0 =
        get_or_past old k 0 (let long = old-length in omega (arith, long, past)) in omega (arith, none))
  ]

  new-length : length (cleared_sector c.flash place) ≡ 4096
  new-length = length-set old (place % 4096) (get_or old (place % 4096) 0 % 128) ∙ old-length

  new-small : (k : ℕ) → get_or (cleared_sector c.flash place) k 0 < 256
  new-small = cleared-small old (place % 4096) old-small

  -- in the sector
  in-sector : (k : ℕ) → 4096 * sector ≤ k → k < 4096 * sector + 4096
      → get_or (cleared_sector c.flash place) (k - 4096 * sector) 0 ≡ get_or (cleared c.flash place) k 0
  in-sector k low high = elim (cases_eq k place) [
    | inl same ↦
        let at : k - 4096 * sector ≡ place % 4096 = omega (arith, same) in
        let lt : place % 4096 < length old = (let long = old-length in omega (arith, long)) in
        ap (λ j. get_or (cleared_sector c.flash place) j 0) at
        ∙ get_or-set_same old (place % 4096) (get_or old (place % 4096) 0 % 128) 0 lt
        ∙ ap (λ b. b % 128) (old-byte (place % 4096) (omega arith) ∙ ap (λ j. get_or c.flash j 0) (omega arith))
        ∙ sym (ap (λ j. get_or (cleared c.flash place) j 0) same
        ∙ get_or-set_same c.flash place (get_or c.flash place 0 % 128) 0 within)
    | inr other ↦
        get_or-set_other old (place % 4096) (k - 4096 * sector) (get_or old (place % 4096) 0 % 128) 0
        (λ e. other (omega (arith, e)))
        ∙ old-byte (k - 4096 * sector) (omega arith) ∙ ap (λ j. get_or c.flash j 0) (omega arith)
        ∙ sym (get_or-set_other c.flash place k (get_or c.flash place 0 % 128) 0 other)
  ]

  each : (k : ℕ) → k < length c.flash
      → get_or (after_all c (clearing c.flash place)).flash k 0 ≡ get_or (cleared c.flash place) k 0
  each k lt = elim (cases_lt k (4096 * sector)) [
    | inl below ↦
        rewritten-outside sector (cleared_sector c.flash place) new-length new-small c k (inl below)
        ∙ sym (get_or-set_other c.flash place k (get_or c.flash place 0 % 128) 0
        (λ e. absurd (omega (arith, below, e))))
    | inr low ↦ elim (cases_lt k (4096 * sector + 4096)) [
      | inl high ↦
          rewritten-inside sector (cleared_sector c.flash place) new-length new-small c k low high lt
          ∙ in-sector k low high
      | inr above ↦
          rewritten-outside sector (cleared_sector c.flash place) new-length new-small c k (inr above)
          ∙ sym (get_or-set_other c.flash place k (get_or c.flash place 0 % 128) 0
          (λ e. absurd (omega (arith, above, e))))
    ]
  ]

  flash-is : (after_all c (clearing c.flash place)).flash ≡ cleared c.flash place
  flash-is =
      let long = length-rewritten sector (cleared_sector c.flash place) new-length new-small c in
      let set = length-set c.flash place (get_or c.flash place 0 % 128) in
      ext_get_or 0 (after_all c (clearing c.flash place)).flash (cleared c.flash place) (long ∙ sym set)
      (λ k lt. each k (omega (arith, lt, long)))

  pub cleared-content : after_all c (clearing c.flash place) ≡ record { flash = cleared c.flash place; otp = c.otp }
  cleared-content = same-content _ _ _ _ flash-is (rewrite-otp c sector (cleared_sector c.flash place))
