-- The window of a gated target after a whole download of an image.
use Rattle.std.proofs.Common.{◌≡◌, inl, inr, ℕ, ◌+◌, ◌-◌, ◌*◌, ◌/◌, ◌%◌, ◌<◌, ◌≤◌, min, All, nat_lt, List, ◌++◌, length, drop, get_or, refl, sym, ap, ◌∙◌, arith}
use Rattle.std.specs.Prelude.{if◌then◌else◌, bit_and, replicate, slice_index, slice_range}
use Rattle.std.proofs.lemmas.Bool.{cases_lt}
use Rattle.std.proofs.lemmas.Nat.{and_comm, and_mask}
use Rattle.std.proofs.lemmas.List.{ext_get_or, get_or-append_right, get_or-drop, get_or-replicate, get_or-take, get_or_append_left, length-append, length-drop, length-replicate, length-take}
use Rattle.uf2_place.specs.Files.{page_count, page_of}
use Rattle.law_downloads.specs.Copied.{downloaded, in_sectors}
use Rattle.law_downloads.proofs.LeftLemmas.{not-yet, reached}

-- a byte that is programmed over 0xff
over-blank : (x : ℕ) → x < 256 → bit_and 255 x ≡ x
over-blank x low = let less = and_mask x 8 in and_comm 255 x ∙ less ∙ omega (arith, low)

module _ (image : List ℕ) where
  abbrev part : ℕ → List ℕ
  part i = slice_range image (256 * i) (256 * i + 256)

  part-long : (i : ℕ) → length (part i) ≡ min 256 (length image - 256 * i)
  part-long i =
      omega (arith, length-take (256 * i + 256 - 256 * i) (drop (256 * i) image), length-drop (256 * i) image)

  page-in : (i r : ℕ) → r < 256 → 256 * i + r < length image
      → get_or (page_of image i) r 0 ≡ get_or image (256 * i + r) 0
  page-in i r low within =
      get_or_append_left (part i) (replicate (256 - length (part i)) 255) 0 r (omega (arith, part-long i, low, within))
      ∙ get_or-take (256 * i + 256 - 256 * i) (drop (256 * i) image) r 0 (omega (arith, low))
      ∙ get_or-drop (256 * i) image r 0

  page-out : (i r : ℕ) → r < 256 → length image ≤ 256 * i + r → get_or (page_of image i) r 0 ≡ 255
  page-out i r low out =
      get_or-append_right (part i) (replicate (256 - length (part i)) 255) (length (part i)) r 0 refl
      (omega (arith, part-long i, low, out))
      ∙ get_or-replicate (256 - length (part i)) (r - length (part i)) 255 0 (omega (arith, part-long i, low, out))

  abbrev count : ℕ
  count = page_count (length image)

  abbrev end : ℕ
  end = in_sectors (length image)

  -- what a download leaves at byte j, over what stood there
  abbrev pub kept : ℕ → ℕ → ℕ
  kept j b =
      if nat_lt (16 * (j / 4096)) count then (if nat_lt (j / 256) count
      then bit_and 255 (slice_index (page_of image (j / 256)) (j % 256)) else 255) else b

  kept-image : All (λ b. b < 256) image → (j b : ℕ) → j < length image → kept j b ≡ get_or image j 0
  kept-image bytes j b within =
      let at : 256 * (j / 256) + j % 256 ≡ j = omega arith in
      ap (λ x. if x then (if nat_lt (j / 256) count
      then bit_and 255 (slice_index (page_of image (j / 256)) (j % 256)) else 255) else b)
      (reached (16 * (j / 4096)) count (omega (arith, within)))
      ∙ ap (λ x. if x then bit_and 255 (slice_index (page_of image (j / 256)) (j % 256)) else 255)
      (reached (j / 256) count (omega (arith, within)))
      ∙ ap (bit_and 255) (page-in (j / 256) (j % 256) (omega arith) (omega (arith, within))
      ∙ ap (λ n. get_or image n 0) at)
      ∙ over-blank (get_or image j 0) (bytes j 0 within)

  kept-blank : (j b : ℕ) → length image ≤ j → j < end → kept j b ≡ 255
  kept-blank j b out within =
      ap (λ x. if x then (if nat_lt (j / 256) count
      then bit_and 255 (slice_index (page_of image (j / 256)) (j % 256)) else 255) else b)
      (reached (16 * (j / 4096)) count (omega (arith, out, within)))
      ∙ elim (cases_lt (j / 256) count) [
        | inl low ↦
            ap (λ x. if x then bit_and 255 (slice_index (page_of image (j / 256)) (j % 256)) else 255)
            (reached (j / 256) count low)
            ∙ ap (bit_and 255) (page-out (j / 256) (j % 256) (omega arith) (omega (arith, out)))
            ∙ over-blank 255 (omega arith)
        | inr high ↦
            ap (λ x. if x then bit_and 255 (slice_index (page_of image (j / 256)) (j % 256)) else 255)
            (not-yet (j / 256) count high)
      ]

  kept-former : (j b : ℕ) → end ≤ j → kept j b ≡ b
  kept-former j b out =
      ap (λ x. if x then (if nat_lt (j / 256) count
      then bit_and 255 (slice_index (page_of image (j / 256)) (j % 256)) else 255) else b)
      (not-yet (16 * (j / 4096)) count (omega (arith, out)))

  -- all bytes of the window
  module _ (bytes : All (λ b. b < 256) image) (before after : List ℕ) (same : length after ≡ length before)
      (whole : length before % 4096 ≡ 0) (room : length image ≤ length before)
      (each : (j : ℕ) → j < length before → get_or after j 0 ≡ kept j (get_or before j 0)) where
    abbrev blank : List ℕ
    blank = replicate (end - length image) 255

    abbrev behind : List ℕ
    behind = blank ++ drop end before

    blank-long : length blank ≡ end - length image
    blank-long = length-replicate (end - length image) 255

    inside : end ≤ length before
    inside = omega (arith, whole, room)

    long : length (downloaded image before) ≡ length before
    long =
        omega (
          arith,
          length-append image behind,
          length-append blank (drop end before),
          length-drop end before,
          blank-long,
          inside,
        )

    at-image : (j : ℕ) → j < length image → get_or (downloaded image before) j 0 ≡ get_or image j 0
    at-image j lt = get_or_append_left image behind 0 j lt

    at-blank : (j : ℕ) → length image ≤ j → j < end → get_or (downloaded image before) j 0 ≡ 255
    at-blank j low high =
        get_or-append_right image behind (length image) j 0 refl low
        ∙ get_or_append_left blank (drop end before) 0 (j - length image) (omega (arith, blank-long, low, high))
        ∙ get_or-replicate (end - length image) (j - length image) 255 0 (omega (arith, low, high))

    at-behind : (j : ℕ) → end ≤ j → get_or (downloaded image before) j 0 ≡ get_or before j 0
    at-behind j high =
        let least : length image ≤ end = omega arith in
        let place : end + (j - length image - (end - length image)) ≡ j = omega (arith, high, least) in
        get_or-append_right image behind (length image) j 0 refl (omega (arith, high, least))
        ∙ get_or-append_right blank (drop end before) (end - length image) (j - length image) 0 blank-long
        (omega (arith, high, least))
        ∙ get_or-drop end before (j - length image - (end - length image)) 0
        ∙ ap (λ n. get_or before n 0) place

    pub window-is : after ≡ downloaded image before
    window-is =
        ext_get_or 0 after (downloaded image before) (same ∙ sym long) (λ j lt. one j (omega (arith, lt, same)))
      where
        one : (j : ℕ) → j < length before → get_or after j 0 ≡ get_or (downloaded image before) j 0
        one j lt = each j lt ∙ elim (cases_lt j (length image)) [
          | inl low ↦ kept-image bytes j (get_or before j 0) low ∙ sym (at-image j low)
          | inr out ↦ elim (cases_lt j end) [
            | inl near ↦ kept-blank j (get_or before j 0) out near ∙ sym (at-blank j out near)
            | inr far ↦ kept-former j (get_or before j 0) far ∙ sym (at-behind j far)
          ]
        ]
