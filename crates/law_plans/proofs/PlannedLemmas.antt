-- The bytes that a plan leaves, place by place, and which blocks begin in their first sector.
use Rattle.std.proofs.Common.{◌≡◌, ◌≢◌, ℕ, ◌+◌, ◌-◌, ◌<◌, ◌≤◌, List, length, drop, replicate, get_or, refl, ap, ◌∙◌, inl, inr, arith, length-append, length-drop}
use Rattle.std.proofs.lemmas.Bool.{cases_lt}
use Rattle.std.proofs.lemmas.List.{get_or-append_right, get_or-drop, get_or-replicate, get_or_append_left, get_or_past, length-replicate}
use Rattle.image_pack.specs.Filling.{padded, round_up, whole_sectors}
use Rattle.law_plans.specs.Written.{HasNoLowBlockPast, planned, whole_pages}
use Rattle.law_plans.proofs.KeptBlockLemmas.{ends-before}
use Rattle.law_plans.proofs.StepByteLemmas.{zeros-behind}

pub erased-byte : (m i : ℕ) → i < m → get_or (replicate {A = ℕ} m 255) i 0 ≡ 255
erased-byte m i lt = get_or-replicate m i 255 0 (let long = length-replicate {A = ℕ} m 255 in omega (arith, lt, long))

pub length-padded : (n : ℕ) (xs : List ℕ) → length xs ≤ n → length (padded n xs) ≡ n
length-padded n xs room =
    let whole = length-append xs (replicate (n - length xs) 255) in
    let fill = length-replicate {A = ℕ} (n - length xs) 255 in
    omega (arith, whole, fill, room)

pages-least : (n : ℕ) → n ≤ round_up 256 n
pages-least n = omega arith

pub sectors-least : (n : ℕ) → n ≤ round_up 4096 n
sectors-least n = omega arith

-- whole pages end in the last sector
pub sectors-of-pages : (n : ℕ) → round_up 4096 (round_up 256 n) ≡ round_up 4096 n
sectors-of-pages n = omega arith

pub length-pages : (image : List ℕ) → length (whole_pages image) ≡ round_up 256 (length image)
length-pages image =
    let whole = length-append image (replicate (round_up 256 (length image) - length image) 0) in
    let fill = length-replicate {A = ℕ} (round_up 256 (length image) - length image) 0 in
    let least = pages-least (length image) in
    omega (arith, whole, fill, least)

pub length-sectors : (xs : List ℕ) → length (whole_sectors xs) ≡ round_up 4096 (length xs)
length-sectors xs = length-padded (round_up 4096 (length xs)) xs (sectors-least (length xs))

pub length-written : (image : List ℕ)
    → length (whole_sectors (whole_pages image)) ≡ round_up 4096 (length image)
length-written image =
    length-sectors (whole_pages image) ∙ ap (round_up 4096) (length-pages image) ∙ sectors-of-pages (length image)

module _ (image old : List ℕ) where
  abbrev pages : List ℕ
  pages = whole_pages image

  abbrev sectors : List ℕ
  sectors = whole_sectors pages

  fits : length pages ≤ length sectors
  fits =
      let long = length-sectors pages in let least = sectors-least (length pages) in omega (arith, long, least)

  -- what stands before the end of the last page
  pub planned-image : (i : ℕ) → i < length pages → get_or (planned image old) i 0 ≡ get_or image i 0
  planned-image i lt =
      get_or_append_left sectors (drop (length sectors) old) 0 i (omega (arith, lt, fits))
      ∙ get_or_append_left pages (replicate (round_up 4096 (length pages) - length pages) 255) 0 i lt
      ∙ zeros-behind image (round_up 256 (length image) - length image) i

  -- what stands behind the end of the last page, up to the end of the last sector
  pub planned-erased : (i : ℕ) → length pages ≤ i → i < length sectors → get_or (planned image old) i 0 ≡ 255
  planned-erased i from to =
      let long = length-sectors pages in
      get_or_append_left sectors (drop (length sectors) old) 0 i to
      ∙ get_or-append_right pages (replicate (round_up 4096 (length pages) - length pages) 255) (length pages) i 0
      refl from
      ∙ erased-byte (round_up 4096 (length pages) - length pages) (i - length pages) (omega (arith, from, to, long))

  -- what stands behind the end of the last sector
  pub planned-old : (i : ℕ) → length sectors ≤ i → get_or (planned image old) i 0 ≡ get_or old i 0
  planned-old i from =
      let place : length sectors + (i - length sectors) ≡ i = omega (arith, from) in
      get_or-append_right sectors (drop (length sectors) old) (length sectors) i 0 refl from
      ∙ get_or-drop (length sectors) old (i - length sectors) 0
      ∙ ap (λ k. get_or old k 0) place

  pub length-planned : length sectors ≤ length old → length (planned image old) ≡ length old
  length-planned room =
      let whole = length-append sectors (drop (length sectors) old) in
      let tail = length-drop (length sectors) old in
      omega (arith, whole, tail, room)

  -- the image stands in front
  pub planned-same : (i : ℕ) → i < length image → get_or (planned image old) i 0 ≡ get_or image i 0
  planned-same i lt =
      let long = length-pages image in let least = pages-least (length image) in
      planned-image i (omega (arith, lt, long, least))

  -- no block ends in the filling
  no-end : (i : ℕ) → length image ≤ i → i < length sectors → get_or (planned image old) i 0 ≢ 0xab
  no-end i from to is =
      elim (cases_lt i (length pages)) [
        | inl lt ↦
            let e : get_or (planned image old) i 0 ≡ 0 = planned-image i lt ∙ get_or_past image i 0 from in
            absurd (omega (arith, e, is))
        | inr past ↦ let e = planned-erased i past to in absurd (omega (arith, e, is))
      ]

  pub low-inside : HasNoLowBlockPast (round_up 4096 (length image)) (planned image old)
      → HasNoLowBlockPast (length image) (planned image old)
  low-inside none x b low at =
      let long = length-written image in
      ends-before (planned image old) (length image) (round_up 4096 (length image)) x b
      (λ i from to. no-end i from (omega (arith, to, long))) (none x b low at) at

  -- an image of more than a sector leaves no block that begins in the first one and ends past the
  -- image's last one
  pub low-planned : 4096 < length image → HasNoLowBlockPast (round_up 4096 (length image)) (planned image old)
  low-planned more x b low at =
      let few = at.stands.few in
      let two : 8192 ≤ round_up 4096 (length image) = omega (arith, more) in
      omega (arith, low, few, two)
