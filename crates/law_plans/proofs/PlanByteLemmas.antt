-- The steps of a plan leave the planned bytes.
use Rattle.std.proofs.Common.{◌≡◌, ℕ, ◌+◌, ◌-◌, ◌*◌, ◌/◌, ◌%◌, ◌<◌, ◌≤◌, min, List, ◌++◌, length, take, drop, get_or, sym, ap, ◌∙◌, subst, inl, inr, arith, length-drop, length-take}
use Rattle.std.proofs.lemmas.Bool.{cases_lt}
use Rattle.std.proofs.lemmas.List.{ext_get_or, get_or-drop, get_or-take, get_or_past}
use Rattle.pico_board.specs.declared.window.Window.{Window}
use Rattle.pico_board.specs.Content.{Content, window_bytes}
use Rattle.pico_board.specs.declared.Step.TheVariants.{Erase}
use Rattle.pico_board.specs.Steps.{after, after_all}
use Rattle.pico_board.proofs.ChangedLemmas.{changed-inside, changed-outside}
use Rattle.pico_board.proofs.ContentLemmas.{length-after}
use Rattle.pico_board.proofs.CuttingLemmas.{length-after_all}
use Rattle.pico_board.proofs.RangeLemmas.{get_or-window_bytes, length-window_bytes}
use Rattle.pico_board.proofs.StepLemmas.{after_all-append}
use Rattle.picoboot_cmd.specs.Pages.{programs}
use Rattle.picoboot_cmd.specs.Sectors.{erases}
use Rattle.image_pack.specs.Filling.{round_up}
use Rattle.law_plans.specs.Written.{plan_steps, planned}
use Rattle.law_plans.proofs.PlannedLemmas.{length-pages, length-planned, length-written, planned-erased, planned-image, planned-old}
use Rattle.law_plans.proofs.StepByteLemmas.{erased-inside, erased-outside, programmed-inside, programmed-outside}

-- the pages and sectors of an image of n bytes, by those of its first sector's f and its rest's r
first-pages : (n f i : ℕ) → f ≡ min 4096 n → i < 256 * ((f + 255) / 256) → i < round_up 256 n
first-pages n f i is lt = omega (arith, is, lt)

first-past : (n f i : ℕ) → f ≡ min 4096 n → 256 * ((f + 255) / 256) ≤ i → i < 4096 → round_up 256 n ≤ i
first-past n f i is past lt = omega (arith, is, past, lt)

few-pages : (n f : ℕ) → f ≡ min 4096 n → (f + 255) / 256 ≤ 16
few-pages n f is = omega (arith, is)

rest-pages : (n r i : ℕ) → r ≡ n - 4096 → 4096 ≤ i → i < 4096 + 256 * ((r + 255) / 256) → i < round_up 256 n
rest-pages n r i is from lt = omega (arith, is, from, lt)

rest-past : (n r i : ℕ) → r ≡ n - 4096 → 4096 ≤ i → 4096 + 256 * ((r + 255) / 256) ≤ i → round_up 256 n ≤ i
rest-past n r i is from past = omega (arith, is, from, past)

in-sectors : (n r i : ℕ) → 0 < n → r ≡ n - 4096 → i < 4096 + 4096 * ((r + 4095) / 4096) → i < round_up 4096 n
in-sectors n r i some is lt = omega (arith, some, is, lt)

past-sectors : (n r i : ℕ) → 0 < n → r ≡ n - 4096 → 4096 + 4096 * ((r + 4095) / 4096) ≤ i → round_up 4096 n ≤ i
past-sectors n r i some is past = omega (arith, some, is, past)

pages-in-sectors : (r : ℕ) → 256 * ((r + 255) / 256) ≤ 4096 * ((r + 4095) / 4096)
pages-in-sectors r = omega arith

sectors-fit : (n r len : ℕ) → 0 < n → n ≤ len → len % 4096 ≡ 0 → r ≡ n - 4096
    → 4096 + 4096 * ((r + 4095) / 4096) ≤ len
sectors-fit n r len some room whole is = omega (arith, some, room, whole, is)

module _ (c : Content) (w : Window) (s : ℕ) (image : List ℕ) (starts : w.start ≡ 4096 * s)
    (whole : w.len % 4096 ≡ 0) (inside : w.start + w.len ≤ length c.flash) (some : 0 < length image)
    (room : length image ≤ w.len) (small : (k : ℕ) → get_or image k 0 < 256) where
  abbrev first : List ℕ
  first = take 4096 image

  abbrev rest : List ℕ
  rest = drop 4096 image

  abbrev sectors : ℕ
  sectors = (length rest + 4095) / 4096

  abbrev front_pages : ℕ
  front_pages = (length first + 255) / 256

  abbrev other_pages : ℕ
  other_pages = (length rest + 255) / 256

  abbrev c1 : Content
  c1 = after c (Erase s)

  abbrev c2 : Content
  c2 = after_all c1 (erases (s + 1) sectors)

  abbrev c3 : Content
  c3 = after_all c2 (programs (16 * (s + 1)) rest)

  abbrev c4 : Content
  c4 = after_all c3 (programs (16 * s) first)

  abbrev old : List ℕ
  old = window_bytes c w

  all-steps : after_all c (plan_steps s image) ≡ c4
  all-steps =
      after_all-append c1 (erases (s + 1) sectors ++ programs (16 * (s + 1)) rest) (programs (16 * s) first)
      ∙ ap (λ d. after_all d (programs (16 * s) first))
      (after_all-append c1 (erases (s + 1) sectors) (programs (16 * (s + 1)) rest))

  left : length rest ≡ length image - 4096
  left = length-drop 4096 image

  full : length first ≡ min 4096 (length image)
  full = length-take 4096 image

  end_ : 4096 + 4096 * sectors ≤ w.len
  end_ = sectors-fit (length image) (length rest) w.len some room whole left

  long1 : length c1.flash ≡ length c.flash
  long1 = length-after c (Erase s)

  long2 : length c2.flash ≡ length c.flash
  long2 = length-after_all c1 (erases (s + 1) sectors) ∙ long1

  long3 : length c3.flash ≡ length c.flash
  long3 = length-after_all c2 (programs (16 * (s + 1)) rest) ∙ long2

  -- the first sector is erased until it is programmed
  first-blank : (j : ℕ) → 4096 * s ≤ j → j < 4096 * s + 4096 → get_or c3.flash j 0 ≡ 255
  first-blank j low high =
      programmed-outside other_pages (16 * (s + 1)) rest c2 j (inl (omega (arith, high)))
      ∙ erased-outside sectors (s + 1) c1 j (inl (omega (arith, high)))
      ∙ changed-inside (λ i b. 255) (4096 * s) 4096 c.flash j low high
      (omega (arith, high, starts, inside, end_))

  -- the sectors behind the first one are erased before they are programmed
  rest-blank : (j : ℕ) → 4096 * (s + 1) ≤ j → j < 4096 * (s + 1 + sectors) → get_or c2.flash j 0 ≡ 255
  rest-blank j low high =
      erased-inside sectors (s + 1) c1 j low high (omega (arith, starts, inside, end_, long1))

  abbrev Is : ℕ → Type 0
  Is i = get_or c4.flash (w.start + i) 0 ≡ get_or (planned image old) i 0

  in-first : (i : ℕ) → i < 4096 → Is i
  in-first i low =
      elim (cases_lt i (256 * front_pages)) [
        | inl here ↦
            let few = few-pages (length image) (length first) full in
            let place : w.start + i - 256 * (16 * s) ≡ i = omega (arith, starts) in
            let long = length-pages image in
            let before = first-pages (length image) (length first) i full here in
            programmed-inside front_pages (16 * s) first c3 (w.start + i) (omega (arith, starts))
            (omega (arith, starts, here)) (omega (arith, starts, few, inside, end_, long3))
            (λ j from to. first-blank j (omega (arith, from)) (omega (arith, to, few)))
            (λ k. take-small k)
            ∙ ap (λ x. get_or first x 0) place
            ∙ get_or-take 4096 image i 0 low
            ∙ sym (planned-image image old i (omega (arith, before, long)))
        | inr past ↦
            let long = length-pages image in
            let length_of = length-written image in
            let behind = first-past (length image) (length first) i full past low in
            let before = in-sectors (length image) (length rest) i some left (omega (arith, low)) in
            programmed-outside front_pages (16 * s) first c3 (w.start + i) (inr (omega (arith, starts, past)))
            ∙ first-blank (w.start + i) (omega (arith, starts)) (omega (arith, starts, low))
            ∙ sym (planned-erased image old i (omega (arith, behind, long)) (omega (arith, before, length_of)))
      ]
    where
      take-small : (k : ℕ) → get_or first k 0 < 256
      take-small k = elim (cases_lt k 4096) [
        | inl lt ↦ subst (λ b. b < 256) (sym (get_or-take 4096 image k 0 lt)) (small k)
        | inr past ↦ subst (λ b. b < 256)
            (sym (get_or_past first k 0 (omega (arith, past, full)))) (omega arith)
      ]

  -- behind the pages of the rest
  far-byte : (i : ℕ) → i < w.len → 4096 ≤ i → 4096 + 256 * other_pages ≤ i
      → get_or c2.flash (w.start + i) 0 ≡ get_or (planned image old) i 0
  far-byte i lt from past =
      elim (cases_lt i (4096 + 4096 * sectors)) [
        | inl near ↦
            let long = length-pages image in
            let length_of = length-written image in
            let behind = rest-past (length image) (length rest) i left from past in
            let before = in-sectors (length image) (length rest) i some left near in
            rest-blank (w.start + i) (omega (arith, starts, from)) (omega (arith, starts, near))
            ∙ sym (planned-erased image old i (omega (arith, behind, long)) (omega (arith, before, length_of)))
        | inr far ↦
            let length_of = length-written image in
            let end = past-sectors (length image) (length rest) i some left far in
            erased-outside sectors (s + 1) c1 (w.start + i) (inr (omega (arith, starts, far)))
            ∙ changed-outside (λ x b. 255) (4096 * s) 4096 c.flash (w.start + i) (inr (omega (arith, starts, from)))
            ∙ sym (get_or-window_bytes c w i lt)
            ∙ sym (planned-old image old i (omega (arith, end, length_of)))
      ]

  -- behind the first sector
  rest-byte : (i : ℕ) → i < w.len → 4096 ≤ i
      → get_or c3.flash (w.start + i) 0 ≡ get_or (planned image old) i 0
  rest-byte i lt from =
      elim (cases_lt i (4096 + 256 * other_pages)) [
        | inl here ↦
            let long = length-pages image in
            let place : w.start + i - 256 * (16 * (s + 1)) ≡ i - 4096 = omega (arith, starts) in
            let back : 4096 + (i - 4096) ≡ i = omega (arith, from) in
            let fits = pages-in-sectors (length rest) in
            let before = rest-pages (length image) (length rest) i left from here in
            programmed-inside other_pages (16 * (s + 1)) rest c2 (w.start + i) (omega (arith, starts, from))
            (omega (arith, starts, here)) (omega (arith, starts, fits, inside, end_, long2))
            (λ j low high. rest-blank j (omega (arith, low)) (omega (arith, high, fits)))
            (λ k. subst (λ b. b < 256) (sym (get_or-drop 4096 image k 0)) (small (4096 + k)))
            ∙ ap (λ x. get_or rest x 0) place
            ∙ get_or-drop 4096 image (i - 4096) 0
            ∙ ap (λ x. get_or image x 0) back
            ∙ sym (planned-image image old i (omega (arith, before, long)))
        | inr past ↦
            programmed-outside other_pages (16 * (s + 1)) rest c2 (w.start + i) (inr (omega (arith, starts, past)))
            ∙ far-byte i lt from past
      ]

  in-rest : (i : ℕ) → i < w.len → 4096 ≤ i → Is i
  in-rest i lt from =
      let few = few-pages (length image) (length first) full in
      programmed-outside front_pages (16 * s) first c3 (w.start + i) (inr (omega (arith, starts, few, from)))
      ∙ rest-byte i lt from

  byte : (i : ℕ) → i < w.len → Is i
  byte i lt = elim (cases_lt i 4096) [ inl low ↦ in-first i low | inr from ↦ in-rest i lt from ]

  pub plan-writes : window_bytes (after_all c (plan_steps s image)) w ≡ planned image (window_bytes c w)
  plan-writes =
      let d = after_all c (plan_steps s image) in
      let flash = length-after_all c (plan_steps s image) in
      let new = length-window_bytes d w (omega (arith, inside, flash)) in
      let was = length-window_bytes c w inside in
      let length_of = length-written image in
      let fits : length (planned image old) ≡ length old =
      length-planned image old
      (let r = sectors-reach (length image) (length rest) some left in omega (arith, length_of, was, end_, r)) in
      ext_get_or 0 (window_bytes d w) (planned image old) (new ∙ sym (fits ∙ was))
      (λ k lt. let here : k < w.len = omega (arith, lt, new) in
      get_or-window_bytes d w k here ∙ ap (λ x. get_or x.flash (w.start + k) 0) all-steps ∙ byte k here)
    where
      sectors-reach : (n r : ℕ) → 0 < n → r ≡ n - 4096 → round_up 4096 n ≤ 4096 + 4096 * ((r + 4095) / 4096)
      sectors-reach n r least is = omega (arith, least, is)
