-- What erases and programs in a row leave at each byte of a flash.
use Rattle.std.proofs.Common.{◌≡◌, ◌⊎◌, ℕ, zero, suc, ◌+◌, ◌-◌, ◌*◌, ◌%◌, ◌<◌, ◌≤◌, List, ◌++◌, length, take, drop, replicate, get_or, bit_and, refl, sym, ap, ◌∙◌, subst, inl, inr, arith}
use Rattle.std.proofs.lemmas.Bool.{cases_lt}
use Rattle.std.proofs.lemmas.Grind.{numeral_and}
use Rattle.std.proofs.lemmas.List.{get_or-append_right, get_or-drop, get_or-replicate, get_or-take, get_or_append_left, get_or_past, length-replicate}
use Rattle.pico_board.specs.Content.{Content}
use Rattle.pico_board.specs.declared.Step.TheVariants.{Erase, Program}
use Rattle.pico_board.specs.Steps.{after, after_all}
use Rattle.pico_board.proofs.ChangedLemmas.{changed-inside, changed-outside}
use Rattle.pico_board.proofs.ContentLemmas.{length-after}
use Rattle.picoboot_cmd.specs.Pages.{padded_page, programs_of}
use Rattle.picoboot_cmd.specs.Sectors.{erases}

next : (size s n j : ℕ) → (j < size * s) ⊎ (size * (s + suc n) ≤ j)
    → (j < size * (s + 1)) ⊎ (size * (s + 1 + n) ≤ j)
next size s n j (inl low) = inl (let e : size * (s + 1) ≡ size * s + size = grind arith in omega (arith, low, e))
next size s n j (inr high) = inr (let e : s + 1 + n ≡ s + suc n = omega arith in subst (λ k. size * k ≤ j) (sym e) high)

-- erases of n sectors from s on
pub erased-outside : (n s : ℕ) (c : Content) (j : ℕ) → (j < 4096 * s) ⊎ (4096 * (s + n) ≤ j)
    → get_or (after_all c (erases s n)).flash j 0 ≡ get_or c.flash j 0
erased-outside zero s c j out = refl
erased-outside (suc n) s c j out =
    erased-outside n (s + 1) (after c (Erase s)) j (next 4096 s n j out)
    ∙ changed-outside (λ i b. 255) (4096 * s) 4096 c.flash j (first out)
  where
    first : (j < 4096 * s) ⊎ (4096 * (s + suc n) ≤ j) → (j < 4096 * s) ⊎ (4096 * s + 4096 ≤ j)
    first (inl low) = inl low
    first (inr high) = inr (omega (arith, high))

pub erased-inside : (n s : ℕ) (c : Content) (j : ℕ) → 4096 * s ≤ j → j < 4096 * (s + n)
    → 4096 * (s + n) ≤ length c.flash → get_or (after_all c (erases s n)).flash j 0 ≡ 255
erased-inside zero s c j low high room = absurd (omega (arith, low, high))
erased-inside (suc n) s c j low high room =
    elim (cases_lt j (4096 * (s + 1))) [
      | inl here ↦ erased-outside n (s + 1) (after c (Erase s)) j (inl here)
          ∙ changed-inside (λ i b. 255) (4096 * s) 4096 c.flash j low (omega (arith, here)) (omega (arith, high, room))
      | inr later ↦ let long = length-after c (Erase s) in
          erased-inside n (s + 1) (after c (Erase s)) j later (omega (arith, high)) (omega (arith, room, long))
    ]

and-erased : (d : ℕ) → d < 256 → bit_and 255 d ≡ d
and-erased d lt = let low : bit_and 255 d ≡ d % 256 = numeral_and 254 d refl in omega (arith, low, lt)

zeros : (m i : ℕ) → get_or (replicate {A = ℕ} m 0) i 0 ≡ 0
zeros m i = elim (cases_lt i m) [
  | inl lt ↦ get_or-replicate m i 0 0 (let long = length-replicate {A = ℕ} m 0 in omega (arith, lt, long))
  | inr past ↦ get_or_past (replicate m 0) i 0 (let long = length-replicate {A = ℕ} m 0 in omega (arith, past, long))
]

-- bytes 0 behind a list are read as what lies past its end
pub zeros-behind : (xs : List ℕ) (m i : ℕ) → get_or (xs ++ replicate m 0) i 0 ≡ get_or xs i 0
zeros-behind xs m i = elim (cases_lt i (length xs)) [
  | inl lt ↦ get_or_append_left xs (replicate m 0) 0 i lt
  | inr past ↦ get_or-append_right xs (replicate m 0) (length xs) i 0 refl past ∙ zeros m (i - length xs)
      ∙ sym (get_or_past xs i 0 past)
]

filled-byte : (bytes : List ℕ) (i : ℕ) → i < 256 → get_or (padded_page (take 256 bytes)) i 0 ≡ get_or bytes i 0
unfolding padded_page
filled-byte bytes i lt =
    zeros-behind (take 256 bytes) (256 - length (take 256 bytes)) i ∙ get_or-take 256 bytes i 0 lt

-- programs of n pages from page p on
pub programmed-outside : (n p : ℕ) (bytes : List ℕ) (c : Content) (j : ℕ) → (j < 256 * p) ⊎ (256 * (p + n) ≤ j)
    → get_or (after_all c (programs_of n p bytes)).flash j 0 ≡ get_or c.flash j 0
programmed-outside zero p bytes c j out = refl
programmed-outside (suc n) p bytes c j out =
    programmed-outside n (p + 1) (drop 256 bytes) (after c (Program p (padded_page (take 256 bytes)))) j
    (next 256 p n j out)
    ∙ changed-outside (λ i b. bit_and b (get_or (padded_page (take 256 bytes)) i 0)) (256 * p) 256 c.flash j (first out)
  where
    first : (j < 256 * p) ⊎ (256 * (p + suc n) ≤ j) → (j < 256 * p) ⊎ (256 * p + 256 ≤ j)
    first (inl low) = inl low
    first (inr high) = inr (omega (arith, high))

pub programmed-inside : (n p : ℕ) (bytes : List ℕ) (c : Content) (j : ℕ) → 256 * p ≤ j → j < 256 * (p + n)
    → 256 * (p + n) ≤ length c.flash
    → ((i : ℕ) → 256 * p ≤ i → i < 256 * (p + n) → get_or c.flash i 0 ≡ 255)
    → ((k : ℕ) → get_or bytes k 0 < 256)
    → get_or (after_all c (programs_of n p bytes)).flash j 0 ≡ get_or bytes (j - 256 * p) 0
programmed-inside zero p bytes c j low high room blank small = absurd (omega (arith, low, high))
programmed-inside (suc n) p bytes c j low high room blank small =
    elim (cases_lt j (256 * (p + 1))) [
      | inl here ↦
          let at : j - 256 * p < 256 = omega (arith, low, here) in
          programmed-outside n (p + 1) (drop 256 bytes) d j (inl here)
          ∙ changed-inside f (256 * p) 256 c.flash j low (omega (arith, here)) (omega (arith, high, room))
          ∙ ap (λ b. bit_and b (get_or (padded_page (take 256 bytes)) (j - 256 * p) 0)) (blank j low high)
          ∙ ap (bit_and 255) (filled-byte bytes (j - 256 * p) at)
          ∙ and-erased (get_or bytes (j - 256 * p) 0) (small (j - 256 * p))
      | inr later ↦
          let long = length-after c (Program p (padded_page (take 256 bytes))) in
          let place : 256 + (j - 256 * (p + 1)) ≡ j - 256 * p = omega (arith, later) in
          programmed-inside n (p + 1) (drop 256 bytes) d j later (omega (arith, high)) (omega (arith, room, long))
          (λ i from to. changed-outside f (256 * p) 256 c.flash i (inr (omega (arith, from)))
          ∙ blank i (omega (arith, from)) (omega (arith, to)))
          (λ k. subst (λ b. b < 256) (sym (get_or-drop 256 bytes k 0)) (small (256 + k)))
          ∙ get_or-drop 256 bytes (j - 256 * (p + 1)) 0
          ∙ ap (λ k. get_or bytes k 0) place
    ]
  where
    f : ℕ → ℕ → ℕ
    f i b = bit_and b (get_or (padded_page (take 256 bytes)) i 0)

    d : Content
    d = after c (Program p (padded_page (take 256 bytes)))
