-- What a whole download of an image leaves of each byte of the window of a gated target.
use Rattle.std.proofs.Common.{◌≡◌, ◌≢◌, ◌⊎◌, inl, inr, ℕ, zero, suc, ◌+◌, ◌*◌, ◌/◌, ◌%◌, ◌<◌, ◌≤◌, Bool, true, false, ◌==◌, nat_lt, List, [], ◌++◌, Option, Some, None, refl, sym, ap, ◌∙◌, arith}
use Rattle.std.specs.Prelude.{if◌then◌else◌, bit_and, slice_index}
use Rattle.std.specs.List.{flat_map, range_with_len}
use Rattle.std.specs.Option.{option_or}
use Rattle.std.proofs.lemmas.Bool.Decides.{nat_tests}
use Rattle.std.proofs.lemmas.Bool.{cases_eq, cases_lt, ne_eqb}
use Rattle.pico_board.specs.declared.Step.{Step}
use Rattle.pico_board.specs.declared.Window.{Window}
use Rattle.uf2_place.specs.declared.block.Uf2.{Uf2}
use Rattle.uf2_place.specs.Files.{file_block, page_of}
use Rattle.uf2_place.specs.Placement.{final_steps, first_in, gated_steps, in_turn, is_whole_download, last_for, later_steps, page_in, program_of, programs_in}
use Rattle.law_downloads.proofs.ByteLemmas.{byte_after, byte_after-append, erased}
use Rattle.law_downloads.proofs.TurnLemmas.{first-is, from, k, no-turn, one-turn, page-is, place, rest, rest-none, turned, turned-not, turns}

-- programs of the pages of a sector, from page number a of it on
abbrev programs_above : ℕ → ℕ → ℕ → (ℕ → Option (List ℕ)) → List Step
programs_above s a n f = flat_map (λ i. program_of (16 * s + i) (f i)) (range_with_len a n)

abbrev applied : ℕ → Option (List ℕ) → ℕ → ℕ
applied k None b = b
applied k (Some d) b = bit_and b (slice_index d (k % 256))

one-program : (k p : ℕ) (o : Option (List ℕ)) (steps : List Step) (b : ℕ)
    → byte_after k (program_of p o ++ steps) b
    ≡ byte_after k steps (if k / 256 == p then applied k o b else b)
one-program k p (Some d) steps b = refl
one-program k p None steps b = go (k / 256 == p)
  where
    go : (t : Bool) → byte_after k steps b ≡ byte_after k steps (if t then b else b)
    go true = refl
    go false = refl

programs-outside : (k s a n : ℕ) (f : ℕ → Option (List ℕ)) (b : ℕ)
    → (k / 256 < 16 * s + a) ⊎ (16 * s + a + n ≤ k / 256) → byte_after k (programs_above s a n f) b ≡ b
programs-outside k s a zero f b out = refl
programs-outside k s a (suc n) f b out =
    one-program k (16 * s + a) (f a) (programs_above s (a + 1) n f) b
    ∙ ap (λ t. byte_after k (programs_above s (a + 1) n f) (if t then applied k (f a) b else b))
    (ne_eqb (k / 256) (16 * s + a) (other out))
    ∙ programs-outside k s (a + 1) n f b (next out)
  where
    other : (k / 256 < 16 * s + a) ⊎ (16 * s + a + suc n ≤ k / 256) → k / 256 ≢ 16 * s + a
    other (inl low) e = omega (arith, low, e)
    other (inr high) e = omega (arith, high, e)

    next : (k / 256 < 16 * s + a) ⊎ (16 * s + a + suc n ≤ k / 256)
        → (k / 256 < 16 * s + (a + 1)) ⊎ (16 * s + (a + 1) + n ≤ k / 256)
    next (inl low) = inl (omega (arith, low))
    next (inr high) = inr (omega (arith, high))

programs-inside : (k s a n q : ℕ) (f : ℕ → Option (List ℕ)) (b : ℕ) → k / 256 ≡ 16 * s + q → a ≤ q → q < a + n
    → byte_after k (programs_above s a n f) b ≡ applied k (f q) b
programs-inside k s a zero q f b at low high = absurd (omega (arith, low, high))
programs-inside k s a (suc n) q f b at low high = elim (cases_eq a q) [
  | inl here ↦
      one-program k (16 * s + a) (f a) (programs_above s (a + 1) n f) b
      ∙ ap (λ t. byte_after k (programs_above s (a + 1) n f) (if t then applied k (f a) b else b))
      (hit at here)
      ∙ programs-outside k s (a + 1) n f (applied k (f a) b) (inl (omega (arith, at, here)))
      ∙ ap (λ i. applied k (f i) b) here
  | inr away ↦
      one-program k (16 * s + a) (f a) (programs_above s (a + 1) n f) b
      ∙ ap (λ t. byte_after k (programs_above s (a + 1) n f) (if t then applied k (f a) b else b))
      (ne_eqb (k / 256) (16 * s + a) (λ e. away (omega (arith, at, e))))
      ∙ programs-inside k s (a + 1) n q f b at (omega (arith, low, away)) (omega (arith, high))
]
  where
    hit : k / 256 ≡ 16 * s + q → a ≡ q → (k / 256 == 16 * s + a) ≡ true
    hit at here = grind (arith, nat_tests, at, here)

first-programs : (s : ℕ) (f : ℕ → Option (List ℕ)) → programs_in s f ≡ programs_above s 0 16 f
unfolding programs_in
first-programs s f = refl

test-is : (x y : ℕ) → x ≡ y → (x == y) ≡ true
test-is x y e = grind (arith, nat_tests, e)

pub reached : (x y : ℕ) → x < y → nat_lt x y ≡ true
reached x y lt = grind (arith, nat_tests, lt)

pub not-yet : (x y : ℕ) → y ≤ x → nat_lt x y ≡ false
not-yet x y le = grind (arith, nat_tests, le)

module _ (w : Window) (s : ℕ) (starts : w.start ≡ 4096 * s) (image : List ℕ) (family : ℕ) where
  abbrev blocks : ℕ → ℕ → List Uf2
  blocks i n = from w s starts image family i n

  -- the bytes of the last block for a page of the window
  last-none : (x i n : ℕ) → (x < i) ⊎ (i + n ≤ x) → last_for w (16 * s + x) (blocks i n) ≡ None
  last-none x i zero out = refl
  last-none x i (suc n) out =
      ap (λ o. option_or o (if page_in w (file_block image family i) == 16 * s + x then Some (page_of image i)
      else None)) (last-none x (i + 1) n (next out))
      ∙ ap (λ t. if t then Some (page_of image i) else None)
      (ne_eqb (page_in w (file_block image family i)) (16 * s + x) (other out))
    where
      at : page_in w (file_block image family i) ≡ 16 * s + i
      at = page-is w s starts image family i

      other : (x < i) ⊎ (i + suc n ≤ x) → page_in w (file_block image family i) ≢ 16 * s + x
      other (inl low) e = omega (arith, at, low, e)
      other (inr high) e = omega (arith, at, high, e)

      next : (x < i) ⊎ (i + suc n ≤ x) → (x < i + 1) ⊎ (i + 1 + n ≤ x)
      next (inl low) = inl (omega (arith, low))
      next (inr high) = inr (omega (arith, high))

  last-some : (x i n : ℕ) → i ≤ x → x < i + n
      → last_for w (16 * s + x) (blocks i n) ≡ Some (page_of image x)
  last-some x i zero low high = absurd (omega (arith, low, high))
  last-some x i (suc n) low high = elim (cases_eq i x) [
    | inl here ↦
        ap (λ o. option_or o (if page_in w (file_block image family i) == 16 * s + x then Some (page_of image i)
        else None)) (last-none x (i + 1) n (inl (omega (arith, here))))
        ∙ ap (λ t. if t then Some (page_of image i) else None) (hit here)
        ∙ ap (λ y. Some (page_of image y)) here
    | inr away ↦
        ap (λ o. option_or o (if page_in w (file_block image family i) == 16 * s + x then Some (page_of image i)
        else None)) (last-some x (i + 1) n (omega (arith, low, away)) (omega (arith, high)))
  ]
    where
      hit : i ≡ x → (page_in w (file_block image family i) == 16 * s + x) ≡ true
      hit here = grind (arith, nat_tests, page-is w s starts image family i, here)

  module _ (j : ℕ) where
    -- byte j's sector and page in the window
    abbrev t : ℕ
    t = j / 4096

    abbrev q : ℕ
    q = j / 256

    abbrev wrote : ℕ → ℕ
    wrote x = bit_and x (slice_index (page_of image q) (j % 256))

    abbrev turn : ℕ → ℕ → ℕ
    turn i b = turned w s starts image family j i b

    -- what stands there: the page's byte, or 0xff in a sector that has begun, or what stood there
    abbrev pub left : ℕ → ℕ → ℕ
    left n b = if nat_lt (16 * t) n then (if nat_lt q n then wrote 255 else 255) else b

    turn-not : (i b : ℕ) → i ≢ 16 * t → i ≢ q → turn i b ≡ b
    turn-not i b = turned-not w s starts image family j i b

    turn-page : (i b : ℕ) → i ≢ 16 * t → i ≡ q → turn i b ≡ wrote b
    turn-page i b not here =
        ap (λ x. if x then bit_and (if i == 16 * t then 255 else b) (slice_index (page_of image i) (j % 256))
        else (if i == 16 * t then 255 else b)) (test-is i q here)
        ∙ ap (λ x. bit_and (if x then 255 else b) (slice_index (page_of image i) (j % 256)))
        (ne_eqb i (16 * t) not)
        ∙ ap (λ n. bit_and b (slice_index (page_of image n) (j % 256))) here

    turn-both : (i b : ℕ) → i ≡ 16 * t → i ≡ q → turn i b ≡ wrote 255
    turn-both i b first here =
        ap (λ x. if x then bit_and (if i == 16 * t then 255 else b) (slice_index (page_of image i) (j % 256))
        else (if i == 16 * t then 255 else b)) (test-is i q here)
        ∙ ap (λ x. bit_and (if x then 255 else b) (slice_index (page_of image i) (j % 256)))
        (test-is i (16 * t) first)
        ∙ ap (λ n. bit_and 255 (slice_index (page_of image n) (j % 256))) here

    turn-first : (i b : ℕ) → i ≡ 16 * t → i ≢ q → turn i b ≡ 255
    turn-first i b first not =
        ap (λ x. if x then bit_and (if i == 16 * t then 255 else b) (slice_index (page_of image i) (j % 256))
        else (if i == 16 * t then 255 else b)) (ne_eqb i q not)
        ∙ ap (λ x. if x then 255 else b) (test-is i (16 * t) first)

    -- behind the byte's page nothing changes
    past : (i n b : ℕ) → q < i → rest turn i n b ≡ b
    past i zero b high = refl
    past i (suc n) b high =
        ap (rest turn (i + 1) n) (turn-not i b (λ e. omega (arith, high, e)) (λ e. omega (arith, high, e)))
        ∙ past (i + 1) n b (omega (arith, high))

    -- between the first block of the byte's sector and that of its page
    between : (i n b : ℕ) → 16 * t < i → i ≤ q → rest turn i n b ≡ (if nat_lt q (i + n) then wrote b else b)
    between i zero b low high =
        sym (ap (λ x. if x then wrote b else b) (not-yet q (i + 0) (omega (arith, high))))
    between i (suc n) b low high = elim (cases_eq i q) [
      | inl here ↦
          ap (rest turn (i + 1) n) (turn-page i b (λ e. omega (arith, low, e)) here)
          ∙ past (i + 1) n (wrote b) (omega (arith, here))
          ∙ sym (ap (λ x. if x then wrote b else b) (reached q (i + suc n) (omega (arith, here))))
      | inr away ↦
          let next : i + 1 + n ≡ i + suc n = omega arith in
          ap (rest turn (i + 1) n) (turn-not i b (λ e. omega (arith, low, e)) away)
          ∙ between (i + 1) n b (omega (arith, low)) (omega (arith, high, away))
          ∙ ap (λ x. if nat_lt q x then wrote b else b) next
    ]

    -- before the first block of the byte's sector
    before : (i n b : ℕ) → i ≤ 16 * t → rest turn i n b ≡ left (i + n) b
    before i zero b low =
        sym (ap (λ x. if x then (if nat_lt q (i + 0) then wrote 255 else 255) else b)
        (not-yet (16 * t) (i + 0) (omega (arith, low))))
    before i (suc n) b low = elim (cases_eq i (16 * t)) [
      | inr away ↦
          let next : i + 1 + n ≡ i + suc n = omega arith in
          ap (rest turn (i + 1) n) (turn-not i b away (λ e. omega (arith, low, away, e)))
          ∙ before (i + 1) n b (omega (arith, low, away))
          ∙ ap (λ x. left x b) next
      | inl first ↦ elim (cases_eq i q) [
        | inl here ↦
            ap (rest turn (i + 1) n) (turn-both i b first here)
            ∙ past (i + 1) n (wrote 255) (omega (arith, here))
            ∙ sym (ap (λ x. if x then (if nat_lt q (i + suc n) then wrote 255 else 255) else b)
            (reached (16 * t) (i + suc n) (omega (arith, first)))
            ∙ ap (λ x. if x then wrote 255 else 255) (reached q (i + suc n) (omega (arith, here))))
        | inr away ↦
            let next : i + 1 + n ≡ i + suc n = omega arith in
            ap (rest turn (i + 1) n) (turn-first i b first away)
            ∙ between (i + 1) n 255 (omega (arith, first)) (omega (arith, first, away))
            ∙ ap (λ x. if nat_lt q x then wrote 255 else 255) next
            ∙ sym (ap (λ x. if x then (if nat_lt q (i + suc n) then wrote 255 else 255) else b)
            (reached (16 * t) (i + suc n) (omega (arith, first))))
      ]
    ]

    abbrev at : ℕ
    at = k w s starts image family j

    abbrev last_of : ℕ → ℕ → Option (List ℕ)
    last_of n i = last_for w (16 * first_in w + i) (blocks 0 n)

    -- the first sector's programs
    finals : (n b : ℕ) → j < 4096
        → byte_after at (final_steps w (blocks 0 n)) b ≡ (if nat_lt q n then wrote b else b)
    finals n b low =
        ap (λ steps. byte_after at steps b) (first-programs (first_in w) (last_of n))
        ∙ programs-inside at (first_in w) 0 16 q (last_of n) b
        (omega (arith, starts, first-is w s starts image family)) (omega arith) (omega (arith, low))
        ∙ elim (cases_lt q n) [
          | inl within ↦
              ap (λ x. applied at (last_for w (16 * x + q) (blocks 0 n)) b) (first-is w s starts image family)
              ∙ ap (λ o. applied at o b) (last-some q 0 n (omega arith) (omega (arith, within)))
              ∙ ap (λ x. bit_and b (slice_index (page_of image q) x)) (place w s starts image family j)
              ∙ sym (ap (λ x. if x then wrote b else b) (reached q n within))
          | inr out ↦
              ap (λ x. applied at (last_for w (16 * x + q) (blocks 0 n)) b) (first-is w s starts image family)
              ∙ ap (λ o. applied at o b) (last-none q 0 n (inr (omega (arith, out))))
              ∙ sym (ap (λ x. if x then wrote b else b) (not-yet q n out))
        ]

    no-finals : (n b : ℕ) → 4096 ≤ j → byte_after at (final_steps w (blocks 0 n)) b ≡ b
    no-finals n b high =
        ap (λ steps. byte_after at steps b) (first-programs (first_in w) (last_of n))
        ∙ programs-outside at (first_in w) 0 16 (last_of n) b
        (inr (omega (arith, starts, high, first-is w s starts image family)))

    -- all steps
    pub gated-left : (n b : ℕ) → 0 < n → is_whole_download (blocks 0 n) ≡ true
        → byte_after at (gated_steps w (blocks 0 n)) b ≡ left n b
    gated-left n b some whole =
        ap (λ x. byte_after at (in_turn (later_steps w) [] (blocks 0 n)
        ++ (if x then final_steps w (blocks 0 n) else [])) (erased at (first_in w) b)) whole
        ∙ byte_after-append at (in_turn (later_steps w) [] (blocks 0 n)) (final_steps w (blocks 0 n))
        (erased at (first_in w) b)
        ∙ elim (cases_lt j 4096) [
          | inl low ↦
              ap (λ x. byte_after at (final_steps w (blocks 0 n))
              (byte_after at (in_turn (later_steps w) [] (blocks 0 n)) x)) (erased-here low)
              ∙ ap (byte_after at (final_steps w (blocks 0 n)))
              (turns w s starts image family j (λ i x. x)
              (λ i x. no-turn w s starts image family j i x low) 0 n 255
              ∙ rest-none (λ i x. x) (λ i x. refl) 0 n 255)
              ∙ finals n 255 low
              ∙ sym (ap (λ x. if x then (if nat_lt q n then wrote 255 else 255) else b)
              (reached (16 * t) n (omega (arith, low, some))))
          | inr high ↦
              ap (λ x. byte_after at (final_steps w (blocks 0 n))
              (byte_after at (in_turn (later_steps w) [] (blocks 0 n)) x)) (erased-there high)
              ∙ ap (byte_after at (final_steps w (blocks 0 n)))
              (turns w s starts image family j turn
              (λ i x. one-turn w s starts image family j i x high) 0 n b
              ∙ before 0 n b (omega arith) ∙ ap (λ x. left x b) (all_of n))
              ∙ no-finals n (left n b) high
        ]
      where
        all_of : (n : ℕ) → 0 + n ≡ n
        all_of n = omega arith

        erased-here : j < 4096 → erased at (first_in w) b ≡ 255
        erased-here low =
            ap (λ x. if x then 255 else b)
            (test-is (at / 4096) (first_in w) (omega (arith, starts, low, first-is w s starts image family)))

        erased-there : 4096 ≤ j → erased at (first_in w) b ≡ b
        erased-there high =
            ap (λ x. if x then 255 else b)
            (ne_eqb (at / 4096) (first_in w)
            (λ e. omega (arith, starts, high, e, first-is w s starts image family)))
