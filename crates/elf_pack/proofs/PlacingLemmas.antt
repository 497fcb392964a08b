-- Segments that are placed one after the other give each address the byte of its segment.
use Rattle.std.proofs.Common.{◌≡◌, ◌⊎◌, ℕ, ◌+◌, ◌-◌, ◌<◌, ◌≤◌, ◌&&◌, nat_le, nat_lt, true, false, List, [], ◌∷◌, ◌++◌, length, get_or, take, drop, replicate, refl, sym, ap, ◌∙◌, inl, inr, arith, Some}
use Rattle.std.specs.Prelude.{unwrap_or}
use Rattle.std.proofs.lemmas.Bool.{cases_lt}
use Rattle.std.proofs.lemmas.Bool.Decides.{nat_tests}
use Rattle.std.proofs.lemmas.List.{ext_get_or, get_or-replicate, length-replicate, places, reverse-append, take_more}
use Rattle.std.proofs.lemmas.List.Edits.{get_or-between, length-between}
use Rattle.std.proofs.lemmas.List.FromFn.{get_or-map-range_with_len, length-map-range_with_len}
use Rattle.pico_board.specs.Content.{flash_base}
use Rattle.elf_pack.specs.declared.segment.Segment.{Segment}
use Rattle.elf_pack.specs.Binaries.{FitsIn, byte_in, flash_bytes}
use Rattle.elf_pack.specs.Segments.{byte_of, segment_has_address, segment_bytes}

abbrev byte_or_erased : List ℕ → List Segment → ℕ → ℕ
byte_or_erased elf xs k = unwrap_or (byte_in elf xs (flash_base + k)) 255

pub length-flash : (elf : List ℕ) (xs : List Segment) (n : ℕ) → length (flash_bytes elf xs n) ≡ n
unfolding flash_bytes
length-flash elf xs n = length-map-range_with_len (byte_or_erased elf xs) 0 n

pub flash-at : (elf : List ℕ) (xs : List Segment) (n k : ℕ) → k < n
    → get_or (flash_bytes elf xs n) k 0 ≡ unwrap_or (byte_in elf xs (flash_base + k)) 255
unfolding flash_bytes
flash-at elf xs n k lt = get_or-map-range_with_len (byte_or_erased elf xs) 0 n k k 0 lt (omega arith)

-- the byte at an address of the last segment, and at another one
pub byte-here : (elf : List ℕ) (xs : List Segment) (s : Segment) (a : ℕ) → segment_has_address a s ≡ true
    → byte_in elf (xs ++ s ∷ []) a ≡ Some (byte_of elf a s)
byte-here elf xs s a is = rw (reverse-append xs (s ∷ [])) (rw is refl)

pub byte-elsewhere : (elf : List ℕ) (xs : List Segment) (s : Segment) (a : ℕ) → segment_has_address a s ≡ false
    → byte_in elf (xs ++ s ∷ []) a ≡ byte_in elf xs a
byte-elsewhere elf xs s a is = rw (reverse-append xs (s ∷ [])) (rw is refl)

-- the elements of a list in which a part is replaced
module _ (old part : List ℕ) (a k : ℕ) (room : a + length part ≤ length old) where
  abbrev replaced : List ℕ
  replaced = take a old ++ (part ++ drop (a + length part) old)

  length-replaced : length replaced ≡ length old
  length-replaced = grind (arith, places, room)

  replaced-below : k < a → get_or replaced k 0 ≡ get_or old k 0
  replaced-below lt = grind (arith, places, room, lt)

  replaced-here : a ≤ k → k < a + length part → get_or replaced k 0 ≡ get_or part (k - a) 0
  replaced-here le lt = grind (arith, places, room, le, lt)

  replaced-above : a + length part ≤ k → get_or replaced k 0 ≡ get_or old k 0
  replaced-above le = grind (arith, places, room, le)

module _ (elf : List ℕ) (xs : List Segment) (n : ℕ) (s : Segment) (placed : FitsIn (length elf) n s) where
  abbrev old : List ℕ
  old = flash_bytes elf xs n

  abbrev from : ℕ
  from = s.address - flash_base

  abbrev part : List ℕ
  part = segment_bytes elf s

  abbrev given : ℕ → ℕ
  given k = unwrap_or (byte_in elf (xs ++ s ∷ []) (flash_base + k)) 255

  long : length part ≡ s.size
  long =
      length-between elf s.offset (s.offset + s.size) placed.0
      ∙ (let e : s.offset + s.size - s.offset ≡ s.size = omega arith in e)

  room : from + length part ≤ length old
  room = omega (arith, long, length-flash elf xs n, placed.1, placed.2)

  outside : (k : ℕ) → (k < from) ⊎ (from + s.size ≤ k) → segment_has_address (flash_base + k) s ≡ false
  outside k out = not-held s.address s.size (flash_base + k) (elim out [
    | inl lt ↦ inl (omega (arith, lt, placed.1))
    | inr le ↦ inr (omega (arith, le, placed.1))
  ])
    where
      not-held : (a m x : ℕ) → (x < a) ⊎ (a + m ≤ x) → (nat_le a x && nat_lt x (a + m)) ≡ false
      not-held a m x out = grind (arith, nat_tests, out)

  inside : (k : ℕ) → from ≤ k → k < from + s.size → segment_has_address (flash_base + k) s ≡ true
  inside k le lt = held s.address s.size (flash_base + k) (omega (arith, le, placed.1)) (omega (arith, lt, placed.1))
    where
      held : (a m x : ℕ) → a ≤ x → x < a + m → (nat_le a x && nat_lt x (a + m)) ≡ true
      held a m x low high = grind (arith, nat_tests, low, high)

  same : (k : ℕ) → k < n → (k < from) ⊎ (from + s.size ≤ k) → get_or old k 0 ≡ given k
  same k lt out =
      flash-at elf xs n k lt
      ∙ ap (λ o. unwrap_or o 255) (sym (byte-elsewhere elf xs s (flash_base + k) (outside k out)))

  own : (k : ℕ) → from ≤ k → k < from + s.size → get_or part (k - from) 0 ≡ given k
  own k le lt =
      get_or-between elf s.offset (s.offset + s.size) (k - from) 0 (omega (arith, le, lt))
      ∙ ap (λ j. get_or elf j 0)
      (let e : s.offset + (k - from) ≡ s.offset + (flash_base + k - s.address) = omega (arith, le, placed.1) in e)
      ∙ sym (ap (λ o. unwrap_or o 255) (byte-here elf xs s (flash_base + k) (inside k le lt)))

  each : (k : ℕ) → k < n → get_or (replaced old part from k room) k 0 ≡ given k
  each k lt = elim (cases_lt k from) [
    | inl below ↦ replaced-below old part from k room below ∙ same k lt (inl below)
    | inr le ↦ elim (cases_lt k (from + length part)) [
      | inl here ↦ replaced-here old part from k room le here ∙ own k le (omega (arith, here, long))
      | inr above ↦ replaced-above old part from k room above ∙ same k lt (inr (omega (arith, above, long)))
    ]
  ]

  long-new : length (replaced old part from 0 room) ≡ n
  long-new = length-replaced old part from 0 room ∙ length-flash elf xs n

  pub placed-more : take from old ++ (part ++ drop (from + s.size) old) ≡ flash_bytes elf (xs ++ s ∷ []) n
  placed-more =
      ap (λ m. take from old ++ (part ++ drop (from + m) old)) (sym long)
      ∙ ext_get_or 0 (replaced old part from 0 room) (flash_bytes elf (xs ++ s ∷ []) n)
      (long-new ∙ sym (length-flash elf (xs ++ s ∷ []) n))
      (λ k lt. each k (omega (arith, lt, long-new))
      ∙ sym (flash-at elf (xs ++ s ∷ []) n k (omega (arith, lt, long-new))))

-- one more of the segments that a loop places
pub put-step : (elf : List ℕ) (xs : List Segment) (i n : ℕ) (s d : Segment) (old new : List ℕ) → i < length xs
    → s ≡ get_or xs i d → length old ≡ n → length new ≡ n → FitsIn (length elf) n s
    → old ≡ flash_bytes elf (take i xs) (length old)
    → new ≡ take (s.address - flash_base) old
    ++ (segment_bytes elf s ++ drop (s.address - flash_base + s.size) old)
    → new ≡ flash_bytes elf (take (i + 1) xs) (length new)
put-step elf xs i n s d old new lt here long_old long_new placed before is =
    is
    ∙ ap (λ ys. take (s.address - flash_base) ys
    ++ (segment_bytes elf s ++ drop (s.address - flash_base + s.size) ys))
    (before ∙ ap (flash_bytes elf (take i xs)) long_old)
    ∙ placed-more elf (take i xs) n s placed
    ∙ ap (λ ys. flash_bytes elf ys n) (sym (take_more xs i d lt ∙ ap (λ x. take i xs ++ x ∷ []) (sym here)))
    ∙ ap (flash_bytes elf (take (i + 1) xs)) (sym long_new)

-- erased bytes have no segment
pub none-placed : (elf : List ℕ) (n : ℕ) → replicate n 255 ≡ flash_bytes elf [] n
none-placed elf n =
    ext_get_or 0 (replicate n 255) (flash_bytes elf [] n) (length-replicate {A = ℕ} n 255 ∙ sym (length-flash elf [] n))
    (λ k lt. let inside : k < n = omega (arith, lt, length-replicate {A = ℕ} n 255) in
    get_or-replicate n k 255 0 inside ∙ sym (flash-at elf [] n k inside))
