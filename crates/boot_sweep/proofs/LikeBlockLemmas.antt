-- Blocks with the same headers suit a processor alike, so loops of such blocks have their definitions at one place.
use Rattle.std.proofs.Common.{◌≡◌, ◌≢◌, ◌⊎◌, inl, inr, ℕ, zero, suc, ◌+◌, ◌-◌, ◌*◌, Bool, true, false, List, [], ◌∷◌, ◌++◌, length, Option, Some, None, refl, sym, ap, ◌∙◌, subst, arith}
use Rattle.std.specs.Prelude.{ℤ, pos, negsuc, ◌==◌, ◌&&◌, nat_le, if◌then◌else◌, find, option_map, slice_get}
use Rattle.std.specs.List.{AllByRecursion}
use Rattle.std.specs.Option.{option_map_or, option_or}
use Rattle.std.proofs.lemmas.Bool.{cases_eq}
use Rattle.std.proofs.lemmas.Slice.Eq.{bytes_eq-Decides}
use Rattle.std.specs.Str.{bytes_eq}
use Rattle.pico_board.specs.declared.boot.Cpu.{Cpu}
use Rattle.block_codec.specs.declared.kinds.TheConstants.{IMAGE_TYPE}
use Rattle.block_codec.specs.Blocks.{BlockView, block_size}
use Rattle.block_codec.specs.Items.{headers_from, headers_of, high_byte, item_at, items_from, low_byte, size_of, type_byte}
use Rattle.block_codec.specs.Kinds.{first_spelling, is_of_kind}
use Rattle.block_codec.specs.Pages.{HasHeadersOf}
use Rattle.image_def.specs.declared.images.TheConstants.{MOST_BLOCK_BYTES}
use Rattle.image_def.specs.Flags.{flags_of}
use Rattle.image_def.specs.Suits.{does_suit, image_flags_of, suits_flags}
use Rattle.image_check.specs.Valid.{IsLastWith}

-- two numbers with a sign are the same or not
decide-number : (x y : ℤ) → (x ≡ y) ⊎ (x ≢ y)
decide-number (pos m) (pos n) = elim (cases_eq m n) [ inl e ↦ inl (ap pos e) | inr ne ↦ inr (λ e. ne (same m n e)) ]
  where
    same : (m n : ℕ) → pos m ≡ pos n → m ≡ n
    same m n e = cc
decide-number (negsuc m) (negsuc n) =
    elim (cases_eq m n) [ inl e ↦ inl (ap negsuc e) | inr ne ↦ inr (λ e. ne (same m n e)) ]
  where
    same : (m n : ℕ) → negsuc m ≡ negsuc n → m ≡ n
    same m n e = cc
decide-number (pos m) (negsuc n) = inr (λ e. cc)
decide-number (negsuc m) (pos n) = inr (λ e. cc)

pub decide-words : (xs ys : List ℕ) → (xs ≡ ys) ⊎ (xs ≢ ys)
decide-words xs ys = go (bytes_eq xs ys) refl
  where
    go : (b : Bool) → bytes_eq xs ys ≡ b → (xs ≡ ys) ⊎ (xs ≢ ys)
    go true e = inl ((bytes_eq-Decides xs ys).0 e)
    go false e = inr (λ same. let t : bytes_eq xs ys ≡ true = (bytes_eq-Decides xs ys).1 same in
        let f : true ≡ false = sym t ∙ e in cc)

-- a block has the place, the size, the headers and the link of another, or not
pub decide-headers : (b a : BlockView) → HasHeadersOf b a ⊎ (HasHeadersOf b a → ⊥)
decide-headers b a = elim (cases_eq a.at b.at) [
  | inr ne ↦ inr (λ h. ne h.place)
  | inl place ↦ elim (cases_eq (length a.items) (length b.items)) [
    | inr ne ↦ inr (λ h. ne h.count)
    | inl count ↦ elim (decide-words (headers_of a.items) (headers_of b.items)) [
      | inr ne ↦ inr (λ h. ne h.headers)
      | inl headers ↦ elim (decide-number a.link b.link) [
        | inr ne ↦ inr (λ h. ne h.link)
        | inl link ↦ inl (record { place = place; count = count; headers = headers; link = link })
      ]
    ]
  ]
]

-- the flags of the first IMAGE_TYPE item, by the headers alone
abbrev flags_by : List ℕ → Option ℕ
flags_by [] = None
flags_by (h ∷ hs) =
    if first_spelling (type_byte h) == IMAGE_TYPE then Some (low_byte h + 256 * high_byte h) else flags_by hs

flags-from : (place k : ℕ) (ws : List ℕ)
    → option_map flags_of (find (is_of_kind IMAGE_TYPE) (items_from place k ws)) ≡ flags_by (headers_from k ws)
flags-from place k [] = refl
flags-from place (suc k) (w ∷ ws) = flags-from (place + 1) k ws
flags-from place zero (h ∷ ws) =
    go (flags-from (place + 1) (size_of h - 1) ws) (first_spelling (type_byte h) == IMAGE_TYPE)
  where
    go : option_map flags_of (find (is_of_kind IMAGE_TYPE) (items_from (place + 1) (size_of h - 1) ws))
        ≡ flags_by (headers_from (size_of h - 1) ws)
        → (b : Bool)
        → option_map flags_of (if b then Some (item_at place h)
        else find (is_of_kind IMAGE_TYPE) (items_from (place + 1) (size_of h - 1) ws))
        ≡ (if b then Some (low_byte h + 256 * high_byte h) else flags_by (headers_from (size_of h - 1) ws))
    go rest true = refl
    go rest false = rest

-- blocks with the same headers suit alike
pub same-suit : (cpu : Cpu) (b a : BlockView) → HasHeadersOf b a → does_suit cpu a ≡ does_suit cpu b
same-suit cpu b a like =
    let flags : image_flags_of a ≡ image_flags_of b =
    flags-from 1 0 a.items ∙ (ap flags_by like.headers ∙ sym (flags-from 1 0 b.items)) in
    ap (λ n. nat_le (4 * n + 16) MOST_BLOCK_BYTES && option_map_or (suits_flags cpu) (image_flags_of a) false)
    like.count
    ∙ ap (λ o. nat_le (block_size b) MOST_BLOCK_BYTES && option_map_or (suits_flags cpu) o false) flags

-- the last element that passes, found from the front
module _ {X : Type 0} (p : X → Bool) where
  abbrev last_of : List X → Option X
  last_of [] = None
  last_of (x ∷ xs) = option_or (last_of xs) (if p x then Some x else None)

  last-none : (xs : List X) → AllByRecursion (λ y. p y ≡ false) xs → last_of xs ≡ None
  last-none [] all = refl
  last-none (x ∷ xs) all =
      ap (λ o. option_or o (if p x then Some x else None)) (last-none xs all.1)
      ∙ ap (λ b. if b then Some x else None) all.0

  last-split : (before behind : List X) (x : X) → p x ≡ true → AllByRecursion (λ y. p y ≡ false) behind
      → last_of (before ++ x ∷ behind) ≡ Some x
  last-split [] behind x here later =
      ap (λ o. option_or o (if p x then Some x else None)) (last-none behind later)
      ∙ ap (λ b. if b then Some x else None) here
  last-split (y ∷ before) behind x here later =
      ap (λ o. option_or o (if p y then Some y else None)) (last-split before behind x here later)

  last-with : (xs : List X) (x : X) → IsLastWith p xs x → last_of xs ≡ Some x
  last-with xs x last = ap last_of last.whole ∙ last-split last.before last.behind x last.here last.later

  -- the elements of two lists, pair by pair
  abbrev AreBoth : (X → X → Type 0) → List X → List X → Type 0
  AreBoth R [] [] = Unit {0}
  AreBoth R (x ∷ xs) [] = ⊥
  AreBoth R [] (y ∷ ys) = ⊥
  AreBoth R (x ∷ xs) (y ∷ ys) = R x y × AreBoth R xs ys

  pub both-from : (R : X → X → Type 0) (xs ys : List X) → length ys ≡ length xs
      → ((k : ℕ) (x y : X) → slice_get xs k ≡ Some x → slice_get ys k ≡ Some y → R x y) → AreBoth R xs ys
  both-from R [] [] long each = tt
  both-from R (x ∷ xs) [] long each = absurd (omega (arith, long))
  both-from R [] (y ∷ ys) long each = absurd (omega (arith, long))
  both-from R (x ∷ xs) (y ∷ ys) long each =
      (each 0 x y refl refl, both-from R xs ys (omega (arith, long)) (λ k u v here there. each (suc k) u v here there))

  abbrev BothFound : (X → X → Type 0) → Option X → Option X → Type 0
  BothFound R None None = Unit {0}
  BothFound R (Some x) None = ⊥
  BothFound R None (Some y) = ⊥
  BothFound R (Some x) (Some y) = R x y

  both-or : (R : X → X → Type 0) (o q u v : Option X) → BothFound R o q → BothFound R u v
      → BothFound R (option_or o u) (option_or q v)
  both-or R None None u v first second = second
  both-or R (Some x) None u v first second = absurd first
  both-or R None (Some y) u v first second = absurd first
  both-or R (Some x) (Some y) u v first second = first

  both-one : (R : X → X → Type 0) (x y : X) → p y ≡ p x → R x y
      → BothFound R (if p x then Some x else None) (if p y then Some y else None)
  both-one R x y same is =
      subst (λ b. BothFound R (if p x then Some x else None) (if b then Some y else None)) (sym same) (go (p x))
    where
      go : (b : Bool) → BothFound R (if b then Some x else None) (if b then Some y else None)
      go true = is
      go false = tt

  last-both : (R : X → X → Type 0) → ((x y : X) → R x y → p y ≡ p x) → (xs ys : List X) → AreBoth R xs ys
      → BothFound R (last_of xs) (last_of ys)
  last-both R alike [] [] both = tt
  last-both R alike (x ∷ xs) [] both = absurd both
  last-both R alike [] (y ∷ ys) both = absurd both
  last-both R alike (x ∷ xs) (y ∷ ys) both =
      both-or R (last_of xs) (last_of ys) (if p x then Some x else None) (if p y then Some y else None)
      (last-both R alike xs ys both.1) (both-one R x y (alike x y both.0) both.0)

  -- so the last elements that pass are a pair of them
  pub last-pair : (R : X → X → Type 0) → ((x y : X) → R x y → p y ≡ p x) → (xs ys : List X) (x y : X)
      → AreBoth R xs ys → IsLastWith p xs x → IsLastWith p ys y → R x y
  last-pair R alike xs ys x y both one two =
      subst (λ o. BothFound R (Some x) o) (last-with ys y two)
      (subst (λ o. BothFound R o (last_of ys)) (last-with xs x one) (last-both R alike xs ys both))
