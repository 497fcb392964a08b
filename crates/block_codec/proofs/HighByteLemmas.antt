-- A change of the fourth byte of a header moves no block and no item.
use Rattle.std.proofs.Common.{◌≡◌, ◌≢◌, ◌⊎◌, ℕ, zero, suc, ◌+◌, ◌-◌, ◌*◌, ◌/◌, ◌%◌, ◌^◌, ◌<◌, ◌≤◌, ◌&&◌, Bool, true, false, cond, eqb, ℤ, List, [], ◌∷◌, ◌++◌, length, map, take, drop, get_or, set, Option, Some, None, refl, sym, ap, subst, ◌∙◌, inl, inr, arith, length-take, length-drop}
use Rattle.std.proofs.lemmas.List.{get_or_past, take_all, get_or-drop, ext_get_or, length-set, get_or-set_same, get_or-set_other, set-append_left, set-append_right}
use Rattle.std.proofs.lemmas.Bool.{cases_eq, cases_lt, eq-eqb, ne_eqb}
use Rattle.std.proofs.lemmas.Int.{of_z-to_z}
use Rattle.std.proofs.Math.Dec.{leb, ltb}
use Rattle.std.proofs.lemmas.Bool.Decides.{nat_tests}
use Rattle.std.proofs.lemmas.Option.{none-some}
use Rattle.std.proofs.Math.Facts.{sfits_to_z}
use Rattle.std.specs.Prelude.{FitsSigned}
use Rattle.std.specs.Int.{cast_unsigned, cast_signed, w32}
use Rattle.std.specs.Option.{option_map}
use Rattle.block_codec.specs.Words.{bytes_of, word_of, words_of, AreWords}
use Rattle.block_codec.specs.Items.{type_byte, low_byte, high_byte, size_of, AreItemsAfter, AreItems, item_at, items_from, items_of}
use Rattle.block_codec.specs.Blocks.{BlockView, start_word, end_word, last_item, frame, block_size, IsBlock, BlockAt}
use Rattle.block_codec.specs.Reading.{block_at}
use Rattle.block_codec.specs.HighByte.{ChangesHighByte, changed_block, with_high}
use Rattle.block_codec.specs.declared.items.Item.{Item}
use Rattle.block_codec.proofs.WordLemmas.{AreBytes, word_of-lt, AreBytes-drop, length-words_of, get_or-words_of, bytes_of-words_of}
use Rattle.block_codec.proofs.FrameLemmas.{length-frame, word-start, word-item, word-last, word-end}
use Rattle.block_codec.proofs.BlockLemmas.{length-block}
use Rattle.block_codec.proofs.AtLemmas.{word_of-same, block_byte, AreBytes-block, block-word, word_of-first, BlockAt-room, block_at-stands, BlockAt-from_found, none_unless}

-- a header with the same low three bytes, of which the first is 0x42, has the same size
abbrev pub SameLow : ℕ → ℕ → Type 0
SameLow u h = (h % 256 ≡ 0x42) × (u % 16777216 ≡ h % 16777216)

same_type : (u h : ℕ) → SameLow u h → type_byte u ≡ type_byte h
same_type u h s = let e = s.1 in omega (arith, e)

size_at : (h : ℕ) → h % 256 ≡ 0x42 → size_of h ≡ h / 256 % 256
unfolding size_of
size_at h e = ap (λ t. cond (leb 128 t) (h / 256 % 65536) (h / 256 % 256)) e

same_size : (u h : ℕ) → SameLow u h → size_of u ≡ size_of h
same_size u h s =
    let e = s.0 in
    let f = s.1 in
    let size : u / 256 % 256 ≡ h / 256 % 256 = omega arith in
    size_at u (omega arith) ∙ size ∙ sym (size_at h e)

-- whole items stay whole items
pub AreItemsAfter-set : (m : ℕ) (ws : List ℕ) (k u : ℕ) → k < length ws → SameLow u (get_or ws k 0)
    → AreItemsAfter m ws → AreItemsAfter m (set ws k u)
AreItemsAfter-set m [] k u lt s items = absurd (omega arith)
AreItemsAfter-set zero (h ∷ ws) zero u lt s items = (
  subst (λ t. t ≢ 255) (sym (same_type u h s)) items.0,
  subst (λ n. 1 ≤ n) (sym (same_size u h s)) items.1,
  subst (λ n. AreItemsAfter (n - 1) ws) (sym (same_size u h s)) items.2,
)
AreItemsAfter-set zero (h ∷ ws) (suc k) u lt s items =
    (items.0, items.1, AreItemsAfter-set (size_of h - 1) ws k u (omega arith) s items.2)
AreItemsAfter-set (suc m) (w ∷ ws) zero u lt s items = items
AreItemsAfter-set (suc m) (w ∷ ws) (suc k) u lt s items = AreItemsAfter-set m ws k u (omega arith) s items

AreWords-set : (ws : List ℕ) (k u : ℕ) → u < 2 ^ 32 → AreWords ws → AreWords (set ws k u)
AreWords-set [] k u lt words = tt
AreWords-set (w ∷ ws) zero u lt words = (lt, words.1)
AreWords-set (w ∷ ws) (suc k) u lt words = (words.0, AreWords-set ws k u lt words.1)

-- a word among the items, and the link, in a block's words
pub frame-set_item : (items : List ℕ) (link : ℤ) (k u : ℕ) → k < length items
    → set (frame items link) (suc k) u ≡ frame (set items k u) link
unfolding frame
frame-set_item items link k u lt =
    ap (λ xs. start_word ∷ xs) (set-append_left items _ k u lt)
    ∙ ap (λ n. start_word ∷ (set items k u ++ (last_item n ∷ cast_unsigned w32 link ∷ end_word ∷ [])))
    (sym (length-set items k u))

frame-set_link : (items : List ℕ) (link : ℤ) (u : ℕ) → u < 2 ^ 32
    → set (frame items link) (length items + 2) u ≡ frame items (cast_signed w32 u)
unfolding frame
frame-set_link items link u lt =
    let e : length items + 2 ≡ suc (length items + 1) = omega arith in
    let f : length items + 1 - length items ≡ 1 = omega arith in
    let rest = last_item (length items) ∷ cast_unsigned w32 link ∷ end_word ∷ [] in
    ap (λ n. set (start_word ∷ (items ++ rest)) n u) e
    ∙ ap (λ xs. start_word ∷ xs)
    (set-append_right items rest (length items) (length items + 1) u refl (omega arith)
    ∙ ap (λ n. items ++ set rest n u) f
    ∙ ap (λ w. items ++ (last_item (length items) ∷ w ∷ end_word ∷ [])) (sym (of_z-to_z w32 u lt)))

word_of-low : (bs cs : List ℕ) → AreBytes bs → AreBytes cs → get_or bs 0 0 ≡ get_or cs 0 0
    → get_or bs 1 0 ≡ get_or cs 1 0 → get_or bs 2 0 ≡ get_or cs 2 0 →
    word_of bs % 16777216 ≡ word_of cs % 16777216
unfolding word_of
word_of-low bs cs h g a b c =
    let h0 = h 0 in let h1 = h 1 in let h2 = h 2 in let h3 = h 3 in let g3 = g 3 in omega arith

-- the words of a block's bytes of which one word was changed
module _ (p q items : List ℕ) (link : ℤ) (k u : ℕ) (block : IsBlock p items link) (lt : k < length items + 4)
    (long : length q ≡ length p)
    (low : word_of (drop (4 * k) q) ≡ u)
    (others : (j : ℕ) → j ≢ k → j < length items + 4 → word_of (drop (4 * j) q) ≡ word_of (drop (4 * j) p)) where
  changed_words : words_of q ≡ set (frame items link) k u
  changed_words =
      let size = length-block p items link block in
      let count = length-words_of q in
      let framed = length-frame items link in
      let set_long = length-set (frame items link) k u in
      ext_get_or 0 (words_of q) (set (frame items link) k u) (omega arith)
      (λ j below.
      let near : j < length items + 4 = omega arith in
      get_or-words_of q j (omega arith)
      ∙ elim (cases_eq j k) [
        | inl same ↦
            ap (λ n. word_of (drop (4 * n) q)) same ∙ low
            ∙ sym (ap (λ n. get_or (set (frame items link) k u) n 0) same
            ∙ get_or-set_same (frame items link) k u 0 (omega arith))
        | inr other ↦ others j other near ∙ block-word p items link j block near
            ∙ sym (get_or-set_other (frame items link) k j u 0 other)
      ])

  -- the changed bytes spell the changed words
  changed_spelling : AreBytes q → q ≡ bytes_of (set (frame items link) k u)
  changed_spelling bytes =
      let size = length-block p items link block in
      let count = length-words_of q in
      let all : take (4 * (length items + 4)) q ≡ q = take_all (4 * (length items + 4)) q (omega arith) in
      sym all ∙ sym (bytes_of-words_of (length items + 4) q (omega arith) (subst AreBytes (sym all) bytes))
      ∙ ap bytes_of (take_all (length items + 4) (words_of q) (omega arith) ∙ changed_words)

-- a block that stands in w, and the bytes at its place in v
module _ (w v : List ℕ) (a x : ℕ) (b : BlockView) (change : ChangesHighByte w v a) (at : BlockAt w x b) where
  old_bytes : List ℕ
  old_bytes = take (block_size b) (drop x w)

  new_bytes : List ℕ
  new_bytes = take (block_size b) (drop x v)

  old_byte : (i : ℕ) → i < block_size b → get_or old_bytes i 0 ≡ get_or w (x + i) 0
  unfolding old_bytes
  old_byte i lt = block_byte w x (block_size b) i lt

  new_byte : (i : ℕ) → i < block_size b → get_or new_bytes i 0 ≡ get_or v (x + i) 0
  unfolding new_bytes
  new_byte i lt = block_byte v x (block_size b) i lt

  old_block : IsBlock old_bytes b.items b.link
  unfolding old_bytes
  old_block = at.stands

  new_length : length new_bytes ≡ block_size b
  unfolding new_bytes
  new_length =
      let room = BlockAt-room w x b at in
      let long = change.long in
      let rest = length-drop x v in
      let front = length-take (block_size b) (drop x v) in
      omega arith

  -- a byte at the block's place is still a byte
  new_are_bytes : AreBytes new_bytes
  new_are_bytes i =
      elim (cases_lt i (block_size b)) [
        | inr past ↦ let e = get_or_past new_bytes i 0 (let long = new_length in omega (arith, long)) in
            omega (arith, e)
        | inl lt ↦
            let is = new_byte i lt in
            elim (cases_eq (x + i) (a + 3)) [
              | inl same ↦
                  let e : get_or v (x + i) 0 ≡ get_or v (a + 3) 0 = ap (λ k. get_or v k 0) same in
                  let small = change.new in
                  omega arith
              | inr other ↦
                  let e = change.others (x + i) other in
                  let f = old_byte i lt in
                  let small = AreBytes-block old_bytes b.items b.link old_block i in
                  omega arith
            ]
      ]

  -- a byte of a word at the block's place
  new_word_byte : (j i : ℕ) → 4 * j + i < block_size b
      → get_or (drop (4 * j) new_bytes) i 0 ≡ get_or v (x + (4 * j + i)) 0
  new_word_byte j i lt = get_or-drop (4 * j) new_bytes i 0 ∙ new_byte (4 * j + i) lt

  old_word_byte : (j i : ℕ) → 4 * j + i < block_size b
      → get_or (drop (4 * j) old_bytes) i 0 ≡ get_or w (x + (4 * j + i)) 0
  old_word_byte j i lt = get_or-drop (4 * j) old_bytes i 0 ∙ old_byte (4 * j + i) lt

  same_word_byte : (j i : ℕ) → 4 * j + i < block_size b → x + (4 * j + i) ≢ a + 3
      → get_or (drop (4 * j) new_bytes) i 0 ≡ get_or (drop (4 * j) old_bytes) i 0
  same_word_byte j i lt other = new_word_byte j i lt ∙ change.others (x + (4 * j + i)) other
      ∙ sym (old_word_byte j i lt)

  -- outside the block the change leaves it
  apart_stands : (a + 4 ≤ x) ⊎ (x + block_size b ≤ a) → BlockAt v x b
  unfolding new_bytes
  apart_stands apart =
      let same : old_bytes ≡ new_bytes =
      ext_get_or 0 old_bytes new_bytes (length-block old_bytes b.items b.link old_block ∙ sym new_length)
      (λ i lt.
      let long = length-block old_bytes b.items b.link old_block in
      let near : i < block_size b = omega arith in
      let other : x + i ≢ a + 3 = λ e. elim apart [ inl before ↦ omega arith | inr behind ↦ omega arith ] in
      old_byte i near ∙ sym (new_byte i near ∙ change.others (x + i) other)) in
      record { aligned = at.aligned; placed = at.placed; stands = subst (λ p. IsBlock p b.items b.link) same old_block }

  -- inside it, word k of the block is changed
  module _ (k : ℕ) (place : a ≡ x + 4 * k) (lt : k < length b.items + 4) where
    word_now : word_of (drop (4 * k) new_bytes) ≡ word_of (drop a v)
    word_now =
        word_of-same (drop (4 * k) new_bytes) (drop a v) (here 0 (omega arith)) (here 1 (omega arith))
        (here 2 (omega arith)) (here 3 (omega arith))
      where
        here : (i : ℕ) → i < 4 → get_or (drop (4 * k) new_bytes) i 0 ≡ get_or (drop a v) i 0
        here i few = new_word_byte k i (omega arith) ∙ ap (λ n. get_or v n 0) (omega arith) ∙ sym (get_or-drop a v i 0)

    other_words : (j : ℕ) → j ≢ k → j < length b.items + 4
        → word_of (drop (4 * j) new_bytes) ≡ word_of (drop (4 * j) old_bytes)
    other_words j other near =
        word_of-same (drop (4 * j) new_bytes) (drop (4 * j) old_bytes)
        (same_word_byte j 0 (omega arith) (λ e. other (omega arith)))
        (same_word_byte j 1 (omega arith) (λ e. other (omega arith)))
        (same_word_byte j 2 (omega arith) (λ e. other (omega arith)))
        (same_word_byte j 3 (omega arith) (λ e. other (omega arith)))

    spelled_now : new_bytes ≡ bytes_of (set (frame b.items b.link) k (word_of (drop a v)))
    spelled_now =
        changed_spelling old_bytes new_bytes b.items b.link k (word_of (drop a v)) old_block lt
        (new_length ∙ sym (length-block old_bytes b.items b.link old_block)) word_now other_words
        new_are_bytes

    old_word : word_of (drop (4 * k) old_bytes) ≡ get_or (frame b.items b.link) k 0
    old_word = block-word old_bytes b.items b.link k old_block lt

    -- the word was a header with type byte 0x42, and keeps its low three bytes
    low_now : SameLow (word_of (drop a v)) (get_or (frame b.items b.link) k 0)
    low_now =
        let old_are = AreBytes-drop (4 * k) old_bytes (AreBytes-block old_bytes b.items b.link old_block) in
        let new_are = AreBytes-drop (4 * k) new_bytes new_are_bytes in
        let first = word_of-first (drop (4 * k) old_bytes) old_are in
        let byte : get_or (drop (4 * k) old_bytes) 0 0 ≡ get_or w a 0 = old_word_byte k 0 (omega arith)
        ∙ ap (λ n. get_or w n 0) (omega arith) in
        let kind = change.kind in
        let low : word_of (drop (4 * k) new_bytes) % 16777216 ≡ word_of (drop (4 * k) old_bytes) % 16777216 =
        word_of-low (drop (4 * k) new_bytes) (drop (4 * k) old_bytes) new_are old_are
        (same_word_byte k 0 (omega arith) (λ e. omega arith))
        (same_word_byte k 1 (omega arith) (λ e. omega arith)) (same_word_byte k 2 (omega arith) (λ e. omega arith)) in (
          ap (λ n. n % 256) (sym old_word) ∙ first ∙ byte ∙ kind,
          ap (λ n. n % 16777216) (sym word_now) ∙ low
              ∙ ap (λ n. n % 16777216) old_word,
        )

    word_fits : word_of (drop a v) < 2 ^ 32
    word_fits = subst (λ n. n < 2 ^ 32) word_now
        (word_of-lt (drop (4 * k) new_bytes) (AreBytes-drop (4 * k) new_bytes new_are_bytes))

    -- a block with these parts, of the same length, stands in v
    stands_now : (items : List ℕ) (link : ℤ) → length items ≡ length b.items
        → set (frame b.items b.link) k (word_of (drop a v)) ≡ frame items link →
        AreItems items → AreWords items → FitsSigned w32 link
        → BlockAt v x (record { at = b.at; items = items; link = link })
    unfolding new_bytes
    stands_now items link long words whole are fits =
        let few = old_block.few in
        let block : IsBlock new_bytes items link =
        record {
          spelled = spelled_now
              ∙ ap bytes_of words;
          whole = whole;
          few = omega arith;
          words = are;
          fits = fits;
        } in
        record {
          aligned = at.aligned;
          placed = at.placed;
          stands = subst (λ n. IsBlock (take (4 * n + 16) (drop x v)) items link) (sym long) block;
        }

    item_stands : 1 ≤ k → k ≤ length b.items
        → BlockAt v x (record { at = b.at; items = set b.items (k - 1) (word_of (drop a v)); link = b.link })
    item_stands some most =
        let u = word_of (drop a v) in
        let e : k ≡ suc (k - 1) = omega arith in
        let low : SameLow u (get_or b.items (k - 1) 0) =
        subst (λ h. SameLow u h) (sym (word-item b.items b.link k (λ z. omega arith) most)) low_now in
        stands_now (set b.items (k - 1) u) b.link (length-set b.items (k - 1) u)
        (ap (λ n. set (frame b.items b.link) n u) e ∙ frame-set_item b.items b.link (k - 1) u (omega arith))
        (AreItemsAfter-set 0 b.items (k - 1) u (omega arith) low old_block.whole)
        (AreWords-set b.items (k - 1) u word_fits old_block.words) old_block.fits

    link_stands : k ≡ length b.items + 2
        → BlockAt v x (record { at = b.at; items = b.items; link = cast_signed w32 (word_of (drop a v)) })
    link_stands e =
        let u = word_of (drop a v) in
        stands_now b.items (cast_signed w32 u) refl
        (ap (λ n. set (frame b.items b.link) n u) e ∙ frame-set_link b.items b.link u word_fits) old_block.whole
        old_block.words
        (sfits_to_z {w = w32} (record { fits = word_fits }))

    -- the start word, the last item and the end word are no such headers
    never : (n : ℕ) → n ≡ get_or (frame b.items b.link) k 0 → n % 256 ≢ 0x42 → ⊥
    never n is other = other (ap (λ m. m % 256) is ∙ low_now.0)

    where_changed : ((1 ≤ k) × (k ≤ length b.items)) ⊎ (k ≡ length b.items + 2)
    where_changed =
        elim (cases_eq k 0) [
          | inl none ↦ absurd (never start_word (word-start b.items b.link k none) (λ e. omega arith))
          | inr some ↦ elim (cases_lt (length b.items) k) [
            | inr most ↦ inl (omega arith, most)
            | inl past ↦ elim (cases_eq k (length b.items + 2)) [
              | inl link ↦ inr link
              | inr other ↦ elim (cases_eq k (length b.items + 1)) [
                | inl last ↦ absurd (never (last_item (length b.items)) (word-last b.items b.link k last)
                    (λ e. omega arith))
                | inr end_ ↦ absurd (never end_word (word-end b.items b.link k (omega arith)) (λ e. omega arith))
              ]
            ]
          ]
        ]

-- a choice by two tests
pick_first : (m a h n : ℕ) (p q r : BlockView) → m ≤ a → a < h → cond (leb m a && ltb a h) p (cond (eqb a n) q r) ≡ p
pick_first m a h n p q r low high = grind (arith, nat_tests)

pick_second : (m a h n : ℕ) (p q r : BlockView) → h ≤ a → a ≡ n → cond (leb m a && ltb a h) p (cond (eqb a n) q r) ≡ q
pick_second m a h n p q r past is = grind (arith, nat_tests)

pick_last : (m a h n : ℕ) (p q r : BlockView) → (a < m) ⊎ (h ≤ a) → a ≢ n
    → cond (leb m a && ltb a h) p (cond (eqb a n) q r) ≡ r
pick_last m a h n p q r apart other = grind (arith, nat_tests)

-- what `changed_block` is, by where the word lies
pub changed_item : (a u : ℕ) (b : BlockView) → b.at + 4 ≤ a → a < b.at + 4 + 4 * length b.items →
    changed_block a u b ≡ record { at = b.at; items = set b.items ((a - (b.at + 4)) / 4) u; link = b.link }
changed_item a u b low high = pick_first _ a _ _ _ _ _ low high

pub changed_link : (a u : ℕ) (b : BlockView) → a ≡ b.at + 8 + 4 * length b.items
    → changed_block a u b ≡ record { at = b.at; items = b.items; link = cast_signed w32 u }
changed_link a u b is = pick_second _ a _ _ _ _ _ (omega arith) is

pub changed_apart : (a u : ℕ) (b : BlockView) → (a < b.at + 4) ⊎ (b.at + 4 + 4 * length b.items ≤ a)
    → a ≢ b.at + 8 + 4 * length b.items → changed_block a u b ≡ b
changed_apart a u b apart other = pick_last _ a _ _ _ _ b apart other

-- the block that stands in v where block b stands in w
pub changed-stands : (w v : List ℕ) (a x : ℕ) (b : BlockView) → ChangesHighByte w v a → BlockAt w x b
    → BlockAt v x (changed_block a (word_of (drop a v)) b)
changed-stands w v a x b change at =
    let u = word_of (drop a v) in
    let placed = at.placed in
    let whole = at.aligned in
    let even = change.aligned in
    elim (cases_lt a x) [
      | inl before ↦ subst (BlockAt v x) (sym (changed_apart a u b (inl (omega arith)) (λ e. omega arith)))
          (apart_stands w v a x b change at (inl (omega arith)))
      | inr after ↦ elim (cases_lt a (x + block_size b)) [
        | inr behind ↦ subst (BlockAt v x) (sym (changed_apart a u b (inr (omega arith)) (λ e. omega arith)))
            (apart_stands w v a x b change at (inr behind))
        | inl inside ↦
            let k = (a - x) / 4 in
            let place : a ≡ x + 4 * k = omega arith in
            let lt : k < length b.items + 4 = omega arith in
            elim (where_changed w v a x b change at k place lt) [
              | inl item ↦
                  let some = item.0 in
                  let most = item.1 in
                  let same : (a - (b.at + 4)) / 4 ≡ k - 1 = omega arith in
                  let e : changed_block a u b ≡ record { at = b.at; items = set b.items (k - 1) u; link = b.link } =
                  changed_item a u b (omega arith) (omega arith)
                  ∙ ap (λ n. record { at = b.at; items = set b.items n u; link = b.link }) same in
                  subst (BlockAt v x) (sym e) (item_stands w v a x b change at k place lt some most)
              | inr link ↦ subst (BlockAt v x) (sym (changed_link a u b (omega arith)))
                  (link_stands w v a x b change at k place lt link)
            ]
      ]
    ]

-- the change can be taken back
pub ChangesHighByte-back : (w v : List ℕ) (a : ℕ) → ChangesHighByte w v a → ChangesHighByte v w a
ChangesHighByte-back w v a change =
    let inside = change.inside in
    let long = change.long in
    record {
      aligned = change.aligned;
      inside = omega arith;
      long = sym long;
      kind = change.others a (λ e. omega arith) ∙ change.kind;
      old = change.new;
      new = change.old;
      others = λ i other. sym (change.others i other);
    }

-- the blocks of v are the changed blocks of w, at the same offsets
pub block_at-changed : (w v : List ℕ) (a x : ℕ) → ChangesHighByte w v a
    → block_at v x ≡ option_map (changed_block a (word_of (drop a v))) (block_at w x)
block_at-changed w v a x change = changed_found (block_at w x) refl
  where
    changed_found : (o : Option BlockView) → block_at w x ≡ o
        → block_at v x ≡ option_map (changed_block a (word_of (drop a v))) o
    changed_found (Some b) e = block_at-stands v x (changed_block a (word_of (drop a v)) b)
        (changed-stands w v a x b change (BlockAt-from_found w x b e))
    changed_found None e =
        none_unless (block_at v x)
        (λ c f.
        let back = changed-stands v w a x c (ChangesHighByte-back w v a change) (BlockAt-from_found v x c f) in
        none-some _ (sym e ∙ block_at-stands w x _ back))

-- what each of three choices has, the chosen one has
chosen_at : (s t : Bool) (p q r : BlockView) (x : ℕ) → p.at ≡ x → q.at ≡ x → r.at ≡ x → (cond s p (cond t q r)).at ≡ x
chosen_at true t p q r x a b c = a
chosen_at false true p q r x a b c = b
chosen_at false false p q r x a b c = c

chosen_length : (s t : Bool) (p q r : BlockView) (n : ℕ) → length p.items ≡ n → length q.items ≡ n → length r.items ≡ n
    → length (cond s p (cond t q r)).items ≡ n
chosen_length true t p q r n a b c = a
chosen_length false true p q r n a b c = b
chosen_length false false p q r n a b c = c

-- a changed block has the same place and size
pub changed_block-at : (a u : ℕ) (b : BlockView) → (changed_block a u b).at ≡ b.at
changed_block-at a u b = chosen_at (leb (b.at + 4) a && ltb a (b.at + 4 + 4 * length b.items))
    (eqb a (b.at + 8 + 4 * length b.items)) _ _ b b.at refl refl refl

pub changed_block-length : (a u : ℕ) (b : BlockView) → length (changed_block a u b).items ≡ length b.items
changed_block-length a u b =
    chosen_length (leb (b.at + 4) a && ltb a (b.at + 4 + 4 * length b.items))
    (eqb a (b.at + 8 + 4 * length b.items)) _ _ b (length b.items)
    (length-set b.items ((a - (b.at + 4)) / 4) u) refl refl

-- an item that stands elsewhere keeps its fourth byte
with_high-other : (place u : ℕ) (item : Item) → item.first ≢ place → with_high place u item ≡ item
with_high-other place u item other =
    ap (λ t. cond t (record {
      first = item.first;
      words = item.words;
      kind = item.kind;
      low = item.low;
      high = high_byte u;
    }) item) (ne_eqb item.first place other)

-- items that begin behind a place keep their fourth bytes
with_high-behind : (place u p m : ℕ) (ws : List ℕ) → place < p
    → map (with_high place u) (items_from p m ws) ≡ items_from p m ws
with_high-behind place u p m [] lt = refl
with_high-behind place u p zero (h ∷ ws) lt =
    ap (λ i. i ∷ map (with_high place u) (items_from (p + 1) (size_of h - 1) ws))
    (with_high-other place u (item_at p h) (λ e. omega (arith, e)))
    ∙ ap (λ is. item_at p h ∷ is) (with_high-behind place u (p + 1) (size_of h - 1) ws (omega arith))
with_high-behind place u p (suc m) (w ∷ ws) lt = with_high-behind place u (p + 1) m ws (omega arith)

same_item : (p w k l g x y z : ℕ) → w ≡ x → k ≡ y → l ≡ z
    → ◌≡◌ {A = Item} (record { first = p; words = w; kind = k; low = l; high = g })
    (record { first = p; words = x; kind = y; low = z; high = g })
same_item p w k l g x y z a b c = rw (a, b, c) refl

with_high-here : (place u h : ℕ) → SameLow u h → item_at place u ≡ with_high place u (item_at place h)
with_high-here place u h s =
    let low = s.1 in
    same_item place _ _ _ (high_byte u) _ _ _ (same_size u h s) (same_type u h s) (omega arith)
    ∙ sym (ap (λ t. cond t (record
    { first = place; words = size_of h; kind = type_byte h; low = low_byte h; high = high_byte u })
    (item_at place h)) (eq-eqb place place refl))

-- the items of words of which one was changed
items_from-set : (place m : ℕ) (ws : List ℕ) (k u : ℕ) → k < length ws → SameLow u (get_or ws k 0) →
    items_from place m (set ws k u) ≡ map (with_high (place + k) u) (items_from place m ws)
items_from-set place m [] k u lt s = absurd (omega arith)
items_from-set place zero (h ∷ ws) zero u lt s =
    let e : place ≡ place + 0 = omega arith in
    ap (λ i. i ∷ items_from (place + 1) (size_of u - 1) ws) (with_high-here place u h s)
    ∙ ap (λ is. with_high place u (item_at place h) ∷ is)
    (ap (λ n. items_from (place + 1) (n - 1) ws) (same_size u h s)
    ∙ sym (with_high-behind place u (place + 1) (size_of h - 1) ws (omega arith)))
    ∙ ap (λ q. with_high q u (item_at place h) ∷ map (with_high q u) (items_from (place + 1) (size_of h - 1) ws)) e
items_from-set place zero (h ∷ ws) (suc k) u lt s =
    let e : place + 1 + k ≡ place + suc k = omega arith in
    ap (λ is. item_at place h ∷ is)
    (items_from-set (place + 1) (size_of h - 1) ws k u (omega arith) s
    ∙ ap (λ q. map (with_high q u) (items_from (place + 1) (size_of h - 1) ws)) e)
    ∙ ap (λ i. i ∷ map (with_high (place + suc k) u) (items_from (place + 1) (size_of h - 1) ws))
    (sym (with_high-other (place + suc k) u (item_at place h) (λ f. omega (arith, f))))
items_from-set place (suc m) (w ∷ ws) zero u lt s =
    let e : place + 0 ≡ place = omega arith in
    sym (ap (λ q. map (with_high q u) (items_from (place + 1) m ws)) e
    ∙ with_high-behind place u (place + 1) m ws (omega arith))
items_from-set place (suc m) (w ∷ ws) (suc k) u lt s =
    let e : place + 1 + k ≡ place + suc k = omega arith in
    items_from-set (place + 1) m ws k u (omega arith) s ∙ ap (λ q. map (with_high q u) (items_from (place + 1) m ws)) e

-- the items of a block of which one word was changed: at most one fourth byte is another
pub items_of-set : (ws : List ℕ) (k u : ℕ) → k < length ws → SameLow u (get_or ws k 0)
    → items_of (set ws k u) ≡ map (with_high (1 + k) u) (items_of ws)
items_of-set ws k u lt s = items_from-set 1 0 ws k u lt s

-- a changed word among a block's items keeps its low three bytes
pub changed-low : (w v : List ℕ) (a x : ℕ) (b : BlockView) → ChangesHighByte w v a → BlockAt w x b → b.at + 4 ≤ a
    → a < b.at + 4 + 4 * length b.items →
    SameLow (word_of (drop a v)) (get_or b.items ((a - (b.at + 4)) / 4) 0)
changed-low w v a x b change at low high =
    let placed = at.placed in
    let even = at.aligned in
    let whole = change.aligned in
    let k = (a - x) / 4 in
    let j : k - 1 ≡ (a - (b.at + 4)) / 4 = omega arith in
    subst (λ n. SameLow (word_of (drop a v)) (get_or b.items n 0)) j
    (subst (λ h. SameLow (word_of (drop a v)) h) (sym (word-item b.items b.link k (λ z. omega arith) (omega arith)))
    (low_now w v a x b change at k (omega arith) (omega arith)))

-- the items of a changed block: those before, but for the fourth byte of the one whose header was
-- changed
pub changed-items : (w v : List ℕ) (a x : ℕ) (b : BlockView) → ChangesHighByte w v a → BlockAt w x b → b.at + 4 ≤ a
    → a < b.at + 4 + 4 * length b.items →
    items_of (changed_block a (word_of (drop a v)) b).items
    ≡ map (with_high ((a - b.at) / 4) (word_of (drop a v))) (items_of b.items)
changed-items w v a x b change at low high =
    let u = word_of (drop a v) in
    let k = (a - (b.at + 4)) / 4 in
    let place : 1 + k ≡ (a - b.at) / 4 = omega arith in
    ap (λ (c : BlockView). items_of c.items) (changed_item a u b low high)
    ∙ items_of-set b.items k u (omega arith) (changed-low w v a x b change at low high)
    ∙ ap (λ n. map (with_high n u) (items_of b.items)) place
