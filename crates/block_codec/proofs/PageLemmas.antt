-- A block in flash that is programmed in part has the headers and the link of the finished one.
use Rattle.std.proofs.Common.{◌≡◌, ◌≢◌, ◌⊎◌, ℕ, zero, suc, ◌+◌, ◌-◌, ◌*◌, ◌/◌, ◌%◌, ◌^◌, ◌<◌, ◌≤◌, List, [], ◌∷◌, length, take, drop, get_or, refl, sym, ap, subst, ◌∙◌, inl, inr, arith, length-take, length-drop}
use Rattle.std.proofs.lemmas.List.{get_or_past, take_all, length-take-le, get_or-take, get_or-drop}
use Rattle.std.proofs.lemmas.Bool.{cases_lt}
use Rattle.std.proofs.lemmas.Int.{to_z-of_z}
use Rattle.std.proofs.Math.Facts.{Fits-of_z}
use Rattle.std.proofs.lemmas.List.Elements.{All-get_or}
use Rattle.std.specs.List.{All}
use Rattle.std.specs.Int.{cast_unsigned, cast_signed, w32}
use Rattle.block_codec.specs.Words.{bytes_of, word_of, words_of}
use Rattle.block_codec.specs.Items.{type_byte, size_of, AreItemsAfter, headers_from, headers_of}
use Rattle.block_codec.specs.Blocks.{BlockView, start_word, end_word, last_item, frame, block_words, block_size, IsBlock, BlockAt}
use Rattle.block_codec.specs.Reading.{IsFramed}
use Rattle.block_codec.specs.Pages.{IsBlankWindowPage, IsSameWindowPage, IsPartlyWritten, HasHeadersOf}
use Rattle.block_codec.proofs.WordLemmas.{AreBytes, AreBytes-take, AreBytes-drop, length-words_of, get_or-words_of, bytes_of-words_of, AreWords-words_of}
use Rattle.block_codec.proofs.FrameLemmas.{frame-from_framed, word-start, word-item, word-last, word-link, word-end}
use Rattle.block_codec.proofs.ExactLemmas.{AreWords-take, AreWords-drop}
use Rattle.block_codec.proofs.AtLemmas.{word_of-same, block_byte, BlockAt-room, BlockAt-word}

-- each word of the first list is that of the second, or erased
abbrev Fills : List ℕ → List ℕ → Type 0
Fills [] [] = Unit {0}
Fills (x ∷ xs) [] = ⊥
Fills [] (y ∷ ys) = ⊥
Fills (x ∷ xs) (y ∷ ys) = ((y ≡ x) ⊎ (x ≡ 0xffffffff)) × Fills xs ys

Fills-from_get : (xs ys : List ℕ) → length ys ≡ length xs
    → ((j : ℕ) → j < length xs → (get_or ys j 0 ≡ get_or xs j 0) ⊎ (get_or xs j 0 ≡ 0xffffffff)) → Fills xs ys
Fills-from_get [] [] e h = tt
Fills-from_get (x ∷ xs) [] e h = absurd (omega arith)
Fills-from_get [] (y ∷ ys) e h = absurd (omega arith)
Fills-from_get (x ∷ xs) (y ∷ ys) e h =
    (h 0 (omega arith), Fills-from_get xs ys (omega arith) (λ j lt. h (suc j) (omega arith)))

header_stays : (h g : ℕ) → type_byte h ≢ 255 → (g ≡ h) ⊎ (h ≡ 0xffffffff) → g ≡ h
header_stays h g kind (inl same) = same
header_stays h g kind (inr blank) = absurd (kind (omega arith))

-- whole items of which words are erased are whole items with the words filled in, under the same
-- headers
filled_items : (k : ℕ) (xs ys : List ℕ) → Fills xs ys → AreItemsAfter k xs
    → AreItemsAfter k ys × (headers_from k ys ≡ headers_from k xs)
filled_items zero [] [] f items = (tt, refl)
filled_items (suc k) [] [] f items = absurd items
filled_items k (x ∷ xs) [] f items = absurd f
filled_items k [] (y ∷ ys) f items = absurd f
filled_items zero (h ∷ xs) (g ∷ ys) f items =
    let same = header_stays h g items.0 f.0 in
    let (whole, heads) = filled_items (size_of h - 1) xs ys f.1 items.2 in (
      (
        subst (λ z. type_byte z ≢ 255) (sym same) items.0,
        subst (λ z. 1 ≤ size_of z) (sym same) items.1,
        subst
            (λ z. AreItemsAfter (size_of z - 1) ys) (sym same) whole,
      ),
      ap (λ z. z ∷ headers_from (size_of z - 1) ys) same ∙ ap (λ zs. h ∷ zs) heads,
    )
filled_items (suc k) (x ∷ xs) (y ∷ ys) f items = filled_items k xs ys f.1 items

word_of-blank : (bs : List ℕ) → get_or bs 0 0 ≡ 255 → get_or bs 1 0 ≡ 255 → get_or bs 2 0 ≡ 255 → get_or bs 3 0 ≡ 255
    → word_of bs ≡ 0xffffffff
unfolding word_of
word_of-blank bs a b c d = omega arith

-- flash that is programmed in part, and the finished one
module _ (w v : List ℕ) (written : IsPartlyWritten w v) where
  -- a byte of a word, by the word's page
  blank_byte : (y q i : ℕ) → y % 4 ≡ 0 → q ≡ y / 256 → i < 4 → IsBlankWindowPage q v → get_or (drop y v) i 0 ≡ 255
  blank_byte y q i even is few blank =
      get_or-drop y v i 0 ∙ ap (λ n. get_or v n 0) (omega arith) ∙ blank (y % 256 + i) (omega arith)

  same_byte : (y q i : ℕ) → y % 4 ≡ 0 → q ≡ y / 256 → i < 4 → IsSameWindowPage q w v
      → get_or (drop y w) i 0 ≡ get_or (drop y v) i 0
  same_byte y q i even is few same =
      get_or-drop y w i 0 ∙ ap (λ n. get_or w n 0) (omega arith) ∙ sym (same (y % 256 + i) (omega arith))
      ∙ ap (λ n. get_or v n 0) (omega arith) ∙ sym (get_or-drop y v i 0)

  blank_word : (y q : ℕ) → y % 4 ≡ 0 → q ≡ y / 256 → IsBlankWindowPage q v → word_of (drop y v) ≡ 0xffffffff
  blank_word y q even is blank =
      word_of-blank (drop y v) (blank_byte y q 0 even is (omega arith) blank)
      (blank_byte y q 1 even is (omega arith) blank) (blank_byte y q 2 even is (omega arith) blank)
      (blank_byte y q 3 even is (omega arith) blank)

  same_word : (y q : ℕ) → y % 4 ≡ 0 → q ≡ y / 256 → IsSameWindowPage q w v → word_of (drop y w) ≡ word_of (drop y v)
  same_word y q even is same =
      word_of-same (drop y w) (drop y v) (same_byte y q 0 even is (omega arith) same)
      (same_byte y q 1 even is (omega arith) same) (same_byte y q 2 even is (omega arith) same)
      (same_byte y q 3 even is (omega arith) same)

  -- a word is the finished one, or erased
  word_written : (y : ℕ) → y % 4 ≡ 0 → (word_of (drop y w) ≡ word_of (drop y v)) ⊎ (word_of (drop y v) ≡ 0xffffffff)
  word_written y even =
      elim (written.pages (y / 256)) [
        | inl blank ↦ inr (blank_word y (y / 256) even refl blank)
        | inr same ↦ inl (same_word y (y / 256) even refl same)
      ]

  -- a word that stands beside two written words of which each may be in another page is written
  word_between : (y : ℕ) → (y + 4) % 4 ≡ 0 → word_of (drop y v) ≢ 0xffffffff → word_of (drop (y + 8) v) ≢ 0xffffffff
      → word_of (drop (y + 4) w) ≡ word_of (drop (y + 4) v)
  word_between y even before behind =
      elim (written.pages ((y + 4) / 256)) [
        | inr same ↦ same_word (y + 4) ((y + 4) / 256) even refl same
        | inl blank ↦ elim (cases_lt ((y + 4) % 256) 4) [
          | inl first ↦ absurd (behind (blank_word (y + 8) ((y + 4) / 256) (omega arith) (omega arith) blank))
          | inr later ↦ absurd (before (blank_word y ((y + 4) / 256) (omega arith) (omega arith) blank))
        ]
      ]

  -- a block in the flash that is programmed in part
  module _ (x : ℕ) (b : BlockView) (at : BlockAt v x b) where
    place : (k : ℕ) → (x + 4 * k) % 4 ≡ 0
    place k = let even = at.aligned in omega arith

    now : (k n : ℕ) → k < length b.items + 4 → n ≡ get_or (block_words b) k 0 → word_of (drop (x + 4 * k) v) ≡ n
    now k n lt is = BlockAt-word v x b k at lt ∙ sym is

    kept : (k n : ℕ) → k < length b.items + 4 → n ≡ get_or (block_words b) k 0 → n ≢ 0xffffffff
        → word_of (drop (x + 4 * k) w) ≡ n
    kept k n lt is some =
        elim (word_written (x + 4 * k) (place k)) [
          | inl same ↦ same ∙ now k n lt is
          | inr blank ↦ absurd (some (sym (now k n lt is) ∙ blank))
        ]

    few_words : length b.items ≤ 156
    few_words = at.stands.few

    kept_link : word_of (drop (x + 4 * (length b.items + 2)) w) ≡ cast_unsigned w32 b.link
    kept_link =
        let n = length b.items in
        let few = few_words in
        let y = x + 4 * (n + 1) in
        let even = at.aligned in
        let here : y + 4 ≡ x + 4 * (n + 2) = omega arith in
        let there : y + 8 ≡ x + 4 * (n + 3) = omega arith in
        let before : word_of (drop y v) ≡ last_item n =
        now (n + 1) (last_item n) (omega arith) (word-last b.items b.link (n + 1) refl) in
        let behind : word_of (drop (y + 8) v) ≡ end_word = ap (λ z. word_of (drop z v)) there
        ∙ now (n + 3) end_word (omega arith) (word-end b.items b.link (n + 3) refl) in
        ap (λ z. word_of (drop z w)) (sym here)
        ∙ word_between y (omega arith) (λ e. let f : last_item n ≡ 0xffffffff = sym before ∙ e in omega arith)
        (λ e. let f : end_word ≡ 0xffffffff = sym behind ∙ e in omega arith)
        ∙ ap (λ z. word_of (drop z v)) here
        ∙ now (n + 2) (cast_unsigned w32 b.link) (omega arith) (word-link b.items b.link (n + 2) refl)

    -- the finished bytes at the block's place, and their words
    finished : List ℕ
    finished = take (block_size b) (drop x w)

    finished_length : length finished ≡ block_size b
    unfolding finished
    finished_length =
        let room = BlockAt-room v x b at in
        let long = written.long in
        let rest = length-drop x w in
        let front = length-take (block_size b) (drop x w) in
        omega arith

    finished_words : length (words_of finished) ≡ length b.items + 4
    finished_words = let long = length-words_of finished in let size = finished_length in omega arith

    finished_word : (k : ℕ) → k < length b.items + 4 → get_or (words_of finished) k 0 ≡ word_of (drop (x + 4 * k) w)
    unfolding finished
    finished_word k lt =
        get_or-words_of finished k (let size = finished_length in omega arith)
        ∙ word_of-same (drop (4 * k) finished) (drop (x + 4 * k) w) (here 0 (omega arith)) (here 1 (omega arith))
        (here 2 (omega arith)) (here 3 (omega arith))
      where
        here : (i : ℕ) → i < 4 → get_or (drop (4 * k) (take (block_size b) (drop x w))) i 0
            ≡ get_or (drop (x + 4 * k) w) i 0
        here i few =
            get_or-drop (4 * k) (take (block_size b) (drop x w)) i 0
            ∙ block_byte w x (block_size b) (4 * k + i) (omega arith)
            ∙ ap (λ n. get_or w n 0) (omega arith) ∙ sym (get_or-drop (x + 4 * k) w i 0)

    finished_items : List ℕ
    finished_items = take (length b.items) (drop 1 (words_of finished))

    finished_count : length finished_items ≡ length b.items
    unfolding finished_items
    finished_count =
        length-take-le (length b.items) (drop 1 (words_of finished))
        (let rest = length-drop 1 (words_of finished) in let long = finished_words in omega arith)

    finished_item : (j : ℕ) → j < length b.items → get_or finished_items j 0 ≡ word_of (drop (x + 4 * (j + 1)) w)
    unfolding finished_items
    finished_item j lt =
        get_or-take (length b.items) (drop 1 (words_of finished)) j 0 lt ∙ get_or-drop 1 (words_of finished) j 0
        ∙ ap (λ n. get_or (words_of finished) n 0) (omega arith) ∙ finished_word (j + 1) (omega arith)

    filled : Fills b.items finished_items
    filled =
        Fills-from_get b.items finished_items finished_count
        (λ j lt.
        let item : word_of (drop (x + 4 * (j + 1)) v) ≡ get_or b.items j 0 =
        now (j + 1) (get_or b.items j 0) (omega arith)
        (ap (λ n. get_or b.items n 0) (omega arith)
        ∙ word-item b.items b.link (j + 1) (λ e. omega (arith, e)) (omega arith)) in
        elim (word_written (x + 4 * (j + 1)) (place (j + 1))) [
          | inl same ↦ inl (finished_item j lt ∙ same ∙ item)
          | inr blank ↦ inr (sym item ∙ blank)
        ])

    finished_framed : IsFramed (words_of finished) (length b.items)
    unfolding finished_items
    finished_framed =
        let long = finished_words in
        let few = few_words in
        record {
          inside = omega arith;
          items = (filled_items 0 b.items finished_items filled at.stands.whole).0;
          last =
              finished_word (length b.items + 1) (omega arith)
              ∙ kept (length b.items + 1) (last_item (length b.items)) (omega arith)
              (word-last b.items b.link (length b.items + 1) refl) (λ e. omega (arith, e));
          end_ =
              finished_word (length b.items + 3) (omega arith)
              ∙ kept (length b.items + 3) end_word (omega arith) (word-end b.items b.link (length b.items + 3) refl)
              (λ e. omega (arith, e));
        }

    finished_link : get_or (words_of finished) (length b.items + 2) 0 ≡ cast_unsigned w32 b.link
    finished_link = finished_word (length b.items + 2) (omega arith) ∙ kept_link

    finished_start : get_or (words_of finished) 0 0 ≡ start_word
    finished_start = finished_word 0 (omega arith)
        ∙ kept 0 start_word (omega arith) (word-start b.items b.link 0 refl) (λ e. omega (arith, e))

    -- the finished bytes are a block with the same headers and link
    finished_block : AreBytes w → IsBlock finished finished_items b.link
    unfolding finished_items finished
    finished_block bytes =
        let n = length b.items in
        let few = few_words in
        let size = finished_length in
        let are : AreBytes (take (block_size b) (drop x w)) =
        AreBytes-take (block_size b) (drop x w) (AreBytes-drop x w bytes) in
        let words = words_of (take (block_size b) (drop x w)) in
        let fits : get_or words (n + 2) 0 < 2 ^ 32 =
        subst (λ u. u < 2 ^ 32) (sym finished_link) (Fits-of_z at.stands.fits).fits in
        let all : take (4 * (n + 4)) (take (block_size b) (drop x w)) ≡ take (block_size b) (drop x w) =
        take_all (4 * (n + 4)) (take (block_size b) (drop x w)) (omega arith) in
        let spelled : bytes_of (take (n + 4) words) ≡ take (block_size b) (drop x w) =
        bytes_of-words_of (n + 4) (take (block_size b) (drop x w)) (omega arith) (subst AreBytes (sym all) are) ∙ all in
        let framed : take (n + 4) words ≡ frame (take n (drop 1 words)) (cast_signed w32 (get_or words (n + 2) 0)) =
        frame-from_framed words n finished_framed finished_start fits in
        let link : cast_signed w32 (get_or words (n + 2) 0) ≡ b.link = ap (cast_signed w32) finished_link
        ∙ to_z-of_z w32 b.link at.stands.fits in
        let count = finished_count in
        record {
          spelled = sym spelled ∙ ap bytes_of framed ∙ ap (λ l. bytes_of (frame (take n (drop 1 words)) l)) link;
          whole = (filled_items 0 b.items finished_items filled at.stands.whole).0;
          few = omega arith;
          words = AreWords-take n (drop 1 words)
              (AreWords-drop 1 words (AreWords-words_of (take (block_size b) (drop x w)) are));
          fits = at.stands.fits;
        }

    -- the block that they are
    finished_stands : AreBytes w → BlockAt w x (record { at = x; items = finished_items; link = b.link })
    unfolding finished
    finished_stands bytes =
        record {
          aligned = at.aligned;
          placed = refl;
          stands =
              subst (λ n. IsBlock (take (4 * n + 16) (drop x w)) finished_items b.link) (sym finished_count)
              (finished_block bytes);
        }

    finished_headers : headers_of finished_items ≡ headers_of b.items
    finished_headers = (filled_items 0 b.items finished_items filled at.stands.whole).1

AreBytes-from_All : (w : List ℕ) → All (λ n. n < 256) w → AreBytes w
AreBytes-from_All w all i =
    elim (cases_lt i (length w)) [
      | inl lt ↦ All-get_or (λ n. n < 256) w i 0 lt all
      | inr past ↦ let e = get_or_past w i 0 past in omega arith
    ]

-- where a block stands in flash that is programmed in part, the finished one has a block of the same
-- headers and link
pub block_written : (w v : List ℕ) (x : ℕ) (b : BlockView) → IsPartlyWritten w v → All (λ n. n < 256) w → BlockAt v x b
    → (c : BlockView) × BlockAt w x c × HasHeadersOf b c
block_written w v x b written bytes at = (
  record { at = x; items = finished_items w v written x b at; link = b.link },
  finished_stands w v written x b at (AreBytes-from_All w bytes),
  record {
    place = sym at.placed;
    count = finished_count w v written x b at;
    headers = finished_headers w v written x b at;
    link = refl;
  },
)
