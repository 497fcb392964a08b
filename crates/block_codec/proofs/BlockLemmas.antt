-- The reader of bytes and the grammar are one: what stands at the front of bytes, and at an offset.
use Rattle.std.proofs.Common.{◌≡◌, ℕ, zero, suc, ◌+◌, ◌-◌, ◌*◌, ◌^◌, ◌<◌, ◌≤◌, ◌==◌, true, false, cond, ℤ, List, [], ◌∷◌, ◌++◌, length, take, drop, get_or, Option, Some, None, refl, sym, inl, inr, ap, subst, ◌∙◌, arith, length-append, length-take, length-drop}
use Rattle.std.proofs.lemmas.List.{get_or-take, take_all, take-take, take_at, take-append-drop, length-take-le}
use Rattle.std.proofs.lemmas.Option.{cond_some, option_and_then_some, none-some}
use Rattle.std.proofs.lemmas.Int.{to_z-of_z}
use Rattle.std.proofs.lemmas.Bool.{eq-eqb, ne_eqb, cases_eq}
use Rattle.std.proofs.Math.Facts.{sfits_to_z}
use Rattle.std.proofs.Math.Seq.{take-append-add}
use Rattle.std.specs.Int.{cast_signed, w32}
use Rattle.std.specs.Option.{option_and_then}
use Rattle.byteorder.specs.Numbers.{little_from-take}
use Rattle.block_codec.specs.Words.{bytes_of, word_of, words_of, are_bytes, AreWords}
use Rattle.block_codec.specs.Blocks.{BlockView, start_word, frame, block_size, IsBlock, Begins}
use Rattle.block_codec.specs.Reading.{item_words, framed_block, begun_block, front_block}
use Rattle.block_codec.specs.Reading.{IsFramed}
use Rattle.block_codec.proofs.WordLemmas.{AreBytes, AreBytes-from_test, AreBytes-bytes_of, are_bytes-true, length-bytes_of, length-words_of, get_or-words_of, words_of-append, words_of-take, bytes_of-words_of, AreWords-words_of}
use Rattle.block_codec.proofs.FrameLemmas.{IsFramed-from_found, length-frame, frame-items, frame-start, frame-link, item_words-frame, frame-from_framed, AreWords-frame}

-- a block has its size
pub length-block : (p items : List ℕ) (link : ℤ) → IsBlock p items link → length p ≡ 4 * length items + 16
length-block p items link block =
    ap length block.spelled ∙ length-bytes_of (frame items link) ∙ (let e = length-frame items link in omega (arith, e))

-- a word reads the first four bytes alone
pub word_of-take : (n : ℕ) (bs : List ℕ) → 4 ≤ n → word_of (take n bs) ≡ word_of bs
unfolding word_of
word_of-take n bs h = little_from-take 0 4 n bs h

-- a block's words are words
pub AreWords-block : (p items : List ℕ) (link : ℤ) → IsBlock p items link → AreWords (frame items link)
AreWords-block p items link block = AreWords-frame items link block.few block.words block.fits

-- the words of bytes that begin with a block
pub words_of-block : (p items rest : List ℕ) (link : ℤ) → IsBlock p items link
    → words_of (p ++ rest) ≡ frame items link ++ words_of rest
words_of-block p items rest link block =
    ap (λ bs. words_of (bs ++ rest)) block.spelled
    ∙ words_of-append (frame items link) rest (AreWords-block p items link block)

-- two blocks at one offset are the same where their item words and their links are
same_view : (x : ℕ) (xs ys : List ℕ) (k l : ℤ) → xs ≡ ys → k ≡ l →
    ◌≡◌ {A = Option BlockView} (Some (record { at = x; items = xs; link = k }))
    (Some (record { at = x; items = ys; link = l }))
same_view x xs ys k l e f = rw (e, f) refl

-- what the words of a block give
framed_block-block : (x : ℕ) (bytes ws p items rest : List ℕ) (link : ℤ) → IsBlock p items link
    → take (4 * length items + 16) bytes ≡ p → ws ≡ frame items link ++ rest →
    option_and_then (framed_block x bytes ws) (item_words ws) ≡ Some (record { at = x; items = items; link = link })
framed_block-block x bytes ws p items rest link block front is =
    let found : item_words ws ≡ Some (length items) = ap item_words is ∙ item_words-frame items link rest block.whole in
    let test : are_bytes (take (4 * length items + 16) bytes) ≡ true =
    ap are_bytes (front ∙ block.spelled)
    ∙ are_bytes-true (bytes_of (frame items link)) (AreBytes-bytes_of (frame items link)) in
    let same_items : take (length items) (drop 1 ws) ≡ items = ap (λ xs. take (length items) (drop 1 xs)) is
    ∙ frame-items items link rest in
    let same_link : cast_signed w32 (get_or ws (length items + 2) 0) ≡ link =
    ap (cast_signed w32) (ap (λ xs. get_or xs (length items + 2) 0) is ∙ frame-link items link rest)
    ∙ to_z-of_z w32 link block.fits in
    ap (option_and_then (framed_block x bytes ws)) found
    ∙ ap (λ t. cond t (Some (record
    { at = x; items = take (length items) (drop 1 ws); link = cast_signed w32 (get_or ws (length items + 2) 0) }))
    None) test
    ∙ same_view x _ items _ link same_items same_link

-- the front of enough bytes
front-of : (n : ℕ) (p rest : List ℕ) → length p ≤ n → take n (p ++ rest) ≡ p ++ take (n - length p) rest
front-of n p rest h =
    let e : n ≡ length p + (n - length p) = omega arith in
    ap (λ k. take k (p ++ rest)) e ∙ take-append-add p rest (n - length p)

-- the first word of bytes that begin with a block
word_of-block : (p items rest : List ℕ) (link : ℤ) → IsBlock p items link → word_of (p ++ rest) ≡ start_word
word_of-block p items rest link block =
    let long = length-block p items link block in
    let room = length-append p rest in
    sym (get_or-words_of (p ++ rest) 0 (omega arith))
    ∙ ap (λ ws. get_or ws 0 0) (words_of-block p items rest link block) ∙ frame-start items link (words_of rest)

-- a block that begins the bytes is found
pub front_block-found : (x : ℕ) (p items rest : List ℕ) (link : ℤ) → IsBlock p items link →
    front_block x (p ++ rest) ≡ Some (record { at = x; items = items; link = link })
unfolding front_block
front_block-found x p items rest link block =
    let long = length-block p items link block in
    let few = block.few in
    let front = front-of 640 p rest (omega arith) in
    ap (λ t. begun_block t x (p ++ rest)) (eq-eqb _ start_word (word_of-block p items rest link block))
    ∙ framed_block-block x (p ++ rest) (words_of (take 640 (p ++ rest))) p items
    (words_of (take (640 - length p) rest)) link block
    (take_at p rest (4 * length items + 16) long)
    (ap words_of front ∙ words_of-block p items (take (640 - length p) rest) link block)

pub AreWords-at : (ws : List ℕ) (k : ℕ) → AreWords ws → get_or ws k 0 < 2 ^ 32
AreWords-at [] k h = omega arith
AreWords-at (w ∷ ws) zero h = h.0
AreWords-at (w ∷ ws) (suc k) h = AreWords-at ws k h.1

AreWords-front : (xs ys : List ℕ) → AreWords (xs ++ ys) → AreWords xs
AreWords-front [] ys h = tt
AreWords-front (x ∷ xs) ys h = (h.0, AreWords-front xs ys h.1)

-- a block's item words are words where all its words are
pub AreWords-items : (items : List ℕ) (link : ℤ) → AreWords (frame items link) → AreWords items
unfolding frame
AreWords-items items link h = AreWords-front items _ h.1

-- the words of the first bytes, and what framed words among them are
module _ (f : List ℕ) (n : ℕ) (bytes : AreBytes (take (4 * (n + 4)) f)) (framed : IsFramed (words_of f) n) where
  first_words : AreWords (take (n + 4) (words_of f))
  first_words = subst AreWords (words_of-take (n + 4) f) (AreWords-words_of (take (4 * (n + 4)) f) bytes)

  link_word : get_or (words_of f) (n + 2) 0 < 2 ^ 32
  link_word = subst (λ w. w < 2 ^ 32) (get_or-take (n + 4) (words_of f) (n + 2) 0 (omega arith))
      (AreWords-at _ (n + 2) first_words)

  module _ (start : word_of f ≡ start_word) where
    start_first : get_or (words_of f) 0 0 ≡ start_word
    start_first =
        let room = framed.inside in
        let long = length-words_of f in
        get_or-words_of f 0 (omega arith) ∙ start

    spelled_words : take (n + 4) (words_of f)
        ≡ frame (take n (drop 1 (words_of f))) (cast_signed w32 (get_or (words_of f) (n + 2) 0))
    spelled_words = frame-from_framed (words_of f) n framed start_first link_word

    block-from_framed : n ≤ 156 → IsBlock (take (4 * (n + 4)) f) (take n (drop 1 (words_of f)))
        (cast_signed w32 (get_or (words_of f) (n + 2) 0))
    block-from_framed few = record {
      spelled =
          let room = framed.inside in
          let long = length-words_of f in
          sym (bytes_of-words_of (n + 4) f (omega arith) bytes) ∙ ap bytes_of spelled_words;
      whole = framed.items;
      few = let long = length-take n (drop 1 (words_of f)) in omega (arith, long);
      words = AreWords-items _ _ (subst AreWords spelled_words first_words);
      fits = sfits_to_z {w = w32} (record { fits = link_word });
    }

none_some : {P : Type 0} (b : BlockView) → None ≡ Some b → P
none_some b e = absurd (none-some b e)

-- framed words in the first m bytes are a block at the front of the bytes
stands_framed : (m x n : ℕ) (bytes : List ℕ) → m ≤ 640 → 4 ≤ m → are_bytes (take (4 * n + 16) bytes) ≡ true
    → word_of bytes ≡ start_word →
    IsFramed (words_of (take m bytes)) n →
    Begins x bytes (record {
      at = x;
      items = take n (drop 1 (words_of (take m bytes)));
      link = cast_signed w32 (get_or (words_of (take m bytes)) (n + 2) 0);
    })
stands_framed m x n bytes most least test start framed =
    let room = framed.inside in
    let long = length-words_of (take m bytes) in
    let front = length-take m bytes in
    let size : 4 * (n + 4) ≡ 4 * n + 16 = omega arith in
    let same : take (4 * (n + 4)) (take m bytes) ≡ take (4 * n + 16) bytes =
    take-take (4 * (n + 4)) m bytes (omega arith) ∙ ap (λ k. take k bytes) size in
    let items_long : length (take n (drop 1 (words_of (take m bytes)))) ≡ n =
    length-take-le n (drop 1 (words_of (take m bytes)))
    (let tail = length-drop 1 (words_of (take m bytes)) in omega (arith, tail)) in
    let block = block-from_framed (take m bytes) n (subst AreBytes (sym same) (AreBytes-from_test _ test)) framed
    (word_of-take m bytes least ∙ start) (omega arith) in
    let bytes_are : take (4 * (n + 4)) (take m bytes)
    ≡ take (4 * length (take n (drop 1 (words_of (take m bytes)))) + 16) bytes =
    same ∙ ap (λ k. take (4 * k + 16) bytes) (sym items_long) in
    record {
      placed = refl;
      stands =
          subst (λ p. IsBlock p (take n (drop 1 (words_of (take m bytes))))
          (cast_signed w32 (get_or (words_of (take m bytes)) (n + 2) 0))) bytes_are block;
    }

begun-stands : (x : ℕ) (bytes : List ℕ) (b : BlockView) → word_of bytes ≡ start_word
    → begun_block true x bytes ≡ Some b → Begins x bytes b
begun-stands x bytes b start e =
    option_and_then_some (framed_block x bytes (words_of (take 640 bytes))) (item_words (words_of (take 640 bytes))) b e
    (λ n found made.
    let (test, same) = cond_some (are_bytes (take (4 * n + 16) bytes)) _ b made in
    subst (λ v. Begins x bytes v) same
    (stands_framed 640 x n bytes (omega arith) (omega arith) test start
    (IsFramed-from_found (words_of (take 640 bytes)) n found)))

-- bytes that have another first word begin with no block
pub front_block-unstarted : (x : ℕ) (bytes word : List ℕ) → word ≡ take 4 bytes → (word_of word == start_word) ≡ false
    → front_block x bytes ≡ None
unfolding front_block
front_block-unstarted x bytes word is other =
    ap (λ begun. begun_block begun x bytes)
    (ap (λ w. w == start_word) (sym (word_of-take 4 bytes (omega arith)) ∙ ap word_of (sym is)) ∙ other)

-- what is found at the front is a block
pub front_block-stands : (x : ℕ) (bytes : List ℕ) (b : BlockView) → front_block x bytes ≡ Some b → Begins x bytes b
unfolding front_block
front_block-stands x bytes b e =
    elim (cases_eq (word_of bytes) start_word) [
      | inl start ↦ begun-stands x bytes b start
          (ap (λ t. begun_block t x bytes) (sym (eq-eqb (word_of bytes) start_word start)) ∙ e)
      | inr other ↦ none_some b (ap (λ t. begun_block t x bytes) (sym (ne_eqb (word_of bytes) start_word other)) ∙ e)
    ]

-- bytes of which a front is a block begin with it
pub Begins-from_block : (x n : ℕ) (bytes items : List ℕ) (link : ℤ) → IsBlock (take n bytes) items link →
    Begins x bytes (record { at = x; items = items; link = link })
Begins-from_block x n bytes items link block =
    let long = length-block (take n bytes) items link block in
    let room = length-take n bytes in
    let same : take n bytes ≡ take (4 * length items + 16) bytes =
    sym (take_all (4 * length items + 16) (take n bytes) (omega arith))
    ∙ take-take (4 * length items + 16) n bytes (omega arith) in
    record { placed = refl; stands = subst (λ p. IsBlock p items link) same block }

-- the bytes are long enough
pub Begins-room : (x : ℕ) (bytes : List ℕ) (b : BlockView) → Begins x bytes b → block_size b ≤ length bytes
Begins-room x bytes b begins =
    let long = length-block (take (block_size b) bytes) b.items b.link begins.stands in
    let room = length-take (block_size b) bytes in
    omega arith

-- a block that begins the bytes is found
pub front_block-begins : (x : ℕ) (bytes : List ℕ) (b : BlockView) → Begins x bytes b → front_block x bytes ≡ Some b
front_block-begins x bytes b begins =
    ap (front_block x) (sym (take-append-drop (block_size b) bytes))
    ∙ front_block-found x (take (block_size b) bytes) b.items (drop (block_size b) bytes) b.link begins.stands
    ∙ ap (λ y. Some (record { at = y; items = b.items; link = b.link })) (sym begins.placed)

-- the first words of bytes that begin with a block
pub words_of-front : (m : ℕ) (p items rest : List ℕ) (link : ℤ) → length p ≤ m → IsBlock p items link →
    words_of (take m (p ++ rest)) ≡ frame items link ++ words_of (take (m - length p) rest)
words_of-front m p items rest link room block =
    ap words_of (front-of m p rest room) ∙ words_of-block p items (take (m - length p) rest) link block
