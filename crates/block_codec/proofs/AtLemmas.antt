-- Blocks at offsets of a list: the reader against the relation, and which bytes a block depends on.
use Rattle.std.proofs.Common.{◌≡◌, ℕ, ◌+◌, ◌-◌, ◌*◌, ◌/◌, ◌%◌, ◌<◌, ◌≤◌, ℤ, List, [], ◌++◌, length, take, drop, get_or, replicate, Option, Some, None, refl, sym, ap, subst, ◌∙◌, inl, inr, arith, length-drop, length-append}
use Rattle.std.proofs.lemmas.List.{take-take, append-nil, take_at, take_all, take-append-le, drop-append-le, get_or-take, get_or-drop, get_or-append_right, get_or-replicate, length-replicate, nil_from_length}
use Rattle.std.proofs.lemmas.Bool.{cases_eq, cases_lt, eq-eqb, ne_eqb}
use Rattle.std.proofs.lemmas.Option.{none-some, same_Some}
use Rattle.block_codec.specs.Words.{bytes_of, word_of, words_of}
use Rattle.block_codec.specs.Blocks.{block_words, BlockView, start_word, end_word, frame, block_size, IsBlock, Begins, BlockAt}
use Rattle.block_codec.specs.Reading.{front_block, aligned_block, block_at}
use Rattle.block_codec.specs.Erased.{AreErased, IsErasedFrom}
use Rattle.block_codec.proofs.WordLemmas.{bytes_of-words_of, AreBytes-take, AreBytes, AreBytes-bytes_of, AreBytes-drop, get_or-words_of}
use Rattle.block_codec.proofs.FrameLemmas.{frame-start, frame-end}
use Rattle.block_codec.proofs.BlockLemmas.{length-block, words_of-block, front_block-stands, front_block-begins, Begins-from_block, Begins-room}

-- the bytes from the offset on begin with a block that stands there
pub BlockAt-begins : (w : List ℕ) (x : ℕ) (b : BlockView) → BlockAt w x b → Begins x (drop x w) b
BlockAt-begins w x b at = record { placed = at.placed; stands = at.stands }

pub BlockAt-from_begins : (w : List ℕ) (x : ℕ) (b : BlockView) → x % 4 ≡ 0 → Begins x (drop x w) b → BlockAt w x b
BlockAt-from_begins w x b aligned begins = record { aligned = aligned; placed = begins.placed; stands = begins.stands }

-- the block that stands at an offset is found there
pub block_at-stands : (w : List ℕ) (x : ℕ) (b : BlockView) → BlockAt w x b → block_at w x ≡ Some b
unfolding block_at
block_at-stands w x b at =
    ap (λ t. aligned_block t x w) (eq-eqb (x % 4) 0 at.aligned)
    ∙ front_block-begins x (drop x w) b (BlockAt-begins w x b at)

-- what is found at an offset stands there
pub BlockAt-from_found : (w : List ℕ) (x : ℕ) (b : BlockView) → block_at w x ≡ Some b → BlockAt w x b
unfolding block_at
BlockAt-from_found w x b e =
    elim (cases_eq (x % 4) 0) [
      | inl aligned ↦
          BlockAt-from_begins w x b aligned
          (front_block-stands x (drop x w) b (ap (λ t. aligned_block t x w) (sym (eq-eqb (x % 4) 0 aligned)) ∙ e))
      | inr other ↦ absurd (none-some b (ap (λ t. aligned_block t x w) (sym (ne_eqb (x % 4) 0 other)) ∙ e))
    ]

-- at a multiple of 4 the reader reads the front of the bytes from there on
pub block_at-aligned : (w : List ℕ) (x : ℕ) → x % 4 ≡ 0 → block_at w x ≡ front_block x (drop x w)
unfolding block_at
block_at-aligned w x aligned = ap (λ t. aligned_block t x w) (eq-eqb (x % 4) 0 aligned)

-- nothing is found where no block stands
pub none_unless : (o : Option BlockView) → ((b : BlockView) → o ≡ Some b → ⊥) → o ≡ None
none_unless None h = refl
none_unless (Some b) h = absurd (h b refl)

pub block_at-none : (w : List ℕ) (x : ℕ) → ((b : BlockView) → BlockAt w x b → ⊥) → block_at w x ≡ None
block_at-none w x h = none_unless (block_at w x) (λ b e. h b (BlockAt-from_found w x b e))

pub no_block-from_none : (w : List ℕ) (x : ℕ) (b : BlockView) → block_at w x ≡ None → BlockAt w x b → ⊥
no_block-from_none w x b none at = none-some b (sym none ∙ block_at-stands w x b at)

-- one block stands at an offset
pub BlockAt-unique : (w : List ℕ) (x : ℕ) (b c : BlockView) → BlockAt w x b → BlockAt w x c → b ≡ c
BlockAt-unique w x b c at_b at_c = same_Some b c (sym (block_at-stands w x b at_b) ∙ block_at-stands w x c at_c)

-- two searches have the same answer where each block that one finds the other finds too
pub same_found : (o q : Option BlockView) → ((b : BlockView) → o ≡ Some b → q ≡ Some b)
    → ((b : BlockView) → q ≡ Some b → o ≡ Some b) → o ≡ q
same_found None None f g = refl
same_found (Some b) q f g = sym (f b refl)
same_found None (Some b) f g = g b refl

pub block_at-same : (w v : List ℕ) (x : ℕ) → ((b : BlockView) → BlockAt w x b → BlockAt v x b)
    → ((b : BlockView) → BlockAt v x b → BlockAt w x b) → block_at w x ≡ block_at v x
block_at-same w v x f g =
    same_found _ _ (λ b e. block_at-stands v x b (f b (BlockAt-from_found w x b e)))
    (λ b e. block_at-stands w x b (g b (BlockAt-from_found v x b e)))

-- a block lies in its list
pub BlockAt-room : (w : List ℕ) (x : ℕ) (b : BlockView) → BlockAt w x b → x + block_size b ≤ length w
BlockAt-room w x b at =
    let room = Begins-room x (drop x w) b (BlockAt-begins w x b at) in
    let rest = length-drop x w in
    omega arith

-- a block depends on its bytes alone
pub BlockAt-local : (w v : List ℕ) (x : ℕ) (b : BlockView)
    → take (block_size b) (drop x w) ≡ take (block_size b) (drop x v) → BlockAt w x b → BlockAt v x b
BlockAt-local w v x b same at =
    record { aligned = at.aligned; placed = at.placed; stands = subst (λ p. IsBlock p b.items b.link) same at.stands }

-- a block still stands where bytes follow its list
pub BlockAt-append : (w rest : List ℕ) (x : ℕ) (b : BlockView) → BlockAt w x b → BlockAt (w ++ rest) x b
BlockAt-append w rest x b at =
    let room = BlockAt-room w x b at in
    let tail = length-drop x w in
    BlockAt-local w (w ++ rest) x b
    (sym (ap (take (block_size b)) (drop-append-le x w rest (omega arith))
    ∙ take-append-le (block_size b) (drop x w) rest (omega arith))) at

pub BlockAt-front : (w rest : List ℕ) (x : ℕ) (b : BlockView) → x + block_size b ≤ length w → BlockAt (w ++ rest) x b
    → BlockAt w x b
BlockAt-front w rest x b room at =
    let tail = length-drop x w in
    BlockAt-local (w ++ rest) w x b
    (ap (take (block_size b)) (drop-append-le x w rest (omega arith))
    ∙ take-append-le (block_size b) (drop x w) rest (omega arith)) at

-- the first and the last byte of a word
pub word_of-first : (bs : List ℕ) → AreBytes bs → word_of bs % 256 ≡ get_or bs 0 0
unfolding word_of
word_of-first bs h = let a = h 0 in let b = h 1 in let c = h 2 in let d = h 3 in omega arith

word_of-last : (bs : List ℕ) → AreBytes bs → word_of bs / 16777216 ≡ get_or bs 3 0
unfolding word_of
word_of-last bs h = let a = h 0 in let b = h 1 in let c = h 2 in let d = h 3 in omega arith

-- words of the same four bytes are the same
pub word_of-same : (bs cs : List ℕ) → get_or bs 0 0 ≡ get_or cs 0 0 → get_or bs 1 0 ≡ get_or cs 1 0
    → get_or bs 2 0 ≡ get_or cs 2 0 → get_or bs 3 0 ≡ get_or cs 3 0 → word_of bs ≡ word_of cs
unfolding word_of
word_of-same bs cs a b c d = omega arith

-- a word of a block's bytes
pub block-word : (p items : List ℕ) (link : ℤ) (k : ℕ) → IsBlock p items link → k < length items + 4
    → word_of (drop (4 * k) p) ≡ get_or (frame items link) k 0
block-word p items link k block lt =
    let long = length-block p items link block in
    let words : words_of p ≡ frame items link ++ words_of [] = ap words_of (sym (append-nil p))
    ∙ words_of-block p items [] link block in
    sym (get_or-words_of p k (omega arith)) ∙ ap (λ ws. get_or ws k 0) (words ∙ append-nil (frame items link))

pub AreBytes-block : (p items : List ℕ) (link : ℤ) → IsBlock p items link → AreBytes p
AreBytes-block p items link block = subst AreBytes (sym block.spelled) (AreBytes-bytes_of (frame items link))

-- a byte of a block, in the list that it stands in
pub block_byte : (w : List ℕ) (x size i : ℕ) → i < size → get_or (take size (drop x w)) i 0 ≡ get_or w (x + i) 0
block_byte w x size i lt = get_or-take size (drop x w) i 0 lt ∙ get_or-drop x w i 0

-- a block's first byte is 0xd3, the low byte of the start word
pub BlockAt-first_byte : (w : List ℕ) (x : ℕ) (b : BlockView) → BlockAt w x b → get_or w x 0 ≡ 0xd3
BlockAt-first_byte w x b at =
    let p = take (block_size b) (drop x w) in
    let start : word_of p ≡ start_word =
    block-word p b.items b.link 0 at.stands (omega arith)
    ∙ ap (λ ws. get_or ws 0 0) (sym (append-nil (frame b.items b.link))) ∙ frame-start b.items b.link [] in
    let first = word_of-first p (AreBytes-block p b.items b.link at.stands) in
    let byte : get_or p 0 0 ≡ get_or w x 0 = block_byte w x (block_size b) 0 (omega arith)
    ∙ ap (λ k. get_or w k 0) (omega arith) in
    omega arith

-- a block's last byte is 0xab, the high byte of the end word
pub BlockAt-last_byte : (w : List ℕ) (x : ℕ) (b : BlockView) → BlockAt w x b
    → get_or w (x + (block_size b - 1)) 0 ≡ 0xab
BlockAt-last_byte w x b at =
    let p = take (block_size b) (drop x w) in
    let n = length b.items + 3 in
    let end_ : word_of (drop (4 * n) p) ≡ end_word =
    block-word p b.items b.link n at.stands (omega arith)
    ∙ ap (λ ws. get_or ws n 0) (sym (append-nil (frame b.items b.link))) ∙ frame-end b.items b.link [] in
    let last = word_of-last (drop (4 * n) p) (AreBytes-drop (4 * n) p (AreBytes-block p b.items b.link at.stands)) in
    let place : 4 * n + 3 ≡ block_size b - 1 = omega arith in
    let byte : get_or (drop (4 * n) p) 3 0 ≡ get_or w (x + (block_size b - 1)) 0 =
    get_or-drop (4 * n) p 3 0 ∙ ap (λ k. get_or p k 0) place
    ∙ block_byte w x (block_size b) (block_size b - 1) (omega arith) in
    omega arith

-- no block stands at an erased byte
pub no_block_at_erased : (w : List ℕ) (x : ℕ) (b : BlockView) → get_or w x 0 ≡ 255 → BlockAt w x b → ⊥
no_block_at_erased w x b erased at = let first = BlockAt-first_byte w x b at in omega arith

-- an element behind the first list
behind : (w f : List ℕ) (k : ℕ) → length w ≤ k → get_or (w ++ f) k 0 ≡ get_or f (k - length w) 0
behind w f k past = get_or-append_right w f (length w) k 0 refl past

-- erased bytes behind a list add no block
pub BlockAt-erased : (w f : List ℕ) (x : ℕ) (b : BlockView) → AreErased f → BlockAt (w ++ f) x b → BlockAt w x b
BlockAt-erased w f x b erased at =
    let room = BlockAt-room (w ++ f) x b at in
    let long = length-append w f in
    elim (cases_lt (length w) (x + block_size b)) [
      | inl past ↦
          let last = BlockAt-last_byte (w ++ f) x b at in
          let far = behind w f (x + (block_size b - 1)) (omega arith) in
          let blank = erased (x + (block_size b - 1) - length w) (omega arith) in
          absurd (omega arith)
      | inr inside ↦ BlockAt-front w f x b inside at
    ]

pub block_at-erased : (w f : List ℕ) (x : ℕ) → AreErased f → block_at (w ++ f) x ≡ block_at w x
block_at-erased w f x erased =
    block_at-same (w ++ f) w x (λ b. BlockAt-erased w f x b erased) (λ b. BlockAt-append w f x b)

-- no block stands in an erased range
pub block_at-in_erased : (w : List ℕ) (from end_ x : ℕ) → IsErasedFrom w from end_ → from ≤ x → x < end_
    → block_at w x ≡ None
block_at-in_erased w from end_ x erased low high = block_at-none w x (λ b. no_block_at_erased w x b (erased x low high))

pub AreErased-replicate : (n : ℕ) → AreErased (replicate n 255)
AreErased-replicate n i lt = get_or-replicate n i 255 0 (let long = length-replicate {A = ℕ} n 255 in omega arith)

-- a block begins a list in one way
pub one_form : (bytes : List ℕ) (n m : ℕ) (items others : List ℕ) (link other : ℤ) → IsBlock (take n bytes) items link
    → IsBlock (take m bytes) others other →
    (items ≡ others) × (link ≡ other)
one_form bytes n m items others link other one two =
    let e : Some (record { at = 0; items = items; link = link })
    ≡ Some (record { at = 0; items = others; link = other }) =
    sym (front_block-begins 0 bytes _ (Begins-from_block 0 n bytes items link one))
    ∙ front_block-begins 0 bytes _ (Begins-from_block 0 m bytes others other two) in
    let same = same_Some _ _ e in
    (ap (λ (b : BlockView). b.items) same, ap (λ (b : BlockView). b.link) same)

-- no block is a proper prefix of another
pub no_longer_block : (p rest items others : List ℕ) (link other : ℤ) → IsBlock p items link
    → IsBlock (p ++ rest) others other → rest ≡ []
no_longer_block p rest items others link other one two =
    let first : IsBlock (take (length p) (p ++ rest)) items link =
    subst (λ q. IsBlock q items link) (sym (take_at p rest (length p) refl)) one in
    let second : IsBlock (take (length (p ++ rest)) (p ++ rest)) others other =
    subst (λ q. IsBlock q others other) (sym (take_all (length (p ++ rest)) (p ++ rest) (omega arith))) two in
    let same = one_form (p ++ rest) (length p) (length (p ++ rest)) items others link other first second in
    let long = length-block p items link one in
    let longer = length-block (p ++ rest) others other two in
    let count = ap length same.0 in
    let joined = length-append p rest in
    nil_from_length rest (omega arith)

-- a word of a block, in the list that it stands in
pub BlockAt-word : (w : List ℕ) (x : ℕ) (b : BlockView) (k : ℕ) → BlockAt w x b → k < length b.items + 4
    → word_of (drop (x + 4 * k) w) ≡ get_or (block_words b) k 0
BlockAt-word w x b k at lt =
    let p = take (block_size b) (drop x w) in
    let same : word_of (drop (4 * k) p) ≡ word_of (drop (x + 4 * k) w) =
    word_of-same (drop (4 * k) p) (drop (x + 4 * k) w) (here 0 (omega arith)) (here 1 (omega arith))
    (here 2 (omega arith)) (here 3 (omega arith)) in
    sym same ∙ block-word p b.items b.link k at.stands lt
  where
    here : (i : ℕ) → i < 4 → get_or (drop (4 * k) (take (block_size b) (drop x w))) i 0
        ≡ get_or (drop (x + 4 * k) w) i 0
    here i few =
        get_or-drop (4 * k) (take (block_size b) (drop x w)) i 0
        ∙ block_byte w x (block_size b) (4 * k + i) (omega arith)
        ∙ ap (λ n. get_or w n 0) (omega arith) ∙ sym (get_or-drop (x + 4 * k) w i 0)

-- the bytes of a block's first words, in the list that it stands in
pub BlockAt-bytes : (w : List ℕ) (x : ℕ) (b : BlockView) (n : ℕ) → BlockAt w x b → n ≤ length b.items + 4
    → take (4 * n) (drop x w) ≡ bytes_of (take n (block_words b))
BlockAt-bytes w x b n at room =
    let p = take (block_size b) (drop x w) in
    let long = length-block p b.items b.link at.stands in
    let words : words_of p ≡ frame b.items b.link =
    ap words_of (sym (append-nil p)) ∙ words_of-block p b.items [] b.link at.stands
    ∙ append-nil (frame b.items b.link) in
    sym (take-take (4 * n) (block_size b) (drop x w) (omega arith))
    ∙ sym (bytes_of-words_of n p (omega arith) (AreBytes-take (4 * n) p (AreBytes-block p b.items b.link at.stands)))
    ∙ ap (λ ws. bytes_of (take n ws)) words
