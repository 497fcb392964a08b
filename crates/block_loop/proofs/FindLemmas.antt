-- What is read at an offset of a window, against the reader of the definitions.
use Rattle.std.proofs.Common.{◌≡◌, ◌≢◌, ◌⊎◌, ℕ, suc, ◌+◌, ◌-◌, ◌*◌, ◌%◌, ◌<◌, ◌≤◌, ◌==◌, false, ℤ, pos, negsuc, ◌<ℤ◌, ◌≤ℤ◌, List, length, take, drop, get_or, min, Option, Some, None, is_some, refl, sym, ap, subst, ◌∙◌, inl, inr, arith, length-take, length-drop}
use Rattle.std.proofs.lemmas.Bool.{eq-eqb}
use Rattle.std.proofs.lemmas.List.{take-take, drop-drop, get_or-take, get_or-drop}
use Rattle.std.proofs.lemmas.Int.{ints}
use Rattle.std.specs.Prelude.{IfSome, IfNone}
use Rattle.std.specs.List.{slice_range}
use Rattle.memchr.specs.Find.{IsFirstByte, is_byte}
use Rattle.block_codec.specs.Words.{bytes_of, word_bytes, word_of}
use Rattle.block_codec.specs.Blocks.{BlockView, Begins, BlockAt, IsBlock, block_size, frame, start_word}
use Rattle.block_codec.specs.Reading.{front_block, block_at}
use Rattle.block_codec.proofs.BlockLemmas.{Begins-room, front_block-stands, front_block-begins, front_block-unstarted}
use Rattle.block_codec.proofs.AtLemmas.{BlockAt-room, BlockAt-from_found, block_at-none, block_at-aligned, no_block-from_none, same_found}
use Rattle.block_loop.specs.Loop.{block_from, first_block, block_at_offset}
use Rattle.block_loop.proofs.ChainLemmas.{first_block-nowhere}
use Rattle.block_loop.proofs.FollowLemmas.{first_from-end, first_from-here, first_from-later}

-- what was found stands there, and where nothing was found nothing does
pub found_at : (w : List ℕ) (x : ℕ) (r : Option BlockView) → r ≡ block_at w x → IfSome r (λ b. BlockAt w x b)
found_at w x None e = tt
found_at w x (Some b) e = BlockAt-from_found w x b (sym e)

pub none_at : (w : List ℕ) (x : ℕ) (r : Option BlockView) → r ≡ block_at w x
    → IfNone r ((b : BlockView) → BlockAt w x b → ⊥)
none_at w x None e = λ b. no_block-from_none w x b (sym e)
none_at w x (Some b) e = tt

-- no block stands at an offset that is no multiple of 4, or past the window
pub nowhere : {X : Type 0} (w : List ℕ) (x n : ℕ) → n ≡ length w → (x % 4 ≢ 0) ⊎ (X × (n ≤ x)) → (b : BlockView)
    → BlockAt w x b → ⊥
nowhere w x n long (inl odd) b at = odd at.aligned
nowhere w x n long (inr past) b at = let room = BlockAt-room w x b at in let far = past.1 in omega arith

-- no block stands where less than a word of the window is left
pub no_room : (w : List ℕ) (x n : ℕ) → n ≡ length w → n < x + 4 → (b : BlockView) → BlockAt w x b → ⊥
no_room w x n long short b at = let room = BlockAt-room w x b at in omega arith

-- a block is found in as many bytes as it can have
front_block-part : (n x : ℕ) (bytes : List ℕ) → n ≡ min 640 (length bytes)
    → front_block x (take n bytes) ≡ front_block x bytes
front_block-part n x bytes is =
    same_found _ _ (λ b e. front_block-begins x bytes b (longer b (front_block-stands x (take n bytes) b e)))
    (λ b e. front_block-begins x (take n bytes) b (shorter b (front_block-stands x bytes b e)))
  where
    longer : (b : BlockView) → Begins x (take n bytes) b → Begins x bytes b
    longer b begins =
        let room = Begins-room x (take n bytes) b begins in
        let long = length-take n bytes in
        record {
          placed = begins.placed;
          stands = subst (λ p. IsBlock p b.items b.link) (take-take (block_size b) n bytes (omega arith)) begins.stands;
        }

    shorter : (b : BlockView) → Begins x bytes b → Begins x (take n bytes) b
    shorter b begins =
        let room = Begins-room x bytes b begins in
        let few = begins.stands.few in
        record {
          placed = begins.placed;
          stands = subst (λ p. IsBlock p b.items b.link)
              (sym (take-take (block_size b) n bytes (omega arith))) begins.stands;
        }

-- no block stands where the word that is read has another value than a block's first word
pub unstarted : (w : List ℕ) (x n : ℕ) (word : List ℕ) → n ≡ 4 → word ≡ slice_range w x (x + n)
    → (word_of word == start_word) ≡ false → front_block x (drop x w) ≡ None
unstarted w x n word four is other =
    let size : x + n - x ≡ 4 = omega arith in
    front_block-unstarted x (drop x w) word (is ∙ ap (λ k. take k (drop x w)) size) other

pub unstarted_at : (w : List ℕ) (x : ℕ) → x % 4 ≡ 0 → front_block x (drop x w) ≡ None → block_at w x ≡ None
unstarted_at w x aligned none = block_at-aligned w x aligned ∙ none

-- the part of the window that is read for an offset
pub part_read : (w : List ℕ) (x n : ℕ) → x % 4 ≡ 0 → n ≡ min 640 (length w - x)
    → front_block x (slice_range w x (x + n)) ≡ block_at w x
part_read w x n aligned is =
    let long = length-drop x w in
    let size : x + n - x ≡ n = omega arith in
    ap (λ k. front_block x (take k (drop x w))) size ∙ front_block-part n x (drop x w) (omega arith)
    ∙ sym (block_at-aligned w x aligned)

-- no block stands at a negative offset, or past the window
pub nowhere_to : (w : List ℕ) (t : ℤ) → (t <ℤ pos 0) ⊎ (pos (length w) ≤ℤ t) → block_at_offset w t ≡ None
nowhere_to w (pos x) (inl low) = absurd (omega (arith, ints))
nowhere_to w (pos x) (inr far) =
    let past : length w ≤ x = omega (arith, ints) in
    block_at-none w x (λ b at. let room = BlockAt-room w x b at in omega arith)
nowhere_to w (negsuc n) far = refl

-- the search for the first block goes on behind a multiple of 4 at which none stands
pub search_more : (w : List ℕ) (k : ℕ) → k < 1024 → None ≡ block_at w (4 * k) →
    block_from (1024 - k) (4 * k) (drop (4 * k) w) ≡ block_from (1024 - (k + 1)) (4 * (k + 1)) (drop (4 * (k + 1)) w)
search_more w k lt none =
    let more : 1024 - k ≡ suc (1024 - (k + 1)) = omega arith in
    let next : 4 * k + 4 ≡ 4 * (k + 1) = omega arith in
    ap (λ n. block_from n (4 * k) (drop (4 * k) w)) more
    ∙ first_from-later (1024 - (k + 1)) (4 * k) (drop (4 * k) w)
    (sym (block_at-aligned w (4 * k) (omega arith)) ∙ sym none)
    ∙ ap (block_from (1024 - (k + 1)) (4 * k + 4)) (drop-drop 4 (4 * k) w)
    ∙ ap (λ x. block_from (1024 - (k + 1)) x (drop x w)) next

pub search_here : (w : List ℕ) (k : ℕ) (b : BlockView) → k < 1024 → Some b ≡ block_at w (4 * k)
    → block_from (1024 - k) (4 * k) (drop (4 * k) w) ≡ Some b
search_here w k b lt found =
    let more : 1024 - k ≡ suc (1024 - (k + 1)) = omega arith in
    ap (λ n. block_from n (4 * k) (drop (4 * k) w)) more
    ∙ first_from-here (1024 - (k + 1)) (4 * k) (drop (4 * k) w) b
    (sym (block_at-aligned w (4 * k) (omega arith)) ∙ sym found)

pub search_end : (w : List ℕ) (k : ℕ) → 1024 ≤ k → block_from (1024 - k) (4 * k) (drop (4 * k) w) ≡ None
search_end w k past = let none : 1024 - k ≡ 0 = omega arith in ap (λ n. block_from n (4 * k) (drop (4 * k) w)) none
    ∙ first_from-end (4 * k) (drop (4 * k) w)

-- the first byte of a block
front_byte : (items : List ℕ) (link : ℤ) → get_or (bytes_of (frame items link)) 0 0 ≡ 0xd3
unfolding frame word_bytes
front_byte items link = refl

-- the first byte of a block that stands in a window
pub first_byte : (w : List ℕ) (x : ℕ) (b : BlockView) → BlockAt w x b → get_or w x 0 ≡ 0xd3
first_byte w x b at =
    let front : get_or (drop x w) 0 0 ≡ 0xd3 =
    sym (get_or-take (block_size b) (drop x w) 0 0 (omega arith))
    ∙ ap (λ p. get_or p 0 0) at.stands.spelled ∙ front_byte b.items b.link in
    ap (λ k. get_or w k 0) (omega arith) ∙ sym (get_or-drop x w 0 0) ∙ front

-- a window without that byte below 4096 has no first block
pub unbegun : (w piece : List ℕ) (n : ℕ) (r : Option ℕ) → n ≡ min 4096 (length w) → piece ≡ slice_range w 0 (0 + n)
    → IsFirstByte (is_byte 0xd3) piece r → is_some r ≡ false → first_block w ≡ None
unbegun w piece n None is read no_place none = first_block-nowhere w (λ x b lt at.
    let room = BlockAt-room w x b at in
    let size : 0 + n - 0 ≡ n = omega arith in
    let front : piece ≡ take n w = read ∙ ap (λ k. take k (drop 0 w)) size in
    let long : length piece ≡ min n (length w) = ap length front ∙ length-take n w in
    no_place x (omega arith) (omega arith) (eq-eqb (get_or piece x 0) 0xd3
    (ap (λ p. get_or p x 0) front ∙ get_or-take n w x 0 (omega arith) ∙ first_byte w x b at)))
unbegun w piece n (Some k) is read first some = absurd cc
