-- What the reader answers, against the reader of the definitions.
use Rattle.std.proofs.Common.{◌≡◌, ℕ, zero, suc, ◌+◌, ◌-◌, ◌*◌, ◌%◌, ◌^◌, ◌<◌, ◌≤◌, cond, ℤ, List, [], ◌∷◌, ◌++◌, length, take, drop, get_or, Option, Some, None, refl, sym, ap, subst, ◌∙◌, arith, inl, inr}
use Rattle.std.proofs.lemmas.List.{take-append-drop}
use Rattle.std.proofs.lemmas.Bool.{eq-eqb, ne_eqb, cases_eq}
use Rattle.std.proofs.lemmas.Option.{none-some}
use Rattle.std.proofs.Math.Facts.{Fits-of_z, sfits_to_z}
use Rattle.std.specs.Prelude.{FitsSigned, IfSome}
use Rattle.std.specs.Int.{cast_unsigned, cast_signed, w32}
use Rattle.std.specs.Option.{option_and_then}
use Rattle.block_codec.specs.Words.{word_of, words_of, AreWords}
use Rattle.block_codec.specs.Items.{AreItems, items_of}
use Rattle.block_codec.specs.declared.items.Item.{Item}
use Rattle.std.specs.List.{Contains}
use Rattle.block_codec.specs.Blocks.{BlockView, start_word, frame, block_size, IsBlock, Begins, IsWholeBlock}
use Rattle.block_codec.specs.Reading.{item_words, framed_block, begun_block, front_block}
use Rattle.block_codec.specs.Reading.{framed_words, IsFramed, view_of}
use Rattle.block_codec.proofs.WordLemmas.{AreBytes, AreBytes-take, are_bytes-true, length-words_of, get_or-words_of}
use Rattle.block_codec.proofs.ItemLemmas.{IsItemOf-from_contains}
use Rattle.block_codec.proofs.FrameLemmas.{within, IsFramed-from_found, frame-start, item_words-frame}
use Rattle.block_codec.proofs.BlockLemmas.{word_of-take, length-block, Begins-from_block, front_block-stands, words_of-front}

-- a number that was found is that of framed words behind the start word
found_words : (ws : List ℕ) (n : ℕ) → framed_words ws ≡ Some n → (get_or ws 0 0 ≡ start_word) × (item_words ws ≡ Some n)
found_words ws n e =
    elim (cases_eq (get_or ws 0 0) start_word) [
      | inl start ↦ (start, ap (λ t. cond t (item_words ws) None) (sym (eq-eqb _ _ start)) ∙ e)
      | inr other ↦ absurd (none-some n (ap (λ t. cond t (item_words ws) None) (sym (ne_eqb _ _ other)) ∙ e))
    ]

pub framed-from_found : (ws : List ℕ) (r : Option ℕ) → r ≡ framed_words ws → IfSome r (λ n. IsFramed ws n)
framed-from_found ws None e = tt
framed-from_found ws (Some n) e = IsFramed-from_found ws n (found_words ws n (sym e)).1

-- the words that the reader finds are the block at the front
pub front_block-framed : (x n : ℕ) (bytes ws : List ℕ) → AreBytes bytes → ws ≡ words_of (take 640 bytes)
    → Some n ≡ framed_words ws →
    Some (view_of x ws n) ≡ front_block x bytes
unfolding front_block
front_block-framed x n bytes ws are is found =
    let (start, items) = found_words ws n (sym found) in
    let room : 0 < length ws = within ws 0 4294958802 start in
    let long = ap length is ∙ length-words_of (take 640 bytes) in
    let first : get_or ws 0 0 ≡ word_of bytes =
    ap (λ xs. get_or xs 0 0) is ∙ get_or-words_of (take 640 bytes) 0 (omega arith)
    ∙ word_of-take 640 bytes (omega arith) in
    let test = are_bytes-true (take (4 * n + 16) bytes) (AreBytes-take (4 * n + 16) bytes are) in
    sym (ap (λ t. begun_block t x bytes) (eq-eqb _ start_word (sym first ∙ start))
    ∙ ap (λ xs. option_and_then (framed_block x bytes xs) (item_words xs)) (sym is)
    ∙ ap (option_and_then (framed_block x bytes ws)) items
    ∙ ap (λ t. cond t (Some (view_of x ws n)) None) test)

-- words that begin with a block's are found
pub framed_words-begins : (x : ℕ) (bytes ws : List ℕ) (b : BlockView) → ws ≡ words_of (take 640 bytes)
    → Begins x bytes b → framed_words ws ≡ Some (length b.items)
framed_words-begins x bytes ws b is begins =
    let p = take (block_size b) bytes in
    let rest = drop (block_size b) bytes in
    let long = length-block p b.items b.link begins.stands in
    let few = begins.stands.few in
    let more = words_of (take (640 - length p) rest) in
    let words : ws ≡ frame b.items b.link ++ more =
    is ∙ ap (λ bs. words_of (take 640 bs)) (sym (take-append-drop (block_size b) bytes))
    ∙ words_of-front 640 p b.items rest b.link (omega arith) begins.stands in
    ap framed_words words
    ∙ ap (λ t. cond t (item_words (frame b.items b.link ++ more)) None)
    (eq-eqb _ start_word (frame-start b.items b.link more))
    ∙ item_words-frame b.items b.link more begins.stands.whole

none_unless : (o : Option BlockView) → ((b : BlockView) → o ≡ Some b → ⊥) → None ≡ o
none_unless None h = refl
none_unless (Some b) h = absurd (h b refl)

-- where no number is found, no block is at the front
pub front_block-none : (x : ℕ) (bytes ws : List ℕ) → ws ≡ words_of (take 640 bytes) → None ≡ framed_words ws
    → None ≡ front_block x bytes
front_block-none x bytes ws is none =
    none_unless (front_block x bytes)
    (λ b e. none-some _ (none ∙ framed_words-begins x bytes ws b is (front_block-stands x bytes b e)))

-- where no number is found, no front of the bytes is a block
pub no_block_in_front : (bytes ws : List ℕ) → ws ≡ words_of (take 640 bytes) → None ≡ framed_words ws
    → (n : ℕ) (items : List ℕ) (link : ℤ) → IsBlock (take n bytes) items link → ⊥
no_block_in_front bytes ws is none n items link block =
    none-some _ (none ∙ framed_words-begins 0 bytes ws (record { at = 0; items = items; link = link }) is
    (Begins-from_block 0 n bytes items link block))

pub AreWords-from_each : (ws : List ℕ) → ((k : ℕ) → get_or ws k 0 < 2 ^ 32) → AreWords ws
AreWords-from_each [] h = tt
AreWords-from_each (w ∷ ws) h = (h 0, AreWords-from_each ws (λ k. h (suc k)))

pub AreWords-take : (n : ℕ) (ws : List ℕ) → AreWords ws → AreWords (take n ws)
AreWords-take zero ws h = tt
AreWords-take (suc n) [] h = tt
AreWords-take (suc n) (w ∷ ws) h = (h.0, AreWords-take n ws h.1)

pub AreWords-drop : (n : ℕ) (ws : List ℕ) → AreWords ws → AreWords (drop n ws)
AreWords-drop zero ws h = h
AreWords-drop (suc n) [] h = tt
AreWords-drop (suc n) (w ∷ ws) h = AreWords-drop n ws h.1

-- the parts of a block that was made of whole items
pub IsWhole-made : (at : ℕ) (items : List ℕ) (link : ℤ) → AreItems items → length items ≤ 156 → AreWords items
    → FitsSigned w32 link → at % 4 ≡ 0 → at < 2 ^ 24 →
    IsWholeBlock (record { at = at; items = items; link = cast_signed w32 (cast_unsigned w32 link) })
IsWhole-made at items link whole few words fits aligned near =
    record {
      whole = whole;
      few = few;
      words = words;
      fits = sfits_to_z {w = w32} (Fits-of_z fits);
      aligned = aligned;
      near = near;
    }

-- a word of an item of a block is one of the block's words
pub item_word-room : (u v : BlockView) (xs : List ℕ) (item : Item) (k : ℕ) → IsWholeBlock u → u ≡ v → xs ≡ u.items
    → Contains (items_of v.items) item → k < item.words →
    item.first + k < length xs + 4
item_word-room u v xs item k whole same is among lt =
    let here : Contains (items_of u.items) item =
    subst (λ (b : BlockView). Contains (items_of b.items) item) (sym same) among in
    let inside = (IsItemOf-from_contains u.items item whole.whole here).inside in
    let long = ap length is in
    omega arith

-- a word of an item of a block is one of the block's words, as callers see them
pub item_word-within : (u v : BlockView) (xs : List ℕ) (item : Item) (k : ℕ) → IsWholeBlock u → u ≡ v → xs ≡ u.items
    → Contains (items_of v.items) item → k < item.words → item.first + k < length v.items + 4
item_word-within u v xs item k whole same is among lt =
    let room = item_word-room u v xs item k whole same is among lt in
    let long = ap length is in
    let more = ap (λ (b : BlockView). length b.items) same in
    omega arith
