-- What the reader of words finds, and what it finds in a block's words.
use Rattle.std.proofs.Common.{◌≡◌, ℕ, zero, suc, ◌+◌, ◌-◌, ◌^◌, ◌<◌, ◌≤◌, ◌&&◌, Bool, true, false, eqb, ℤ, List, [], ◌∷◌, ◌++◌, length, take, drop, get_or, Some, refl, sym, ap, subst, ◌∙◌, arith, length-append, append_assoc}
use Rattle.std.proofs.lemmas.List.{append-nil, get_or_append_left, length-take-le, get_or-append-add, take_at}
use Rattle.std.proofs.lemmas.Option.{cond_some, option_and_then_some}
use Rattle.std.proofs.lemmas.Int.{of_z-to_z}
use Rattle.std.proofs.lemmas.Bool.{eq-eqb}
use Rattle.std.proofs.Math.Facts.{Fits-of_z}
use Rattle.std.specs.Prelude.{FitsSigned}
use Rattle.std.specs.Int.{cast_unsigned, cast_signed, w32}
use Rattle.std.specs.Option.{option_and_then}
use Rattle.block_codec.specs.Words.{AreWords}
use Rattle.block_codec.specs.Items.{type_byte, AreItems}
use Rattle.block_codec.specs.Blocks.{start_word, end_word, last_item, frame}
use Rattle.block_codec.specs.Reading.{words_before, if_ended, item_words}
use Rattle.block_codec.specs.Reading.{IsFramed}
use Rattle.block_codec.proofs.ItemLemmas.{Ends, Ends-from_found, words_before-items}

-- a word that is not 0 stands inside
pub within : (ws : List ℕ) (k w : ℕ) → get_or ws k 0 ≡ suc w → k < length ws
within [] k w e = cc
within (x ∷ ws) zero w e = omega arith
within (x ∷ ws) (suc k) w e = let ih = within ws k w e in omega (arith, ih)

both : (a b : Bool) → (a && b) ≡ true → (a ≡ true) × (b ≡ true)
both true true e = (refl, refl)
both true false e = cc
both false b e = cc

pub eqb_true : (a b : ℕ) → eqb a b ≡ true → a ≡ b
eqb_true a b e = grind arith

IsFramed-ended : (ws : List ℕ) (n : ℕ) → Ends 0 (drop 1 ws) n → get_or ws (n + 1) 0 ≡ last_item n
    → get_or ws (n + 3) 0 ≡ end_word → IsFramed ws n
IsFramed-ended ws n ends last end_ =
    let room = within ws (n + 3) 2870097272 end_ in
    record { inside = omega (arith, room); items = ends.items; last = last; end_ = end_ }

-- what `item_words` finds
pub IsFramed-from_found : (ws : List ℕ) (n : ℕ) → item_words ws ≡ Some n → IsFramed ws n
unfolding item_words
IsFramed-from_found ws n e =
    option_and_then_some (if_ended ws) (words_before 0 (drop 1 ws)) n e
    (λ m found ended.
    let (tests, same) = cond_some _ m n ended in
    let (last, end_) = both (eqb (get_or ws (m + 1) 0) (last_item m)) (eqb (get_or ws (m + 3) 0) end_word) tests in
    subst (λ k. IsFramed ws k) same
    (IsFramed-ended ws m (Ends-from_found 0 (drop 1 ws) m found) (eqb_true _ _ last) (eqb_true _ _ end_)))

pub length-frame : (items : List ℕ) (link : ℤ) → length (frame items link) ≡ length items + 4
unfolding frame
length-frame items link = let e =
    length-append items (last_item (length items) ∷ cast_unsigned w32 link ∷ end_word ∷ []) in omega (arith, e)

-- a block's words are the start word, and then these
frame_parts : (items : List ℕ) (link : ℤ) (rest : List ℕ) →
    frame items link ++ rest ≡ start_word
    ∷ (items ++ (last_item (length items) ∷ cast_unsigned w32 link ∷ end_word ∷ rest))
unfolding frame
frame_parts items link rest =
    ap (λ xs. start_word ∷ xs) (append_assoc items
    (last_item (length items) ∷ cast_unsigned w32 link ∷ end_word ∷ []) rest)

pub frame-items : (items : List ℕ) (link : ℤ) (rest : List ℕ)
    → take (length items) (drop 1 (frame items link ++ rest)) ≡ items
frame-items items link rest =
    ap (λ xs. take (length items) (drop 1 xs)) (frame_parts items link rest)
    ∙ take_at items (last_item (length items) ∷ cast_unsigned w32 link ∷ end_word ∷ rest) (length items) refl

-- the words after the items
after_items : (items more : List ℕ) (k : ℕ)
    → get_or (start_word ∷ (items ++ more)) (length items + suc k) 0 ≡ get_or more k 0
after_items items more k =
    let e : length items + suc k ≡ suc (length items + k) = omega arith in
    rw e (get_or-append-add items more k 0)

pub frame-last : (items : List ℕ) (link : ℤ) (rest : List ℕ)
    → get_or (frame items link ++ rest) (length items + 1) 0 ≡ last_item (length items)
frame-last items link rest =
    ap (λ xs. get_or xs (length items + 1) 0) (frame_parts items link rest) ∙ after_items items _ 0

pub frame-link : (items : List ℕ) (link : ℤ) (rest : List ℕ)
    → get_or (frame items link ++ rest) (length items + 2) 0 ≡ cast_unsigned w32 link
frame-link items link rest =
    ap (λ xs. get_or xs (length items + 2) 0) (frame_parts items link rest) ∙ after_items items _ 1

pub frame-end : (items : List ℕ) (link : ℤ) (rest : List ℕ)
    → get_or (frame items link ++ rest) (length items + 3) 0 ≡ end_word
frame-end items link rest =
    ap (λ xs. get_or xs (length items + 3) 0) (frame_parts items link rest) ∙ after_items items _ 2

pub frame-start : (items : List ℕ) (link : ℤ) (rest : List ℕ) → get_or (frame items link ++ rest) 0 0 ≡ start_word
frame-start items link rest = ap (λ xs. get_or xs 0 0) (frame_parts items link rest)

-- the word at a place among the items
pub frame-item : (items : List ℕ) (link : ℤ) (k : ℕ) → k < length items
    → get_or (frame items link) (k + 1) 0 ≡ get_or items k 0
unfolding frame
frame-item items link k lt =
    let e : k + 1 ≡ suc k = omega arith in
    rw e (get_or_append_left items (last_item (length items) ∷ cast_unsigned w32 link ∷ end_word ∷ []) 0 k lt)

bare : (items : List ℕ) (link : ℤ) → frame items link ++ [] ≡ frame items link
bare items link = append-nil (frame items link)

-- the words of a block by their places
pub word-start : (items : List ℕ) (link : ℤ) (k : ℕ) → k ≡ 0 → start_word ≡ get_or (frame items link) k 0
word-start items link k e =
    sym (ap (λ n. get_or (frame items link) n 0) e ∙ ap (λ ws. get_or ws 0 0) (sym (bare items link))
    ∙ frame-start items link [])

pub word-item : (items : List ℕ) (link : ℤ) (k : ℕ) → (k ≡ 0 → ⊥) → k ≤ length items
    → get_or items (k - 1) 0 ≡ get_or (frame items link) k 0
word-item items link k some room =
    let e : (k - 1) + 1 ≡ k = omega arith in
    sym (ap (λ n. get_or (frame items link) n 0) (sym e) ∙ frame-item items link (k - 1) (omega arith))

pub word-last : (items : List ℕ) (link : ℤ) (k : ℕ) → k ≡ length items + 1
    → last_item (length items) ≡ get_or (frame items link) k 0
word-last items link k e =
    sym (ap (λ n. get_or (frame items link) n 0) e ∙ ap (λ ws. get_or ws (length items + 1) 0) (sym (bare items link))
    ∙ frame-last items link [])

pub word-link : (items : List ℕ) (link : ℤ) (k : ℕ) → k ≡ length items + 2
    → cast_unsigned w32 link ≡ get_or (frame items link) k 0
word-link items link k e =
    sym (ap (λ n. get_or (frame items link) n 0) e ∙ ap (λ ws. get_or ws (length items + 2) 0) (sym (bare items link))
    ∙ frame-link items link [])

pub word-end : (items : List ℕ) (link : ℤ) (k : ℕ) → k ≡ length items + 3 → end_word ≡ get_or (frame items link) k 0
word-end items link k e =
    sym (ap (λ n. get_or (frame items link) n 0) e ∙ ap (λ ws. get_or ws (length items + 3) 0) (sym (bare items link))
    ∙ frame-end items link [])

if_ended-found : (ws : List ℕ) (n : ℕ) → get_or ws (n + 1) 0 ≡ last_item n → get_or ws (n + 3) 0 ≡ end_word
    → if_ended ws n ≡ Some n
if_ended-found ws n last end_ = rw (eq-eqb _ _ last, eq-eqb _ _ end_) refl

-- the reader finds the words of a block
pub item_words-frame : (items : List ℕ) (link : ℤ) (rest : List ℕ) → AreItems items
    → item_words (frame items link ++ rest) ≡ Some (length items)
unfolding item_words
item_words-frame items link rest whole =
    let last : type_byte (last_item (length items)) ≡ 255 = omega arith in
    let found : words_before 0 (drop 1 (frame items link ++ rest)) ≡ Some (length items) =
    ap (λ xs. words_before 0 (drop 1 xs)) (frame_parts items link rest)
    ∙ words_before-items 0 items (last_item (length items)) (cast_unsigned w32 link ∷ end_word ∷ rest) whole last in
    ap (option_and_then (if_ended (frame items link ++ rest))) found
    ∙ if_ended-found (frame items link ++ rest) (length items) (frame-last items link rest) (frame-end items link rest)

-- three words after the first n
three_more : (n : ℕ) (ws : List ℕ) → n + 3 ≤ length ws
    → take (n + 3) ws ≡ take n ws ++ (get_or ws n 0 ∷ get_or ws (n + 1) 0 ∷ get_or ws (n + 2) 0 ∷ [])
three_more zero [] h = absurd (omega arith)
three_more zero (a ∷ []) h = absurd (omega arith)
three_more zero (a ∷ b ∷ []) h = absurd (omega arith)
three_more zero (a ∷ b ∷ c ∷ ws) h = refl
three_more (suc n) [] h = absurd (omega arith)
three_more (suc n) (a ∷ ws) h =
    let e : suc n + 3 ≡ suc (n + 3) = omega arith in
    let f : suc n + 1 ≡ suc (n + 1) = omega arith in
    let g : suc n + 2 ≡ suc (n + 2) = omega arith in
    rw (e, f, g) (ap (λ xs. a ∷ xs) (three_more n ws (omega arith)))

framed_is : (s n : ℕ) (ws : List ℕ) → s ≡ start_word → n + 3 ≤ length ws → get_or ws n 0 ≡ last_item n
    → get_or ws (n + 1) 0 < 2 ^ 32 → get_or ws (n + 2) 0 ≡ end_word →
    s ∷ take (n + 3) ws ≡ start_word
    ∷ (take n ws ++ (last_item (length (take n ws)) ∷ cast_unsigned w32 (cast_signed w32 (get_or ws (n + 1) 0))
    ∷ end_word ∷ []))
framed_is s n ws start room last link end_ =
    let long = length-take-le n ws (omega arith) in
    let back = of_z-to_z w32 (get_or ws (n + 1) 0) link in
    let more = three_more n ws room in
    rw (start, more, last, end_, long, back) refl

-- framed words that begin with the start word are a block's words
pub frame-from_framed : (ws : List ℕ) (n : ℕ) → IsFramed ws n → get_or ws 0 0 ≡ start_word
    → get_or ws (n + 2) 0 < 2 ^ 32 →
    take (n + 4) ws ≡ frame (take n (drop 1 ws)) (cast_signed w32 (get_or ws (n + 2) 0))
unfolding frame
frame-from_framed [] n framed start link = absurd (let h = framed.inside in omega (arith, h))
frame-from_framed (s ∷ ws) n framed start link =
    let e : n + 4 ≡ suc (n + 3) = omega arith in
    let f : n + 1 ≡ suc n = omega arith in
    let g : n + 2 ≡ suc (n + 1) = omega arith in
    let h : n + 3 ≡ suc (n + 2) = omega arith in
    let last = rw f at framed.last in
    let end_ = rw h at framed.end_ in
    let lt = rw g at link in
    rw (e, g) (framed_is s n ws start (let room = framed.inside in omega (arith, room)) last lt end_)

pub AreWords-append : (xs ys : List ℕ) → AreWords xs → AreWords ys → AreWords (xs ++ ys)
AreWords-append [] ys x y = y
AreWords-append (w ∷ xs) ys x y = (x.0, AreWords-append xs ys x.1 y)

-- a block's words are words
pub AreWords-frame : (items : List ℕ) (link : ℤ) → length items ≤ 156 → AreWords items → FitsSigned w32 link
    → AreWords (frame items link)
unfolding frame
AreWords-frame items link few words fits =
    (omega arith, AreWords-append items _ words (omega arith, ((Fits-of_z fits).fits, (omega arith, tt))))
