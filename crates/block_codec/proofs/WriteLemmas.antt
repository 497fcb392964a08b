-- What a writer of blocks checks and writes.
use Rattle.std.proofs.Common.{◌≡◌, ◌≢◌, ℕ, zero, suc, ◌+◌, ◌-◌, ◌%◌, ◌<◌, ◌≤◌, ℤ, List, [], ◌∷◌, ◌++◌, length, take, drop, get_or, sym, ap, subst, ◌∙◌, inl, inr, arith, length-take, length-drop, append_assoc}
use Rattle.std.proofs.lemmas.List.{append-nil, take_all, drop_more, length-take-le}
use Rattle.std.proofs.lemmas.List.Concat.{flat_map-append}
use Rattle.std.proofs.Math.Seq.{take-add}
use Rattle.std.proofs.lemmas.Bool.{cases_order}
use Rattle.std.specs.Int.{cast_unsigned, w32}
use Rattle.block_codec.specs.Words.{word_bytes, bytes_of}
use Rattle.block_codec.specs.Items.{type_byte, size_of, AreItemsAfter, AreItems}
use Rattle.block_codec.specs.Blocks.{start_word, end_word, last_item, frame}
use Rattle.block_codec.specs.Writing.{IsBadAt}
use Rattle.block_codec.proofs.ItemLemmas.{AreItemsAfter-append, room_for}

-- as many words as a begun item still wants end it
ended_item : (k : ℕ) (ws : List ℕ) → length ws ≡ k → AreItemsAfter k ws
ended_item zero [] e = tt
ended_item zero (w ∷ ws) e = absurd (omega arith)
ended_item (suc k) [] e = absurd (omega arith)
ended_item (suc k) (w ∷ ws) e = ended_item k ws (omega arith)

one_item : (h : ℕ) (ws : List ℕ) (size n : ℕ) → type_byte h ≢ 255 → size ≡ size_of h → size ≡ suc n → length ws ≡ n
    → AreItems (h ∷ ws)
one_item h ws size n kind is is_suc long = (kind, omega arith, ended_item (size_of h - 1) ws (omega arith))

-- a whole item more was checked
pub checked-more : (ws : List ℕ) (at size : ℕ) → at < length ws → (get_or ws at 0 % 256 ≡ 255 → ⊥)
    → size ≡ size_of (get_or ws at 0) → (size ≡ 0 → ⊥) → at + size ≤ length ws →
    AreItems (take at ws) → AreItems (take (at + size) ws)
checked-more ws at size lt kind is some room whole =
    let tail = take (size - 1) (drop (at + 1) ws) in
    let is_suc : size ≡ suc (size - 1) = omega arith in
    let front : take size (drop at ws) ≡ get_or ws at 0 ∷ tail =
    ap (take size) (drop_more ws at 0 lt) ∙ ap (λ k. take k (get_or ws at 0 ∷ drop (at + 1) ws)) is_suc in
    let long : length tail ≡ size - 1 =
    length-take-le (size - 1) (drop (at + 1) ws) (let rest = length-drop (at + 1) ws in omega (arith, rest)) in
    let item = one_item (get_or ws at 0) tail size (size - 1) kind is is_suc long in
    subst AreItems (sym (take-add at size ws))
    (AreItemsAfter-append 0 (take at ws) (take size (drop at ws)) whole (subst AreItems (sym front) item))

-- what follows whole items in whole items is whole items
rest_are : (k : ℕ) (xs ys : List ℕ) → AreItemsAfter k xs → AreItemsAfter k (xs ++ ys) → AreItems ys
rest_are zero [] ys x h = h
rest_are (suc k) [] ys x h = absurd x
rest_are zero (w ∷ xs) ys x h = rest_are (size_of w - 1) xs ys x.2 h.2
rest_are (suc k) (w ∷ xs) ys x h = rest_are k xs ys x h

-- where whole items go on past a place at which an item begins, that item is good
not_bad : (ws : List ℕ) (i j : ℕ) → i < j → j ≤ length ws → AreItems (take j ws) → IsBadAt ws i → ⊥
not_bad ws i j lt room whole bad =
    let split : take j ws ≡ take i ws ++ take (j - i) (drop i ws) =
    ap (λ k. take k ws) (omega arith) ∙ take-add i (j - i) ws in
    let rest = rest_are 0 (take i ws) (take (j - i) (drop i ws)) bad.before (subst AreItems split whole) in
    let is_suc : j - i ≡ suc (j - i - 1) = omega arith in
    let front : take (j - i) (drop i ws) ≡ get_or ws i 0 ∷ take (j - i - 1) (drop (i + 1) ws) =
    ap (take (j - i)) (drop_more ws i 0 bad.inside) ∙ ap (λ k. take k (get_or ws i 0 ∷ drop (i + 1) ws)) is_suc in
    let item : AreItems (get_or ws i 0 ∷ take (j - i - 1) (drop (i + 1) ws)) = subst AreItems front rest in
    let fits = room_for (size_of (get_or ws i 0) - 1) (take (j - i - 1) (drop (i + 1) ws)) item.2 in
    let long = length-take (j - i - 1) (drop (i + 1) ws) in
    let some = item.1 in
    elim bad.bad [
      | inl last ↦ item.0 last
      | inr other ↦ elim other [ inl none ↦ omega arith | inr past ↦ omega arith ]
    ]

-- an item of whole items is good
pub IsBadAt-whole : (ws : List ℕ) (i : ℕ) → AreItems ws → IsBadAt ws i → ⊥
IsBadAt-whole ws i whole bad =
    not_bad ws i (length ws) bad.inside (omega arith)
    (subst AreItems (sym (take_all (length ws) ws (omega arith))) whole) bad

-- items have one bad place at most
pub IsBadAt-unique : (ws : List ℕ) (i j : ℕ) → IsBadAt ws i → IsBadAt ws j → i ≡ j
IsBadAt-unique ws i j a b =
    elim (cases_order i j) [
      | inl same ↦ same
      | inr other ↦ elim other [
        | inl less ↦ absurd (not_bad ws i j less (let lt = b.inside in omega (arith, lt)) b.before a)
        | inr more ↦ absurd (not_bad ws j i more (let lt = a.inside in omega (arith, lt)) a.before b)
      ]
    ]

regroup : (a b c d e : List ℕ) → (((a ++ b) ++ c) ++ d) ++ e ≡ a ++ (b ++ (c ++ (d ++ (e ++ []))))
regroup a b c d e = simp (append_assoc, append-nil)

-- what was written is the block's bytes
pub frame-written : (items : List ℕ) (link : ℤ) (k : ℕ) → length items ≤ k →
    word_bytes start_word ++ bytes_of (take k items) ++ word_bytes (last_item (length items))
    ++ word_bytes (cast_unsigned w32 link) ++ word_bytes end_word ≡ bytes_of (frame items link)
unfolding frame
frame-written items link k all =
    let last = last_item (length items) in
    ap (λ xs. word_bytes start_word ++ bytes_of xs ++ word_bytes last ++ word_bytes (cast_unsigned w32 link)
    ++ word_bytes end_word) (take_all k items all)
    ∙ regroup (word_bytes start_word) (bytes_of items) (word_bytes last) (word_bytes (cast_unsigned w32 link))
    (word_bytes end_word)
    ∙ ap (λ xs. word_bytes start_word ++ xs)
    (sym (flat_map-append word_bytes items (last ∷ cast_unsigned w32 link ∷ end_word ∷ [])))

-- the bytes that five writes leave, one after the other
pub all_written : (items a b c d : List ℕ) (link : ℤ) (k last word : ℕ) → length items ≤ k
    → a ≡ word_bytes start_word ++ bytes_of (take k items) →
    last ≡ last_item (length items) → b ≡ a ++ word_bytes last → word ≡ cast_unsigned w32 link
    → c ≡ b ++ word_bytes word → d ≡ c ++ word_bytes end_word →
    d ≡ bytes_of (frame items link)
all_written items a b c d link k last word all is_a is_last is_b is_word is_c is_d =
    is_d ∙ ap (λ xs. xs ++ word_bytes end_word)
    (is_c ∙ ap (λ w. b ++ word_bytes w) is_word ∙ ap (λ xs. xs ++ word_bytes (cast_unsigned w32 link))
    (is_b ∙ ap (λ w. a ++ word_bytes w) is_last ∙ ap (λ xs. xs ++ word_bytes (last_item (length items))) is_a))
    ∙ frame-written items link k all
