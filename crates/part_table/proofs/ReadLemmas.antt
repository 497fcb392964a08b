-- What the readers of a table's words keep.
use Rattle.std.proofs.Common.{◌≡◌, ℕ, suc, ◌+◌, ◌-◌, ◌*◌, ◌/◌, ◌<◌, ◌≤◌, true, List, [], ◌∷◌, ◌++◌, length, take, drop, refl, sym, ◌∙◌, ap, arith, Option, None, Some, option_map, option_and_then, append_assoc, length-drop, get_or, slice_range, if◌then◌else◌}
use Rattle.std.proofs.lemmas.Grind.{flat_map-append}
use Rattle.std.proofs.lemmas.List.{append-nil, take_more, drop_all, drop_more, drop-drop, take-append-drop, take-append-le, length-take-le}
use Rattle.arrayvec.specs.ArrayVec.{ArrayVec}
use Rattle.block_codec.specs.Words.{bytes_of, word_bytes}
use Rattle.block_codec.proofs.WordLemmas.{length-bytes_of}
use Rattle.part_table.specs.declared.partition.Partition.{Partition}
use Rattle.part_table.specs.Fields.{has_name}
use Rattle.part_table.specs.Partitions.{name_at, name_length, name_words, name_of, partition_words, partition_from, partitions_in}

-- the bytes behind the first of a list that goes on
dropped : (xs ys : List ℕ) (count : ℕ) → count + 1 ≤ length xs → take count (drop 1 (xs ++ ys)) ≡ take count (drop 1 xs)
dropped [] ys count le = absurd (omega arith)
dropped (x ∷ xs) ys count le = take-append-le count xs ys (omega arith)

-- a name is read of its own words
trimmed_name : (count k : ℕ) (ws : List ℕ) → count + 1 ≤ 4 * k → k ≤ length ws
    → take count (drop 1 (bytes_of (take k ws))) ≡ take count (drop 1 (bytes_of ws))
trimmed_name count k ws short room =
    let long : length (bytes_of (take k ws)) ≡ 4 * k = length-bytes_of (take k ws)
    ∙ ap (λ n. 4 * n) (length-take-le k ws room) in
    let whole : bytes_of (take k ws) ++ bytes_of (drop k ws) ≡ bytes_of ws =
    sym (flat_map-append word_bytes (take k ws) (drop k ws)) ∙ ap (λ xs. bytes_of xs) (take-append-drop k ws) in
    sym (dropped (bytes_of (take k ws)) (bytes_of (drop k ws)) count (omega arith))
    ∙ ap (λ bs. take count (drop 1 bs)) whole

-- a name that was read where it stands
pub named : (flags count at k : ℕ) (ws : List ℕ) (v : ArrayVec ℕ) → has_name flags ≡ true → at ≡ name_at flags
    → k ≡ name_words flags ws → count ≡ name_length flags ws
    → at + k ≤ length ws → v.items ≡ take count (drop 1 (bytes_of (slice_range ws at (at + k))))
    → Some v ≡ name_of flags ws
named flags count at k ws v has at_is k_is count_is room is =
    let words : k ≡ (count + 4) / 4 =
    k_is ∙ ap (λ there. if there then (name_length flags ws + 4) / 4 else 0) has
    ∙ ap (λ n. (n + 4) / 4) (sym count_is) in
    let behind : k ≤ length (drop at ws) = simp length-drop (omega arith) in
    let part : at + k - at ≡ k = omega arith in
    let here : v.items ≡ take count (drop 1 (bytes_of (drop at ws))) =
    is ∙ ap (λ n. take count (drop 1 (bytes_of (take n (drop at ws))))) part
    ∙ trimmed_name count k (drop at ws) (omega arith) behind in
    let there : v.items ≡ take (name_length flags ws) (drop 1 (bytes_of (drop (name_at flags) ws))) =
    here ∙ ap (λ n. take n (drop 1 (bytes_of (drop at ws)))) count_is
    ∙ ap (λ n. take (name_length flags ws) (drop 1 (bytes_of (drop n ws)))) at_is in
    let made : Some v
    ≡ Some (record { items = take (name_length flags ws) (drop 1 (bytes_of (drop (name_at flags) ws))) }) =
    ap (λ xs. Some (record { items = xs })) there in
    made
    ∙ sym (ap (λ b. if b then Some
    (record { items = take (name_length flags ws) (drop 1 (bytes_of (drop (name_at flags) ws))) }) else None) has)

-- partitions that were read, and one more
joined : (ps : List Partition) (p : Partition) (o : Option (List Partition))
    → option_map (λ qs. ps ++ qs) (option_map (λ qs. p ∷ qs) o) ≡ option_map (λ qs. ps ++ p ∷ [] ++ qs) o
joined ps p None = refl
joined ps p (Some qs) = ap Some (sym (append_assoc ps (p ∷ []) qs))

module _ (count : ℕ) (words : List ℕ) (ps : List Partition) (n at : ℕ)
    (rest : partitions_in count words ≡ option_map (λ qs. ps ++ qs) (partitions_in n (drop at words))) where
  -- the partitions from a place on, one of which stands there or not
  abbrev from_here : ℕ → Option ℕ → Option (List Partition)
  from_here m here =
      option_map (λ qs. ps ++ qs)
      (option_and_then
      (λ k. option_map (λ qs. partition_from (drop at words) ∷ qs) (partitions_in m (drop k (drop at words)))) here)

  at_one : (m : ℕ) → n ≡ suc m → partitions_in count words ≡ from_here m (partition_words (drop at words))
  at_one m left = rest ∙ ap (λ k. option_map (λ qs. ps ++ qs) (partitions_in k (drop at words))) left

  pub one_part_more : (m size : ℕ) (ws : List ℕ) (p : Partition) → ws ≡ drop at words → n ≡ suc m
      → partition_words ws ≡ Some size → p ≡ partition_from ws
      → partitions_in count words ≡ option_map (λ qs. ps ++ p ∷ [] ++ qs) (partitions_in m (drop (at + size) words))
  one_part_more m size ws p here left some is =
      at_one m left
      ∙ ap (λ o. from_here m o) (sym (ap partition_words here) ∙ some)
      ∙ joined ps (partition_from (drop at words)) (partitions_in m (drop size (drop at words)))
      ∙ ap (λ q. option_map (λ qs. ps ++ q ∷ [] ++ qs) (partitions_in m (drop size (drop at words))))
      (sym (is ∙ ap partition_from here))
      ∙ ap (λ xs. option_map (λ qs. ps ++ p ∷ [] ++ qs) (partitions_in m xs)) (drop-drop size at words)

  pub no_part_more : (m : ℕ) (ws : List ℕ) → ws ≡ drop at words → n ≡ suc m → partition_words ws ≡ None
      → partitions_in count words ≡ None
  no_part_more m ws here left none = at_one m left ∙ ap (λ o. from_here m o) (sym (ap partition_words here) ∙ none)

  at_end : n ≡ 0 → (ws : List ℕ) → drop at words ≡ ws
      → partitions_in count words ≡ option_map (λ qs. ps ++ qs) (partitions_in 0 ws)
  at_end left ws is =
      rest ∙ ap (λ k. option_map (λ qs. ps ++ qs) (partitions_in k (drop at words))) left
      ∙ ap (λ xs. option_map (λ qs. ps ++ qs) (partitions_in 0 xs)) is

  pub all_parts : n ≡ 0 → length words ≤ at → partitions_in count words ≡ Some ps
  all_parts left past = at_end left [] (drop_all at words past) ∙ ap Some (append-nil ps)

  pub words_left : n ≡ 0 → at < length words → partitions_in count words ≡ None
  words_left left more = at_end left (get_or words at 0 ∷ drop (at + 1) words) (drop_more words at 0 more)

-- the bytes of a word more
pub bytes_more : (ws : List ℕ) (k : ℕ) → k < length ws
    → bytes_of (take k ws) ++ word_bytes (get_or ws k 0) ≡ bytes_of (take (k + 1) ws)
bytes_more ws k lt =
    ap (λ bs. bytes_of (take k ws) ++ bs) (sym (append-nil (word_bytes (get_or ws k 0))))
    ∙ sym (flat_map-append word_bytes (take k ws) (get_or ws k 0 ∷ []))
    ∙ ap (λ xs. bytes_of xs) (sym (take_more ws k 0 lt))
