-- Pages of an image, and files that are written block by block.
use Rattle.std.proofs.Common.{◌≡◌, ℕ, zero, suc, ◌^◌, get_or, ◌+◌, ◌-◌, ◌*◌, ◌<◌, ◌≤◌, min, List, [], ◌∷◌, ◌++◌, length, take, drop, map, arith, refl, sym, ap, subst, ◌∙◌}
use Rattle.std.specs.Prelude.{replicate, slice_range}
use Rattle.std.proofs.Math.Seq.{drop-append-add, take-append_seam}
use Rattle.uf2_place.specs.Blocks.{IsUf2, written_block}
use Rattle.uf2_place.proofs.ReadBackLemmas.{written-size}
use Rattle.std.specs.List.{flat_map, range_with_len}
use Rattle.std.proofs.lemmas.List.{take_min, length-drop, drop-replicate, append_assoc, append-nil, length-append, length-replicate, length-take}
use Rattle.std.proofs.lemmas.List.Concat.{flat_map-append, flat_map-cons}
use Rattle.std.proofs.lemmas.List.FromFn.{map-range_with_len_more, length-map-range_with_len, get_or-map-range_with_len}
use Rattle.pico_board.specs.declared.window.TheConstants.{MOST_FLASH_BYTES}
use Rattle.uf2_place.specs.declared.block.Uf2.{Uf2}
use Rattle.uf2_place.specs.Files.{IsKept, page_count, file_block, file_bytes}

front-more : (old xs new : List ℕ) → IsKept (old ++ xs) new → IsKept old new
front-more [] xs new e = refl
front-more (o ∷ old) xs [] e = cc e
front-more (o ∷ old) xs (n ∷ new) e =
    let head : n ≡ o = cc e in
    let tail : take (length (old ++ xs)) new ≡ old ++ xs = cc e in
    rw (head, front-more old xs new tail) refl

-- what stood at the front of a list and more, stands at the front
pub kept-more : (old xs mid new : List ℕ) → mid ≡ old ++ xs → IsKept mid new → IsKept old new
kept-more old xs mid new is kept = front-more old xs new (subst (λ front. IsKept front new) is kept)

part-taken : (image : List ℕ) (start n : ℕ) → take (min (length image) (start + n) - start) (drop start image)
    ≡ take (start + n - start) (drop start image)
part-taken image start n =
    let e : min (length image) (start + n) - start ≡ min (start + n - start) (length (drop start image)) =
    omega (arith, length-drop start image) in
    rw e (take_min (start + n - start) (drop start image))

-- the bytes of an image from a place on, as many as there are but at most n, and 0xff behind them
pub page-filled : (image : List ℕ) (start end n : ℕ) → end ≡ min (length image) (start + n)
    → slice_range image start end ++ drop (length (slice_range image start end)) (replicate n 255)
    ≡ slice_range image start (start + n) ++ replicate (n - length (slice_range image start (start + n))) 255
page-filled image start end n is =
    let same : slice_range image start end ≡ slice_range image start (start + n) =
    ap (λ k. take (k - start) (drop start image)) is ∙ part-taken image start n in
    subst (λ (part : List ℕ). part ++ drop (length part) (replicate n 255)
    ≡ slice_range image start (start + n) ++ replicate (n - length (slice_range image start (start + n))) 255)
    (sym same)
    (ap (λ (fill : List ℕ). slice_range image start (start + n) ++ fill)
    (drop-replicate (length (slice_range image start (start + n))) n 255))

-- one more block
pub file-more : (write : Uf2 → List ℕ) (f : ℕ → Uf2) (old now new : List ℕ) (k : ℕ) (b : Uf2)
    → now ≡ old ++ flat_map write (map f (range_with_len 0 k)) → b ≡ f k → new ≡ now ++ write b
    → new ≡ old ++ flat_map write (map f (range_with_len 0 (k + 1)))
file-more write f old now new k b so_far block added =
    let one : flat_map write (b ∷ []) ≡ write b = append-nil (write b) in
    let more : flat_map write (map f (range_with_len 0 (k + 1)))
    ≡ flat_map write (map f (range_with_len 0 k)) ++ write (f k) =
    ap (flat_map write) (map-range_with_len_more f 0 k k (omega arith))
    ∙ flat_map-append write (map f (range_with_len 0 k)) (f k ∷ [])
    ∙ ap (λ xs. flat_map write (map f (range_with_len 0 k)) ++ xs) (subst (λ (c : Uf2). flat_map write (c ∷ [])
    ≡ write c) block one) in
    let before : List ℕ = flat_map write (map f (range_with_len 0 k)) in
    added ∙ rw (so_far, block) (append_assoc old before (write (f k))) ∙ ap (λ (xs : List ℕ). old ++ xs) (sym more)

-- the pieces of a list of pieces that are all as long
pub even-piece : (write : Uf2 → List ℕ) (n : ℕ) (bs : List Uf2) (i : ℕ) (d : Uf2)
    → ((j : ℕ) → j < length bs → length (write (get_or bs j d)) ≡ n) → i < length bs
    → slice_range (flat_map write bs) (n * i) (n * i + n) ≡ write (get_or bs i d)
even-piece write n [] i d even inside = absurd (omega (arith, inside))
even-piece write n (b ∷ bs) zero d even inside =
    let long : length (write b) ≡ n = even 0 (omega arith) in
    let start : n * 0 ≡ 0 = omega arith in
    let size : 0 + n - 0 ≡ n = omega arith in
    rw (start, size) (subst (λ k. take k (flat_map write (b ∷ bs)) ≡ write b) long
    (ap (take (length (write b))) (flat_map-cons write b bs) ∙ take-append_seam (write b) (flat_map write bs)))
even-piece write n (b ∷ bs) (suc i) d even inside =
    let long : length (write b) ≡ n = even 0 (omega arith) in
    let start : n * suc i ≡ n + n * i = omega arith in
    let size : n + n * i + n - (n + n * i) ≡ n * i + n - n * i = omega arith in
    let past : drop (n + n * i) (flat_map write (b ∷ bs)) ≡ drop (n * i) (flat_map write bs) =
    subst (λ k. drop (k + n * i) (flat_map write (b ∷ bs)) ≡ drop (n * i) (flat_map write bs)) long
    (ap (drop (length (write b) + n * i)) (flat_map-cons write b bs)
    ∙ drop-append-add (write b) (flat_map write bs) (n * i)) in
    rw (start, size) (ap (take (n * i + n - n * i)) past
    ∙ even-piece write n bs i d (λ j within. even (suc j) (omega (arith, within))) (omega (arith, inside)))

filled-size : (part : List ℕ) (n : ℕ) → length part ≤ n → length (part ++ replicate (n - length part) 255) ≡ n
filled-size part n short =
    omega (arith, length-append part (replicate (n - length part) 255), length-replicate {A = ℕ} (n - length part) 255)

-- the blocks of a file are ones that are read
pub file_block-is : (image : List ℕ) (family i : ℕ) → length image ≤ MOST_FLASH_BYTES → family < 2 ^ 32
    → i < page_count (length image) → IsUf2 (file_block image family i)
file_block-is image family i few low inside = record {
  flags = omega arith;
  address = omega arith;
  aligned = omega arith;
  some = omega arith;
  few = omega arith;
  number = inside;
  family = low;
  page = filled-size (slice_range image (256 * i) (256 * i + 256)) 256
      (omega (arith, length-take (256 * i + 256 - 256 * i) (drop (256 * i) image)));
}

pub file-piece : (image : List ℕ) (family i : ℕ) → length image ≤ MOST_FLASH_BYTES → family < 2 ^ 32
    → i < page_count (length image)
    → slice_range (file_bytes image family) (512 * i) (512 * i + 512) ≡ written_block (file_block image family i)
file-piece image family i few low inside =
    let count = page_count (length image) in
    let f = file_block image family in
    let blocks = map f (range_with_len 0 count) in
    let size = length-map-range_with_len f 0 count in
    let at : (j : ℕ) → j < count → get_or blocks j (f 0) ≡ f j =
    λ j within. get_or-map-range_with_len f 0 count j j (f 0) within (omega arith) in
    even-piece written_block 512 blocks i (f 0)
    (λ j within. ap (λ b. length (written_block b)) (at j (omega (arith, within, size)))
    ∙ written-size (f j) (file_block-is image family j few low (omega (arith, within, size)))) (omega
    (arith, inside, size))
    ∙ ap written_block (at i inside)
