-- A range of bytes with erased ones behind them, in two parts.
use Rattle.std.proofs.Common.{◌≡◌, ℕ, ◌+◌, ◌-◌, min, List, ◌++◌, length, take, drop, replicate, slice_range, sym, ap, ◌∙◌, inl, inr, arith, length-drop}
use Rattle.std.proofs.lemmas.Bool.{cases_lt}
use Rattle.std.proofs.lemmas.List.{append-nil, drop_all, take_all, take-append-le, take-replicate}
use Rattle.std.proofs.Math.Seq.{take-append-add}
use Rattle.image_pack.specs.Sealing.{erased_behind}

-- of bytes and erased ones behind them, the first so many
take-erased : (size count : ℕ) (bytes : List ℕ) → count ≡ min size (length bytes)
    → take size (bytes ++ replicate size 255) ≡ take count bytes ++ replicate (size - count) 255
take-erased size count bytes is = elim (cases_lt (length bytes) size) [
  | inl more ↦
      let all : count ≡ length bytes = omega (arith, is, more) in
      let rest : size ≡ length bytes + (size - count) = omega (arith, all, more) in
      ap (λ n. take n (bytes ++ replicate size 255)) rest
      ∙ take-append-add bytes (replicate size 255) (size - count)
      ∙ ap (λ xs. bytes ++ xs) (take-replicate (size - count) size 255 (omega arith))
      ∙ ap (λ xs. xs ++ replicate (size - count) 255) (sym (take_all count bytes (omega (arith, all))))
  | inr few ↦
      let all : count ≡ size = omega (arith, is, few) in
      let none : size - count ≡ 0 = omega (arith, all) in
      take-append-le size bytes (replicate size 255) few ∙ ap (λ n. take n bytes) (sym all)
      ∙ sym (append-nil (take count bytes)) ∙ ap (λ n. take count bytes ++ replicate n 255) (sym none)
]

-- what follows a place, which may be past the end
drop-min : (start from : ℕ) (bytes : List ℕ) → from ≡ min start (length bytes) → drop from bytes ≡ drop start bytes
drop-min start from bytes is = elim (cases_lt (length bytes) start) [
  | inl past ↦
      drop_all from bytes (omega (arith, is, past)) ∙ sym (drop_all start bytes (omega (arith, past)))
  | inr inside ↦ ap (λ n. drop n bytes) (let same : from ≡ start = omega (arith, is, inside) in same)
]

-- the part of a range that the bytes have, and the erased part behind it
pub erased_behind-parts : (start size from count : ℕ) (bytes : List ℕ) → from ≡ min start (length bytes)
    → count ≡ min size (length bytes - from)
    → slice_range bytes from (from + count) ++ replicate (size - count) 255 ≡ erased_behind bytes start size
erased_behind-parts start size from count bytes begins counts =
    let same = drop-min start from bytes begins in
    let rest = length-drop from bytes in
    let width : from + count - from ≡ count = omega arith in
    ap (λ n. take n (drop from bytes) ++ replicate (size - count) 255) width
    ∙ sym (take-erased size count (drop from bytes) (omega (arith, counts, rest)))
    ∙ ap (λ xs. take size (xs ++ replicate size 255)) same
