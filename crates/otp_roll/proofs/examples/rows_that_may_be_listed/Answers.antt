use Rattle.std.proofs.Common.{◌≡◌, ℕ, ◌+◌, ◌*◌, ◌<◌, ◌≤◌, List, length, get_or, map, arith, inl}
use Rattle.std.specs.List.{range_with_len}
use Rattle.std.proofs.lemmas.List.FromFn.{length-map-range_with_len, get_or-map-range_with_len}
use Rattle.otp_roll.specs.Rows.{AreRollbackRows}
use Rattle.otp_roll.proofs.examples.rows_that_may_be_listed.Goals as goal

-- n rows from the first one on, with no row between their triples
abbrev side_by_side : ℕ → List ℕ
side_by_side n = map (λ i. 0x0c0 + 3 * i) (range_with_len 0 n)

length-side : (n : ℕ) → length (side_by_side n) ≡ n
length-side n = length-map-range_with_len (λ i. 0x0c0 + 3 * i) 0 n

row-side : (n i d : ℕ) → i < n → get_or (side_by_side n) i d ≡ 0x0c0 + 3 * i
row-side n i d within = get_or-map-range_with_len (λ k. 0x0c0 + 3 * k) 0 n i i d within (omega arith)

may-be : (n : ℕ) → n ≤ 32 → AreRollbackRows (side_by_side n)
may-be n few = record {
  few = omega (arith, length-side n);
  in_range = λ i d within. let here =
      row-side n i d (omega (arith, length-side n)) in (omega (arith, here), omega (arith, here, length-side n));
  apart = λ i j d before within. let here = row-side n i d (omega (arith, length-side n)) in let there =
      row-side n j d (omega (arith, length-side n)) in inl (omega (arith, here, there));
}

pub returns-clause-number : goal.returns-clause-number
returns-clause-number c = λ n. (λ listed. omega (arith, listed.few, length-side n), λ few. may-be n few)
