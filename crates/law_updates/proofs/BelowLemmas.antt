-- An image is not below rows of which its triples and the boot flags are the same.
use Rattle.std.proofs.Common.{◌≡◌, inl, inr, ℕ, ◌+◌, ◌<◌, ◌≤◌, ◌%◌, ◌==◌, List, [], ◌∷◌, slice_index, Option, Some, None, IfSome, refl, sym, ap, ◌∙◌, subst, arith}
use Rattle.std.specs.Prelude.{Contains, count_ones}
use Rattle.std.proofs.lemmas.List.Elements.{Contains-append_right}
use Rattle.std.proofs.lemmas.List.Sums.{sum_by-cons}
use Rattle.image_def.specs.declared.started.Started.{Started}
use Rattle.otp_roll.specs.Rows.{IsOutside, count, majority}
use Rattle.otp_roll.specs.declared.flags.TheConstants.{BOOT_FLAGS}
use Rattle.otp_roll.proofs.RaisedLemmas.{majority-same}
use Rattle.image_check.specs.NotBelow.{NotBelow}

module _ (c d : List ℕ) (s : Started)
    (same : (row r : ℕ) → Contains s.rows.items r → (IsOutside row r → ⊥) → slice_index d row ≡ slice_index c row) where
  in-triple : (r j : ℕ) → j < 3 → IsOutside (r + j) r → ⊥
  in-triple r j few (inl below) = omega (arith, few, below)
  in-triple r j few (inr above) = omega (arith, few, above)

  row-kept : (r j : ℕ) → j < 3 → Contains s.rows.items r → slice_index d (r + j) ≡ slice_index c (r + j)
  row-kept r j few among = same (r + j) r among (in-triple r j few)

  majority-kept : (r : ℕ) → Contains s.rows.items r → majority d r ≡ majority c r
  majority-kept r among = majority-same {old = c} {new = d} {r = r} (record {
    first =
        let e : r + 0 ≡ r = omega arith in
        subst (λ i. slice_index d i ≡ slice_index c i) e (row-kept r 0 (omega arith) among);
    second = row-kept r 1 (omega arith) among;
    third = row-kept r 2 (omega arith) among;
  })

  counts-from : (ys : List ℕ) → ((r : ℕ) → Contains ys r → Contains s.rows.items r) → count d ys ≡ count c ys
  counts-from [] sub = refl
  counts-from (r ∷ ys) sub =
      let here = ap (λ m. count_ones m) (majority-kept r (sub r (0, omega arith, refl))) in
      let later = counts-from ys (λ q among. sub q (Contains-append_right (r ∷ []) ys q among)) in
      sum_by-cons (λ q. count_ones (majority d q)) r ys ∙ ap (λ n. n + count d ys) here
      ∙ ap (λ n. count_ones (majority c r) + n) later
      ∙ sym (sum_by-cons (λ q. count_ones (majority c q)) r ys)

  pub below-stays : slice_index d BOOT_FLAGS ≡ slice_index c BOOT_FLAGS → NotBelow c s → NotBelow d s
  below-stays flags not = record {
    version = go s.rollback not.version;
    required = λ is. not.required (sym (ap (λ v. v % 2 == 1) flags) ∙ is);
  }
    where
      go : (o : Option ℕ) → IfSome o (λ v. count c s.rows.items ≤ v) → IfSome o (λ v. count d s.rows.items ≤ v)
      go None reaches = tt
      go (Some v) reaches =
          let few = counts-from s.rows.items (λ r among. among) in omega (arith, few, reaches)
