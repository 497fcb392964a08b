-- Different pages of a sector are at most sixteen.
use Rattle.std.proofs.Common.{◌≡◌, ℕ, ◌+◌, ◌-◌, ◌*◌, ◌/◌, ◌<◌, ◌≤◌, false, true, List, [], ◌∷◌, ◌++◌, length, ◌∙◌, arith, length-append}
use Rattle.std.specs.Prelude.{◌==◌, nat_eq}
use Rattle.std.specs.List.{AllByRecursion, list_any, range_with_len}
use Rattle.std.specs.Set.{is_member}
use Rattle.std.proofs.lemmas.Bool.Decides.{Decides-eqb}
use Rattle.std.proofs.lemmas.Cmp.{nat_eq_equiv}
use Rattle.std.proofs.lemmas.List.Elements.{All-from_recursion}
use Rattle.std.proofs.lemmas.List.FromFn.{get_or-range_with_len, length-range_with_len}
use Rattle.std.proofs.lemmas.Map.Made.{is_member-Decides, length-le_from_is_member}
use Rattle.boot_sweep.specs.Gating.{ArePages}
use Rattle.boot_sweep.proofs.PageLemmas.{pages-more}

in-sector : (s : ℕ) (ps : List ℕ) (q : ℕ) → AllByRecursion (λ p. p / 16 ≡ s) ps → is_member nat_eq ps q ≡ true
    → is_member nat_eq (range_with_len (16 * s) 16) q ≡ true
in-sector s ps q all member =
    let held = (is_member-Decides Decides-eqb ps q).0 member in
    let here = All-from_recursion (λ p. p / 16 ≡ s) ps all held.0 q held.1 in
    let low : 16 * s ≤ q = omega (arith, here, held.2) in
    let high : q < 16 * s + 16 = omega (arith, here, held.2) in
    (is_member-Decides Decides-eqb (range_with_len (16 * s) 16) q).1 (
      q - 16 * s,
      omega (arith, low, high, length-range_with_len (16 * s) 16),
      get_or-range_with_len (16 * s) 16 (q - 16 * s) q (omega (arith, low, high)) ∙ omega (arith, low),
    )

pub pages-few : (s : ℕ) (pages : List ℕ) → ArePages s pages → length pages ≤ 16
pages-few s pages are =
    omega (
      arith,
      length-range_with_len (16 * s) 16,
      length-le_from_is_member nat_eq_equiv pages (range_with_len (16 * s) 16) are.distinct
          (λ q member. in-sector s pages q are.inside member),
    )

-- there is room for one more page
pub pages_room : (s : ℕ) (pages : List ℕ) (p : ℕ) → ArePages s pages → p / 16 ≡ s
    → list_any (λ x. x == p) pages ≡ false → length pages < 16
pages_room s pages p are inside fresh =
    let few = pages-few s (pages ++ p ∷ []) (pages-more s pages p are inside fresh) in
    let long = length-append pages (p ∷ []) in
    omega (arith, few, long)
