-- Two flashes are the same where their sectors are.
use Rattle.std.proofs.Common.{◌≡◌, ◌≢◌, ◌∙◌, ℕ, ◌+◌, ◌*◌, ◌/◌, ◌≤◌, Bool, true, false, List, ◌++◌, length, take, drop, refl, sym, ap, arith}
use Rattle.std.specs.Prelude.{◌↔◌, slice_range}
use Rattle.std.proofs.lemmas.List.{take-append-drop, take-take, take_all}
use Rattle.std.proofs.lemmas.Slice.{between_is}
use Rattle.pico_board.specs.Content.{Content, IsContent}

not-both : {P : Type 0} (b : Bool) → b ≡ false → b ≡ true → P
not-both b e f = cc

-- the front, and the range behind it
take-range : (xs : List ℕ) (at n : ℕ) → take (at + n) xs ≡ take at xs ++ slice_range xs at (at + n)
take-range xs at n =
    sym (take-append-drop at (take (at + n) xs))
    ∙ (ap (λ ys. ys ++ drop at (take (at + n) xs)) (take-take at (at + n) xs (omega arith))
    ∙ ap (λ ys. take at xs ++ ys) (sym (between_is xs at (at + n))))

-- one sector more is the same
pub sector-more : (one two : List ℕ) (i : ℕ) → take (4096 * i) one ≡ take (4096 * i) two
    → slice_range one (4096 * i) (4096 * i + 4096) ≡ slice_range two (4096 * i) (4096 * i + 4096)
    → take (4096 * (i + 1)) one ≡ take (4096 * (i + 1)) two
sector-more one two i same sector =
    let next : 4096 * (i + 1) ≡ 4096 * i + 4096 = omega arith in
    ap (λ n. take n one) next
    ∙ (take-range one (4096 * i) 4096 ∙ (ap (λ xs. xs ++ slice_range one (4096 * i) (4096 * i + 4096)) same
    ∙ (ap (λ xs. take (4096 * i) two ++ xs) sector
    ∙ (sym (take-range two (4096 * i) 4096) ∙ ap (λ n. take n two) (sym next)))))

-- where a range differs the flashes do
pub differs : (one two : List ℕ) (at n : ℕ) (same : Bool)
    → ((same ≡ true) ↔ (slice_range one at (at + n) ≡ slice_range two at (at + n))) → same ≡ false
    → (true ≡ true) ↔ (one ≢ two)
differs one two at n same test other = (
  (λ e alike. not-both same other (test.1 (ap (λ xs. slice_range xs at (at + n)) alike))),
  λ differ. refl,
)

-- where all sectors are the same the flashes are
pub whole-same : (one two : List ℕ) (i : ℕ) → length one ≡ length two → take (4096 * i) one ≡ take (4096 * i) two
    → length two ≤ 4096 * i → (false ≡ true) ↔ (one ≢ two)
whole-same one two i long same end =
    let alike : one ≡ two =
    sym (take_all (4096 * i) one (omega (arith, long, end))) ∙ (same ∙ take_all (4096 * i) two end) in (
      (λ e. not-both false refl e),
      λ differ. absurd (differ alike),
    )

pub is-end : (c : Content) (i : ℕ) → IsContent c → length c.flash / 4096 ≤ i → length c.flash ≤ 4096 * i
is-end c i right end = let whole = right.flash_length.whole in omega (arith, end, whole)
