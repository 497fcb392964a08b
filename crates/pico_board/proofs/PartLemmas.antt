-- The worked examples of pages, and of sectors that are finished in part.
use Rattle.std.proofs.Common.{◌≡◌, ◌≢◌, ◌⊎◌, ℕ, ◌+◌, ◌*◌, ◌<◌, ◌≤◌, slice_index, inl, inr, arith}
use Rattle.pico_board.specs.Content.{Content}
use Rattle.pico_board.specs.Sessions.{IsBlankPage, IsPartial, IsSamePage, SameButSector}

pub IsSamePage-one : (z d : Content)
    → ((i : ℕ) → 256 ≤ i → i < 512 → slice_index d.flash i ≡ slice_index z.flash i) → IsSamePage 1 z d
IsSamePage-one z d same i lt = same (256 + i) (omega arith) (omega (arith, lt))

pub IsPartial-pages : (z d : Content) → SameButSector 2 z d
    → ((q : ℕ) → 32 ≤ q → q ≤ 47 → IsBlankPage q d ⊎ IsSamePage q z d) → IsPartial z 2 d
IsPartial-pages z d beside pages = record {
  same = beside;
  pages = λ q of. pages q (omega (arith, of.0)) (omega (arith, of.1));
}

-- a page of which byte i is not erased and byte j is not finished is neither blank nor finished
pub not_in_part : (z d : Content) (q i j : ℕ) → 32 ≤ q → q ≤ 47 → i < 256 → j < 256
    → slice_index d.flash (256 * q + i) ≢ 255
    → slice_index d.flash (256 * q + j) ≢ slice_index z.flash (256 * q + j) → ¬ (IsPartial z 2 d)
not_in_part z d q i j low high first second differs other part =
    elim (part.pages q (omega (arith, low), omega (arith, high))) [
      | inl blank ↦ differs (blank i first)
      | inr same ↦ other (same j second)
    ]
