use Rattle.std.proofs.Common.{ℕ, zero, suc, ◌≡◌, ◌≤◌, ◌<◌, ◌+◌, ◌-◌, ◌*◌, ◌⊎◌, inl, inr, replicate, refl, sym, arith, ◌∙◌}
use Rattle.std.specs.Prelude.{slice_index}
use Rattle.std.proofs.lemmas.List.{get_or-replicate, get_or_append_left, get_or-append_right, get_or_past}
use Rattle.block_codec.specs.Pages.{IsBlankWindowPage, IsSameWindowPage}
use Rattle.law_premises.specs.Examples.{two_pages}
use Rattle.law_premises.proofs.examples.formats.windows_that_are_partly_written.Goals as goal

first : (x i : ℕ) → i < 256 → slice_index (two_pages x) i ≡ 7
first x i low =
    get_or_append_left (replicate 256 7) (replicate 256 x) 0 i low ∙ get_or-replicate 256 i 7 0 low

second : (x i : ℕ) → 256 ≤ i → i < 512 → slice_index (two_pages x) i ≡ x
second x i from below =
    get_or-append_right (replicate 256 7) (replicate 256 x) 256 i 0 refl from
    ∙ get_or-replicate 256 (i - 256) x 0 (omega (arith, from, below))

behind : (x i : ℕ) → 512 ≤ i → slice_index (two_pages x) i ≡ 0
behind x i past = get_or_past (two_pages x) i 0 past

pages : (q : ℕ) → IsBlankWindowPage q (two_pages 255) ⊎ IsSameWindowPage q (two_pages 8) (two_pages 255)
pages zero = inr (λ i low. first 255 (256 * 0 + i) (omega (arith, low))
    ∙ sym (first 8 (256 * 0 + i) (omega (arith, low))))
pages (suc zero) = inl (λ i low. second 255 (256 * 1 + i) (omega (arith, low)) (omega (arith, low)))
pages (suc (suc q)) =
    inr (λ i low. behind 255 (256 * suc (suc q) + i) (omega (arith, low))
    ∙ sym (behind 8 (256 * suc (suc q) + i) (omega (arith, low))))

pub returns-clause-erased : goal.returns-clause-erased
returns-clause-erased c = record { long = refl; pages = pages }

pub returns-clause-other : goal.returns-clause-other
returns-clause-other c = λ partly. elim (partly.pages 1) [
  | inl blank ↦ let e : 9 ≡ 255 = blank 0 (omega arith) in absurd (omega (arith, e))
  | inr same ↦ let e : 9 ≡ 8 = same 0 (omega arith) in absurd (omega (arith, e))
]
