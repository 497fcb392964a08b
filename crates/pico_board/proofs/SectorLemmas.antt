-- A sector and its sixteen pages.
use Rattle.std.proofs.Common.{◌≡◌, ℕ, ◌+◌, ◌-◌, ◌*◌, ◌/◌, ◌%◌, ◌<◌, List, get_or, slice_index, sym, ◌∙◌, ap, subst, inl, inr, arith}
use Rattle.std.specs.Int.{bit_at}
use Rattle.std.proofs.lemmas.List.{ext_get_or}
use Rattle.std.proofs.lemmas.Bool.{cases_lt, cases_eq}
use Rattle.pico_board.specs.Content.{Content}
use Rattle.pico_board.specs.Steps.{IsBetween}
use Rattle.pico_board.specs.Sessions.{IsBlank, IsBlankPage, IsClosing, IsPageOf, IsSamePage, SameButSector}

-- the byte of sector s at place i stands in page q of the sector, at place j
record IsPlaced (s i q j : ℕ) : Type 0 where
  near : j < 256
  page : IsPageOf s q
  same : 256 * q + j ≡ 4096 * s + i

placed : (s i : ℕ) → i < 4096 → IsPlaced s i (16 * s + i / 256) (i % 256)
placed s i lt = record { near = omega arith; page = (omega arith, omega arith); same = omega arith }

-- each page of a blank sector is blank
pub IsBlank-pages : (s : ℕ) (d : Content) → IsBlank s d → (q : ℕ) → IsPageOf s q → IsBlankPage q d
IsBlank-pages s d blank q page i lt =
    ap (λ (k : ℕ). slice_index d.flash k) (omega (arith, page.0, page.1))
    ∙ blank (256 * q + i - 4096 * s) (omega (arith, page.0, page.1))

-- a sector whose pages are blank is so
pub IsBlank-from : (s : ℕ) (d : Content) → ((q : ℕ) → IsPageOf s q → IsBlankPage q d) → IsBlank s d
IsBlank-from s d blank i lt =
    let at = placed s i lt in
    ap (λ (k : ℕ). slice_index d.flash k) (sym at.same)
    ∙ blank (16 * s + i / 256) at.page (i % 256) at.near

-- contents that differ in one sector alone, whose pages are the same, are equal
pub SameButSector-same : (s : ℕ) (c d : Content) → SameButSector s c d
    → ((q : ℕ) → IsPageOf s q → IsSamePage q c d) → d ≡ c
SameButSector-same s c d same pages =
    let flash : d.flash ≡ c.flash = ext_get_or 0 d.flash c.flash same.outside.long (λ k lt. each k) in
    ap (λ (xs : List ℕ). record { flash = xs; otp = d.otp }) flash
    ∙ ap (λ (xs : List ℕ). record { flash = c.flash; otp = xs }) same.rows
  where
    inside : (i : ℕ) → i < 4096 → slice_index d.flash (4096 * s + i) ≡ slice_index c.flash (4096 * s + i)
    inside i lt =
        let at = placed s i lt in
        ap (λ (k : ℕ). slice_index d.flash k) (sym at.same)
        ∙ (pages (16 * s + i / 256) at.page (i % 256) at.near ∙ ap (λ (k : ℕ). slice_index c.flash k) at.same)

    each : (k : ℕ) → get_or d.flash k 0 ≡ get_or c.flash k 0
    each k = elim (cases_lt k (4096 * s)) [
      | inl below ↦ same.outside.below k below
      | inr from ↦ elim (cases_lt k (4096 * s + 4096)) [
        | inl here ↦ let e : 4096 * s + (k - 4096 * s) ≡ k = omega (arith, from) in
            subst (λ (n : ℕ). get_or d.flash n 0 ≡ get_or c.flash n 0) e
            (inside (k - 4096 * s) (omega (arith, from, here)))
        | inr above ↦ same.outside.above k above
      ]
    ]

-- each bit of the last sector is set or is the finished one
pub IsClosing-between : (z : Content) (s p : ℕ) (d : Content) → IsClosing z s p d → (i : ℕ) → i < 4096
    → IsBetween 255 (slice_index z.flash (4096 * s + i)) (slice_index d.flash (4096 * s + i))
IsClosing-between z s p d closing i lt =
    let at = placed s i lt in
    let j = i % 256 in
    subst (λ (n : ℕ). IsBetween 255 (slice_index z.flash n) (slice_index d.flash n)) at.same
    (elim (cases_eq (16 * s + i / 256) p) [
      | inl torn ↦ subst (λ (q : ℕ). IsBetween 255 (slice_index z.flash (256 * q + i % 256))
          (slice_index d.flash (256 * q + i % 256))) (sym torn) (closing.between (i % 256) at.near)
      | inr other ↦ elim (closing.others (16 * s + i / 256) at.page other) [
        | inl blank ↦ λ k. inl (ap (λ (b : ℕ). bit_at b k) (blank (i % 256) at.near))
        | inr done ↦ λ k. inr (ap (λ (b : ℕ). bit_at b k) (done (i % 256) at.near))
      ]
    ])
