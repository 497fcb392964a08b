-- The worked examples of the steps of a session.
use Rattle.std.proofs.Common.{◌≡◌, ◌≢◌, ℕ, ◌<◌, ◌≤◌, All, List, [], ◌∷◌, length, slice_index, bit_and, bit_or, refl, sym, ◌∙◌, ap, subst, inl, inr, arith}
use Rattle.std.specs.Prelude.{nat_eq}
use Rattle.std.specs.List.{AllByRecursion, IsDistinct}
use Rattle.std.proofs.lemmas.List.Elements.{All-from_recursion}
use Rattle.pico_board.specs.Content.{Content, IsContent}
use Rattle.pico_board.specs.Steps.{Erase, Program, CutOf, after, after_all, changed}
use Rattle.pico_board.specs.Cuts.{pattern_at}
use Rattle.pico_board.specs.Sessions.{Gated, IsElsewhere, IsGated, IsProgramIn, Unfinished, pages_of}
use Rattle.pico_board.specs.Examples.{first_sector_steps, half_done, second_sector, two_pages, two_sectors}
use Rattle.pico_board.proofs.ChangedLemmas.{changed-at, changed-outside, length-changed}
use Rattle.pico_board.proofs.ContentLemmas.{flash_bytes-after}
use Rattle.pico_board.proofs.CuttingLemmas.{CutOf-from}
use Rattle.pico_board.proofs.GateLemmas.{IsDistinct-first, IsDistinct-more, IsDistinct-none}
use Rattle.pico_board.proofs.TornStepLemmas.{Torn-torn_by}

pub IsGated-two_pages : (page other : List ℕ)
    → IsGated (two_pages page other) two_sectors 2 (second_sector other) (first_sector_steps page)
IsGated-two_pages page other = record {
  whole = refl;
  first = refl;
  confined = (
    (omega arith, omega arith),
    (
      (omega arith, omega arith),
      (
        (omega arith, omega arith),
        ((omega arith, omega arith), tt),
      ),
    ),
  );
  apart = ((λ e. absurd (omega (arith, e))), (inr (omega arith), tt));
  final = ((omega arith, omega arith), tt);
  distinct = IsDistinct-more 32 [] tt IsDistinct-none;
}

-- a gated list begins with the erase of the first sector
pub other_first : Gated (Erase 3 ∷ []) two_sectors → ⊥
other_first (inl none) = absurd cc
other_first (inr (s, e, l, gated)) =
    let same : 3 ≡ s = cc gated.whole in
    absurd (omega (arith, same, gated.first))

not_elsewhere : (page : List ℕ) (s : ℕ) → 2 ≡ s → IsElsewhere s (Program 32 page) → ⊥
not_elsewhere page s same (inl below) = absurd (omega (arith, same, below))
not_elsewhere page s same (inr above) = absurd (omega (arith, same, above))

-- the first sector is programmed at the end
pub too_early : (page : List ℕ) → Gated (Erase 2 ∷ Program 32 page ∷ Erase 3 ∷ []) two_sectors → ⊥
too_early page (inl none) = absurd cc
too_early page (inr (s, [], l, gated)) =
    let tail : Program 32 page ∷ Erase 3 ∷ [] ≡ l = cc gated.whole in
    (subst (AllByRecursion (IsProgramIn s)) (sym tail) gated.final).1.0
too_early page (inr (s, x ∷ e, l, gated)) =
    let same : 2 ≡ s = cc gated.whole in
    let head : Program 32 page ≡ x = cc gated.whole in
    not_elsewhere page s same (subst (IsElsewhere s) (sym head) gated.apart.0)

-- no page of the first sector is programmed twice
pub twice : (page : List ℕ) → Gated (Erase 2 ∷ Program 32 page ∷ Program 32 page ∷ []) two_sectors → ⊥
twice page (inl none) = absurd cc
twice page (inr (s, [], l, gated)) =
    let tail : Program 32 page ∷ Program 32 page ∷ [] ≡ l = cc gated.whole in
    let distinct : IsDistinct nat_eq (32 ∷ 32 ∷ []) =
    subst (λ l. IsDistinct nat_eq (pages_of l)) (sym tail) gated.distinct in
    absurd (cc ((IsDistinct-first 32 (32 ∷ []) distinct).0))
twice page (inr (s, x ∷ e, l, gated)) =
    let same : 2 ≡ s = cc gated.whole in
    let head : Program 32 page ≡ x = cc gated.whole in
    not_elsewhere page s same (subst (IsElsewhere s) (sym head) gated.apart.0)

module _ (c : Content) (page other : List ℕ) (room : 16384 ≤ length c.flash) where
  abbrev before : Content
  before = after_all c (Erase 2 ∷ Erase 3 ∷ Program 48 other ∷ [])

  long : length before.flash ≡ length c.flash
  long =
      length-changed (λ i b. bit_and b (slice_index other i)) 12288 256
      (changed (λ i b. 255) 12288 4096 (changed (λ i b. 255) 8192 4096 c.flash))
      ∙ length-changed (λ i b. 255) 12288 4096 (changed (λ i b. 255) 8192 4096 c.flash)
      ∙ length-changed (λ i b. 255) 8192 4096 c.flash

  before_bytes : IsContent c → All (λ b. b < 256) before.flash
  before_bytes is =
      let erased = after (after c (Erase 2)) (Erase 3) in
      flash_bytes-after erased (Program 48 other)
      (flash_bytes-after (after c (Erase 2)) (Erase 3) (flash_bytes-after c (Erase 2) is.flash_bytes))

  -- the first byte is erased before the last step
  erased_byte : slice_index before.flash 8192 ≡ 255
  erased_byte =
      changed-outside (λ i b. bit_and b (slice_index other i)) 12288 256
      (changed (λ i b. 255) 12288 4096 (changed (λ i b. 255) 8192 4096 c.flash)) 8192 (inl (omega arith))
      ∙ changed-outside (λ i b. 255) 12288 4096 (changed (λ i b. 255) 8192 4096 c.flash) 8192 (inl (omega arith))
      ∙ changed-at (λ i b. 255) 8192 4096 c.flash 0 (omega arith) (omega (arith, room))

  pub CutOf-half_done : IsContent c → CutOf c (two_pages page other) (half_done c page other)
  CutOf-half_done is =
      CutOf-from c (two_pages page other) (half_done c page other) (
        3,
        Program 32 page,
        record {
          stands = refl;
          torn = Torn-torn_by (0x0f ∷ []) before (Program 32 page)
              (All-from_recursion (λ b. b < 256) (0x0f ∷ []) (omega arith, tt)) (before_bytes is);
        },
      )

  module _ (zero_byte : slice_index page 0 ≡ 0) where
    torn_byte : slice_index (half_done c page other).flash 8192 ≡ 0x0f
    torn_byte =
        changed-at (λ i b. bit_and b (bit_or (slice_index page i) (pattern_at (0x0f ∷ []) i))) 8192 256 before.flash 0
        (omega arith) (omega (arith, room, long))
        ∙ ap (λ b. bit_and b (bit_or (slice_index page 0) 0x0f)) erased_byte
        ∙ ap (λ d. bit_and 255 (bit_or d 0x0f)) zero_byte

    done_byte : slice_index (after_all c (two_pages page other)).flash 8192 ≡ 0
    done_byte =
        changed-at (λ i b. bit_and b (slice_index page i)) 8192 256 before.flash 0
        (omega arith) (omega (arith, room, long))
        ∙ ap (λ b. bit_and b (slice_index page 0)) erased_byte
        ∙ ap (λ d. bit_and 255 d) zero_byte

    pub Unfinished-half_done : slice_index c.flash 8192 ≢ 0x0f
        → Unfinished c (two_pages page other) two_sectors (half_done c page other)
    Unfinished-half_done differs = record {
      moved = λ same. differs (sym (ap (λ (d : Content). slice_index d.flash 8192) same) ∙ torn_byte);
      short = λ same.
          let e = ap (λ (d : Content). slice_index d.flash 8192) same in
          absurd (omega (arith, e, torn_byte, done_byte));
      touched = (0, omega arith, λ blank. absurd (omega (arith, blank, torn_byte)));
    }
