-- What is left between the programs of a gated list has no stray block.
use Rattle.std.proofs.Common.{◌≡◌, inl, inr, ℕ, ◌+◌, ◌*◌, ◌<◌, ◌≤◌, List, [], ◌∷◌, ◌++◌, length, slice_index, sym, ap, ◌∙◌, subst, arith}
use Rattle.std.specs.List.{AllByRecursion}
use Rattle.std.proofs.lemmas.Bool.{cases_lt}
use Rattle.std.proofs.lemmas.List.{get_or_past}
use Rattle.std.proofs.lemmas.List.Edits.{length-between}
use Rattle.block_codec.specs.Pages.{IsBlankWindowPage as IsBlankPageOf, IsPartlyWritten, IsSameWindowPage as IsSamePageOf}
use Rattle.block_codec.proofs.PageLemmas.{block_written}
use Rattle.pico_board.specs.declared.Step.{Step}
use Rattle.pico_board.specs.declared.window.Window.{Window}
use Rattle.pico_board.specs.Content.{Content, IsContent, window_bytes}
use Rattle.pico_board.specs.Sessions.{Gated, IsBlankPage, IsConfined, IsPageOf, IsPartial, IsSamePage, Unfinished}
use Rattle.pico_board.specs.Steps.{after_all}
use Rattle.pico_board.specs.ViewedWindows.{IsViewed-window}
use Rattle.pico_board.proofs.CuttingLemmas.{IsContent-after_all, length-after_all}
use Rattle.pico_board.proofs.PhaseLemmas.{prefix_phase}
use Rattle.pico_board.proofs.RangeLemmas.{get_or-window_bytes}
use Rattle.boot_sweep.specs.Firms.{Stray}
use Rattle.boot_sweep.proofs.ChanceLemmas.{gated-confined, steps-in}

module _ (z d : Content) (w : Window) (s : ℕ) (first : 4096 * s ≡ w.start) (part : IsPartial z s d)
    (in_z : w.start + w.len ≤ length z.flash) (in_d : w.start + w.len ≤ length d.flash) (room : 4096 ≤ w.len) where
  long-z : length (window_bytes z w) ≡ w.len
  long-z = let n = length-between z.flash w.start (w.start + w.len) in_z in omega (arith, n)

  long-d : length (window_bytes d w) ≡ w.len
  long-d = let n = length-between d.flash w.start (w.start + w.len) in_d in omega (arith, n)

  -- bytes behind the first sector are the same
  same-behind : (k : ℕ) → 4096 ≤ k → slice_index (window_bytes d w) k ≡ slice_index (window_bytes z w) k
  same-behind k far = elim (cases_lt k w.len) [
    | inl lt ↦
        let other : slice_index d.flash (w.start + k) ≡ slice_index z.flash (w.start + k) =
        part.same.outside.above (w.start + k) (omega (arith, first, far)) in
        get_or-window_bytes d w k lt ∙ (other ∙ sym (get_or-window_bytes z w k lt))
    | inr ge ↦
        get_or_past (window_bytes d w) k 0 (omega (arith, ge, long-d))
        ∙ sym (get_or_past (window_bytes z w) k 0 (omega (arith, ge, long-z)))
  ]

  page-of : (q : ℕ) → q < 16 → IsPageOf s (16 * s + q)
  page-of q lt = (omega arith, omega (arith, lt))

  blank-page : (q : ℕ) → q < 16 → IsBlankPage (16 * s + q) d → IsBlankPageOf q (window_bytes d w)
  blank-page q lt blank i small =
      let k : 256 * (16 * s + q) + i ≡ w.start + (256 * q + i) = omega (arith, first) in
      get_or-window_bytes d w (256 * q + i) (omega (arith, lt, small, room))
      ∙ (ap (slice_index d.flash) (sym k) ∙ blank i small)

  same-page : (q : ℕ) → q < 16 → IsSamePage (16 * s + q) z d → IsSamePageOf q (window_bytes z w) (window_bytes d w)
  same-page q lt same i small =
      let k : 256 * (16 * s + q) + i ≡ w.start + (256 * q + i) = omega (arith, first) in
      let near : 256 * q + i < w.len = omega (arith, lt, small, room) in
      get_or-window_bytes d w (256 * q + i) near
      ∙ (ap (slice_index d.flash) (sym k) ∙ (same i small
      ∙ (ap (slice_index z.flash) k ∙ sym (get_or-window_bytes z w (256 * q + i) near))))

  pub partly : IsPartlyWritten (window_bytes z w) (window_bytes d w)
  partly = record {
    long = long-d ∙ sym long-z;
    pages = λ q. elim (cases_lt q 16) [
      | inl lt ↦ elim (part.pages (16 * s + q) (page-of q lt)) [
        | inl blank ↦ inl (blank-page q lt blank)
        | inr same ↦ inr (same-page q lt same)
      ]
      | inr ge ↦ inr (λ i small. same-behind (256 * q + i) (omega (arith, ge)))
    ];
  }

pub none-stray : (c : Content) (w : Window) (steps done others : List Step) (step : Step) → IsContent c
    → w.start + w.len ≤ length c.flash → Gated steps w → steps ≡ done ++ step ∷ others
    → Unfinished c steps w (after_all c done) → Stray (after_all c steps) (after_all c done) w → ⊥
none-stray c w steps done others step right inside (inl none) whole unfinished stray =
    empty done (sym none ∙ whole)
  where
    empty : (xs : List Step) → [] ≡ xs ++ step ∷ others → ⊥
    empty [] e = cc
    empty (x ∷ xs) e = cc
none-stray c w steps done others step right inside (inr (s, e, l, g)) whole unfinished (b, stray) =
    elim (prefix_phase c steps w s e l done (step ∷ others) g inside whole) [
      | inl none ↦ unfinished.moved (ap (after_all c) none)
      | inr (inl blank) ↦
          let i = unfinished.touched.0 in
          unfinished.touched.2 (ap (λ n. slice_index (after_all c done).flash (n + i)) (sym g.first)
          ∙ blank i unfinished.touched.1)
      | inr (inr part) ↦
          let z = after_all c steps in
          let d = after_all c done in
          let in_z : w.start + w.len ≤ length z.flash = let n = length-after_all c steps in omega (arith, n, inside) in
          let in_d : w.start + w.len ≤ length d.flash = let n = length-after_all c done in omega (arith, n, inside) in
          let all = gated-confined w steps (inr (s, e, l, g)) in
          let head = (subst (λ xs. AllByRecursion (IsConfined w) xs) g.whole all).0 in
          let low = head.0 in
          let high = head.1 in
          let room : 4096 ≤ w.len = let f = g.first in omega (arith, f, high) in
          let z-content = IsContent-after_all c steps right (steps-in w (length c.flash) steps inside all) in
          let viewed = IsViewed-window z w z-content in_z in
          let found = block_written (window_bytes z w) (window_bytes d w) b.at b
          (partly z d w s g.first part in_z in_d room) viewed.bytes stray.stands in
          stray.new found.0 found.1 found.2
    ]
