-- Ranges of ranges, and of a content.
use Rattle.std.proofs.Common.{◌≡◌, ℕ, ◌+◌, ◌-◌, ◌<◌, ◌≤◌, List, length, get_or, slice_range, sym, ◌∙◌, ap, arith}
use Rattle.std.proofs.lemmas.List.{ext_get_or}
use Rattle.pico_board.specs.declared.window.Window.{Window}
use Rattle.pico_board.specs.Content.{Content, window_bytes}
use Rattle.std.proofs.lemmas.List.Edits.{length-between, get_or-between}

-- a range of a range is a range
pub slice_range-slice_range : (xs : List ℕ) (start len at n : ℕ) → start + len ≤ length xs → at + n ≤ len
    → slice_range (slice_range xs start (start + len)) at (at + n) ≡ slice_range xs (start + at) (start + at + n)
slice_range-slice_range xs start len at n inside within =
    ext_get_or 0 (slice_range (slice_range xs start (start + len)) at (at + n))
    (slice_range xs (start + at) (start + at + n))
    (omega (arith, outer, inner, direct)) (λ k lt. each k (omega (arith, lt, outer, inner)))
  where
    inner : length (slice_range xs start (start + len)) ≡ start + len - start
    inner = length-between xs start (start + len) inside

    outer : length (slice_range (slice_range xs start (start + len)) at (at + n)) ≡ at + n - at
    outer = length-between (slice_range xs start (start + len)) at (at + n) (omega (arith, inner))

    direct : length (slice_range xs (start + at) (start + at + n)) ≡ start + at + n - (start + at)
    direct = length-between xs (start + at) (start + at + n) (omega arith)

    each : (k : ℕ) → k < n → get_or (slice_range (slice_range xs start (start + len)) at (at + n)) k 0
        ≡ get_or (slice_range xs (start + at) (start + at + n)) k 0
    each k lt =
        get_or-between (slice_range xs start (start + len)) at (at + n) k 0 (omega arith)
        ∙ (get_or-between xs start (start + len) (at + k) 0 (omega arith)
        ∙ (ap (λ (j : ℕ). get_or xs j 0) (omega arith)
        ∙ sym (get_or-between xs (start + at) (start + at + n) k 0 (omega arith))))

-- the bytes of a window inside the flash
pub length-window_bytes : (c : Content) (w : Window) → w.start + w.len ≤ length c.flash
    → length (window_bytes c w) ≡ w.len
length-window_bytes c w inside = length-between c.flash w.start (w.start + w.len) inside ∙ omega arith

pub get_or-window_bytes : (c : Content) (w : Window) (k : ℕ) → k < w.len
    → get_or (window_bytes c w) k 0 ≡ get_or c.flash (w.start + k) 0
get_or-window_bytes c w k lt = get_or-between c.flash w.start (w.start + w.len) k 0 (omega arith)
