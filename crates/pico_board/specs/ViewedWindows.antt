-- The bytes of a window are a view. This is a proof, and stands here since the view of a window
-- hands it to its callers.
use Rattle.std.specs.Prelude.{ℕ, ◌<◌, ◌≤◌, ◌+◌, length}
use Rattle.std.proofs.Common.{◌≡◌, ◌-◌, arith, sym, subst}
use Rattle.std.proofs.lemmas.List.Edits.{length-between, get_or-between}
use Rattle.pico_board.specs.declared.window.Window.{Window}
use Rattle.pico_board.specs.Content.{Content, IsContent, window_bytes}
use Rattle.pico_board.specs.Views.{IsViewed}

-- the bytes of a window of a content are a view
pub IsViewed-window : (c : Content) (w : Window) → IsContent c → w.start + w.len ≤ length c.flash
    → IsViewed (window_bytes c w)
IsViewed-window c w is inside =
    let long : length (window_bytes c w) ≡ w.start + w.len - w.start =
    length-between c.flash w.start (w.start + w.len) inside in
    record {
      short = omega (arith, is.flash_length.most, long);
      bytes = λ k d lt.
          let near : w.start + k < w.start + w.len = omega (arith, lt, long) in
          subst (λ (b : ℕ). b < 256) (sym
          (get_or-between c.flash w.start (w.start + w.len) k d near))
          (is.flash_bytes (w.start + k) d (omega (arith, near, inside)));
    }
