-- The bytes of windows that are rewritten, erased or left alone.
use Rattle.std.proofs.Common.{◌≡◌, ◌≢◌, ℕ, ◌+◌, ◌*◌, ◌/◌, ◌%◌, ◌<◌, ◌≤◌, List, length, get_or, sym, ap, ◌∙◌, arith, inl, inr}
use Rattle.std.specs.Prelude.{slice_index}
use Rattle.std.proofs.lemmas.Bool.{cases_lt}
use Rattle.std.proofs.lemmas.List.{get_or-set_other, get_or-set_same, get_or_past, length-set}
use Rattle.pico_board.specs.declared.Step.TheVariants.{Erase}
use Rattle.pico_board.specs.declared.window.Window.{Window}
use Rattle.pico_board.specs.Content.{Content, window_bytes}
use Rattle.pico_board.specs.Steps.{after}
use Rattle.pico_board.proofs.ChangedLemmas.{changed-inside}
use Rattle.pico_board.proofs.RangeLemmas.{get_or-window_bytes, length-window_bytes}
use Rattle.block_codec.specs.Erased.{IsErasedFrom}
use Rattle.image_check.specs.Changes.{ClearsTrialBit}
use Rattle.part_table.specs.Windows.{IsPlacedWindow}
use Rattle.trial_buy.specs.Buying.{cleared}

-- a byte of a window past its end
past-end : (c : Content) (w : Window) (i : ℕ) → w.start + w.len ≤ length c.flash → w.len ≤ i
    → get_or (window_bytes c w) i 0 ≡ 0
past-end c w i inside past =
    let long = length-window_bytes c w inside in get_or_past (window_bytes c w) i 0 (omega (arith, long, past))

-- a window in which the high bit of one byte of the flash is cleared
pub clears-window : (c : Content) (otp : List ℕ) (w : Window) (at : ℕ) → w.start + w.len ≤ length c.flash
    → at + 3 < w.len
    → ClearsTrialBit (window_bytes c w)
    (window_bytes (record { flash = cleared c.flash (w.start + at + 3); otp = otp }) w) at
clears-window c otp w at inside there = record {
  long = length-window_bytes after w within ∙ sym (length-window_bytes c w inside);
  cleared = get_or-window_bytes after w (at + 3) there ∙ ap (λ k. get_or after.flash k 0) same
      ∙ get_or-set_same c.flash place (get_or c.flash place 0 % 128) 0 (omega arith)
      ∙ ap (λ b. b % 128) (ap (λ k. get_or c.flash k 0) (sym same) ∙ sym (get_or-window_bytes c w (at + 3) there));
  others = λ i differ. other i differ;
}
  where
    place : ℕ
    place = w.start + at + 3

    after : Content
    after = record { flash = cleared c.flash (w.start + at + 3); otp = otp }

    same : w.start + (at + 3) ≡ place
    same = omega arith

    within : w.start + w.len ≤ length after.flash
    within = let long = length-set c.flash place (get_or c.flash place 0 % 128) in omega (arith, long, inside)

    other : (i : ℕ) → i ≢ at + 3 → slice_index (window_bytes after w) i ≡ slice_index (window_bytes c w) i
    other i differ = elim (cases_lt i w.len) [
      | inl lt ↦
          get_or-window_bytes after w i lt
          ∙ get_or-set_other c.flash place (w.start + i) (get_or c.flash place 0 % 128) 0
          (λ e. differ (omega (arith, e)))
          ∙ sym (get_or-window_bytes c w i lt)
      | inr past ↦ past-end after w i within past ∙ sym (past-end c w i inside past)
    ]

-- a window whose first sector is erased
pub erased-window : (c : Content) (w : Window) (n : ℕ) → IsPlacedWindow w n 0 → w.start + w.len ≤ length c.flash
    → IsErasedFrom (window_bytes (after c (Erase (w.start / 4096))) w) 0 4096
erased-window c w n placed inside i low high =
    let starts = placed.starts in
    let some = placed.some in
    get_or-window_bytes (after c (Erase (w.start / 4096))) w i (omega arith)
    ∙ changed-inside (λ j b. 255) (4096 * (w.start / 4096)) 4096 c.flash (w.start + i) (omega arith) (omega arith)
    (omega arith)
