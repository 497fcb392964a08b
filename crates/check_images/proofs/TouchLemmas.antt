-- A window shares a byte with a range exactly where the test says so.
use Rattle.std.proofs.Common.{◌≡◌, ◌↔◌, ℕ, ◌+◌, ◌*◌, true, false, max, min, arith}
use Rattle.std.proofs.lemmas.Bool.{lt-ltb, ltb-true}
use Rattle.pico_board.specs.declared.Step.{Step}
use Rattle.pico_board.specs.declared.step.Step.TheVariants.{Erase, Program, Raise}
use Rattle.pico_board.specs.declared.window.Window.{Window}
use Rattle.check_images.specs.Touching.{SharesByte, Touches, shares_byte, touches}

shares : (w : Window) (at n : ℕ) → shares_byte w at n ≡ true → SharesByte w at n
shares w at n e =
    let lt = ltb-true (max w.start at) (min (w.start + w.len) (at + n)) e in record {
      byte = max w.start at;
      above = omega arith;
      below = omega (arith, lt);
      from = omega arith;
      to = omega (arith, lt);
    }

shared : (w : Window) (at n : ℕ) → SharesByte w at n → shares_byte w at n ≡ true
shared w at n s =
    let above = s.above in
    let below = s.below in
    let from = s.from in
    let to = s.to in
    lt-ltb (max w.start at) (min (w.start + w.len) (at + n)) (omega (arith, above, below, from, to))

not-true : {P : Type 0} → false ≡ true → P
not-true e = cc

pub touches-is : (w : Window) (step : Step) → (touches w step ≡ true) ↔ Touches w step
touches-is w (Erase s) = (shares w (4096 * s) 4096, shared w (4096 * s) 4096)
touches-is w (Program p d) = (shares w (256 * p) 256, shared w (256 * p) 256)
touches-is w (Raise r b) = (not-true, λ no. absurd no)
